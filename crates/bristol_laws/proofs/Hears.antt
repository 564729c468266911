-- One more line without a fault: code and what was heard match behind it too.
--     makes_match, same_match    behind XOR, AND and INV; behind EQW
--     matches_hears              behind any line
-- Assumes nothing.
use mathlib.Core.Path.{◌≡◌, refl, ap, ◌∙◌}
use mathlib.Core.Bool.{Bool, true, false, not, cond}
use mathlib.Core.List.{List, [], ◌∷◌, ◌++◌}
use Prim.Native.Nat.{ℕ, suc, ◌+◌, ◌*◌, ◌<◌, ◌≤◌}
use native.Mathlib.Omega.{arith}
use lib.ListN.{length, set, take, length-append}
use lib.Dec.{leb, ltb, eqb}
use borrow.Author.Tests.{ltb-true, le-leb, eq-eqb, ne_eqb}
use Rattle.theory_files.specs.Written.{gate_bytes}
use Rattle.bristol_text.specs.Words.{words}
use Rattle.bristol_text.specs.Lines.{Line, blank, bad, counts, widths, other_word, xor_gate, and_gate, inv_gate, eqw_gate, are, numbers, total}
use Rattle.bristol_text.specs.Heard.{Heard, hear_gate, hear, says, writes, written, two_fault, within, line_fault}
use Rattle.bristol_text.specs.Renamed.{makes, rename, renamed}
use Rattle.bristol_text.specs.Told.{told}
use Rattle.bristol_text.proofs.LineLaws.{Said, line_told}
use Rattle.bristol_text.proofs.Sane.{Sane, two_joins, one_joins}
use Rattle.bristol_wires.specs.declared.Text.{Text}
use Rattle.bristol_wires.specs.Mirror.{entry_of, ours_of, next_entry, gate_put, one_more, after_gate, map_after, gates_after, text_after}
use Rattle.bristol_laws.specs.Matches.{Fine, Matches}
use Rattle.bristol_laws.proofs.FaultLaws.{capped_few}
use Rattle.bristol_laws.proofs.GateLaws.{put_long, put_kept, capped_more, entered}
use Rattle.bristol_laws.proofs.HeaderLaws.{rewords, counts_match, widths_match, widths_words}

-- the entry that a gate of ours gets is never 0
next_some : (t : Text) → eqb (next_entry t) 0 ≡ false
unfolding next_entry
next_some t = go (leb t.ins 1024) (leb t.made 3072)
  where
    go : (a b : Bool) → eqb (cond a (cond b (t.ins + t.made + 1) 1) 1) 0 ≡ false
    go true true = ne_eqb (t.ins + t.made + 1) 0 (λ e. omega arith)
    go true false = refl
    go false b = refl

-- a gate line that has no fault is not beyond those said
within_more : (n s k : ℕ) → cond (ltb n s) k 15 ≡ 0 → n < s
within_more n s k e = ltb-true n s (go (ltb n s) e)
  where
    go : (b : Bool) → cond b k 15 ≡ 0 → b ≡ true
    go true f = refl
    go false f = absurd (omega arith)

module _ (h : Heard) (t : Text) (ws : List (List ℕ)) (m g : List ℕ) (q : Matches h t ws m g) where
  abbrev I : ℕ
  I = total h.ins

  abbrev n : ℕ
  n = length (renamed h).gates

  pub ours_is : Fine h → (x : ℕ) → written h x ≡ true → ours_of m t.ins x ≡ (renamed h).wire x
  unfolding ours_of
  ours_is f x k = let e = q.numbered f x k in omega arith

  pub made_is : Fine h → t.made ≡ n
  made_is f = q.made ∙ capped_few n f.1

  next_is : Fine h → next_entry t ≡ suc (I + n)
  unfolding next_entry
  next_is f = rw (made_is f, q.ins, le-leb I 1024 f.0, le-leb n 3072 f.1) (omega arith)

  -- a line that writes z, behind which our numbers and gates are r
  module _ (l : Line) (z : ℕ) (late : 2 < h.stage) (own : (w : ℕ) → writes l w ≡ eqb w z) (below : z < 8192) (new : written h z ≡ false) (more : length h.gates < h.said) where
    makes_match : (k a b a₀ b₀ : ℕ) → rename I (renamed h) l ≡ makes I (renamed h) z (k, a, b) → (Fine h → (a₀ ≡ a) × (b₀ ≡ b))
        → Matches (hear_gate h l) (after_gate t (one_more t.made)) ws (set m z (next_entry t)) (gate_put t.made k a₀ b₀ g)
    makes_match k a b a₀ b₀ r same =
        entered h t ws m g q l z (next_entry t) (one_more t.made) (gate_put t.made k a₀ b₀ g) late own below new more
        (rw (r, long, q.made) (capped_more n)) (next_some t) (put_long t.made k a₀ b₀ g q.gates_long)
        (λ s. small (rw r at s))
        (λ w f. rw (r, f))
      where
        long : length ((renamed h).gates ++ ((k, a, b) ∷ [])) ≡ n + 1
        long = length-append (renamed h).gates ((k, a, b) ∷ [])

        small : (I ≤ 1024) × (length ((renamed h).gates ++ ((k, a, b) ∷ [])) ≤ 3072)
            → let r' = rename I (renamed h) l in
            (n ≤ 3072) × (next_entry t ≡ suc (r'.wire z)) × (take (6 * length r'.gates) (gate_put t.made k a₀ b₀ g) ≡ gate_bytes r'.gates)
        small s =
            let few : n ≤ 3072 = omega (arith, long) in
            let f : Fine h = (s.0, few) in
            let ab = same f in
            (few, rw (r, eq-eqb z z refl) (next_is f), rw (r, made_is f, ab.0, ab.1) (put_kept (renamed h).gates k a b g q.gates_long (omega (arith, long)) (q.kept f)))

    same_match : (x : ℕ) → written h x ≡ true → rename I (renamed h) l ≡ record { wire = λ w. cond (eqb w z) ((renamed h).wire x) ((renamed h).wire w); gates = (renamed h).gates }
        → Matches (hear_gate h l) (after_gate t t.made) ws (set m z (entry_of m t.ins x)) g
    same_match x k r =
        entered h t ws m g q l z (entry_of m t.ins x) t.made g late own below new more
        (rw r q.made) (q.marks x ∙ ap not k) q.gates_long
        (λ s. let f : Fine h = rw r at s in (f.1, rw (r, eq-eqb z z refl) (q.numbered f x k), rw r (q.kept f)))
        (λ w f. rw (r, f))

-- a line by what it says
module _ (h : Heard) (t : Text) (ws v : List (List ℕ)) (m g : List ℕ) (q : Matches h t ws m g) (s : Sane h) where
  abbrev now : List (List ℕ)
  now = cond (eqb t.stage 1) v ws

  kept : Matches h t now m g
  kept = rewords h t ws m g q v

  two_match : (l : Line) (k x y z : ℕ) → ((w : ℕ) → writes l w ≡ eqb w z) → 2 < h.stage → x < h.wires → y < h.wires → z < h.wires → within h (two_fault h x y z) ≡ 0
      → rename (total h.ins) (renamed h) l ≡ makes (total h.ins) (renamed h) z (k, (renamed h).wire x, (renamed h).wire y)
      → Matches (hear_gate h l) (after_gate t (one_more t.made)) now (set m z (next_entry t)) (gate_put t.made k (ours_of m t.ins x) (ours_of m t.ins y) g)
  two_match l k x y z own late a b c f r =
      let j = two_joins h s x y z f a b c in
      let few = s.few_wires in
      makes_match h t now m g kept l z late own (omega arith) j.2.1 (within_more (length h.gates) h.said _ f) k _ _ _ _ r
      (λ e. (ours_is h t now m g kept e x j.0.1, ours_is h t now m g kept e y j.1.1))

  said_match : (l : Line) → Said h.stage h.wires l → line_fault h l ≡ 0 → ((xs : List ℕ) → l ≡ widths xs → numbers v ≡ are (length xs ∷ xs))
      → Matches (hear h l) (text_after t (told l)) now (map_after t m (told l)) (gates_after t m (told l) g)
  unfolding Said line_fault hear told text_after map_after gates_after writes rename
  said_match blank d f e = kept
  said_match bad d f e = kept
  said_match other_word d f e = kept
  said_match (counts c w) d f e = counts_match h t ws m g q s (omega arith) c w now
  said_match (widths xs) d f e = widths_match h t ws m g q s d.1 xs v h.stage refl d.0 (e xs refl)
  said_match (xor_gate x y z) d f e = two_match (xor_gate x y z) 1 x y z (λ w. refl) d.0 d.1 d.2 d.3 f refl
  said_match (and_gate x y z) d f e = two_match (and_gate x y z) 2 x y z (λ w. refl) d.0 d.1 d.2 d.3 f refl
  said_match (inv_gate x z) d f e =
      let j = one_joins h s x z f d.1 d.2 in
      let few = s.few_wires in
      makes_match h t now m g kept (inv_gate x z) z d.0 (λ w. refl) (omega arith) j.1.1 (within_more (length h.gates) h.said _ f) 3 _ 0 _ 0 refl
      (λ e. (ours_is h t now m g kept e x j.0.1, refl))
  said_match (eqw_gate x z) d f e =
      let j = one_joins h s x z f d.1 d.2 in
      let few = s.few_wires in
      same_match h t now m g kept (eqw_gate x z) z d.0 (λ w. refl) (omega arith) j.1.1 (within_more (length h.gates) h.said _ f) x j.0.1 refl

pub matches_hears : (h : Heard) (t : Text) (ws : List (List ℕ)) (m g : List ℕ) → Matches h t ws m g → Sane h
    → (bytes : List ℕ) → let l = says h bytes in line_fault h l ≡ 0
    → Matches (hear h l) (text_after t (told l)) (cond (eqb t.stage 1) (words bytes) ws) (map_after t m (told l)) (gates_after t m (told l) g)
matches_hears h t ws m g q s bytes f =
    said_match h t ws (words bytes) m g q s (says h bytes) (line_told h.stage h.wires (words bytes)) f (λ xs. widths_words xs h.stage h.wires (words bytes))
