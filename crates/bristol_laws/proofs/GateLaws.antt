-- A gate line behind lines without a fault: what it puts into the map and behind our gates.
--     entry_same, entry_other    the entry of a wire that is put, and of another
--     put_long, put_kept         a gate behind those that are there
--     capped_more                one gate more, of those that are counted
--     entered                    a line that writes wire z, whatever entry it gets
-- Assumes nothing.
use mathlib.Core.Path.{◌≡◌, refl, sym, ap, ◌∙◌}
use mathlib.Core.Bool.{Bool, true, false, not, cond, ◌||◌}
use mathlib.Core.List.{List, [], ◌∷◌, ◌++◌, append_assoc}
use Prim.Native.Nat.{ℕ, suc, ◌+◌, ◌*◌, ◌<◌, ◌≤◌}
use native.Mathlib.Omega.{arith}
use lib.ListN.{length, take, drop, set, length-set, length-append, length-drop}
use lib.Seq.{get_or-set_same, get_or-set_other, take_at, length-take-le}
use lib.Dec.{leb, ltb, eqb}
use borrow.Author.Tests.{lt-ltb, ltb-true, leb-true, leb-false, le-leb, lt-leb, eqb-true, eqb-false}
use Rattle.theory_files.specs.Written.{two, Numbers3, gate_bytes}
use Rattle.file_writer.specs.Mirror.{write}
use Rattle.theory_calls.proofs.Limits.{or_first}
use Rattle.bristol_text.specs.Lines.{Line, total}
use Rattle.bristol_text.specs.Heard.{Heard, writes, written, hear_gate}
use Rattle.bristol_text.specs.Renamed.{Renamed, rename, inputs_alone, renamed}
use Rattle.bristol_text.proofs.Behind.{or_false, known_is, known_before, rename_more}
use Rattle.bristol_wires.specs.declared.Text.{Text}
use Rattle.bristol_wires.specs.Mirror.{entry_of, gate_put, one_more, after_gate}
use Rattle.bristol_laws.specs.Matches.{capped, Fine, Matches}

or_last : (a : Bool) → (a || true) ≡ true
or_last true = refl
or_last false = refl

module _ (m : List ℕ) (I z e : ℕ) where
  entry_same : ltb z I ≡ false → z < length m → entry_of (set m z e) I z ≡ e
  unfolding entry_of
  entry_same n l = rw n (get_or-set_same m z e 0 l)

  entry_other : (w : ℕ) → eqb w z ≡ false → entry_of (set m z e) I w ≡ entry_of m I w
  unfolding entry_of
  entry_other w n = rw (get_or-set_other m z w e 0 (eqb-false w z n))

-- a gate behind those that are there
bytes_more : (gs : List Numbers3) (x : Numbers3) → gate_bytes (gs ++ (x ∷ [])) ≡ gate_bytes gs ++ gate_bytes (x ∷ [])
unfolding gate_bytes two
bytes_more [] x = refl
bytes_more (y ∷ gs) x = ap (λ (z : List ℕ). two y.0 ++ (two y.1 ++ (two y.2 ++ z))) (bytes_more gs x)

six : (x : Numbers3) → length (gate_bytes (x ∷ [])) ≡ 6
unfolding gate_bytes two
six x = refl

write_long : (at : ℕ) (a l : List ℕ) → at + length a ≤ length l → length (write at a l) ≡ length l
unfolding write
write_long at a l h =
    let b = length-append (take at l) (a ++ drop (at + length a) l) in
    let c = length-append a (drop (at + length a) l) in
    let d = length-drop (at + length a) l in
    let e = length-take-le at l (omega arith) in
    omega arith

pub put_long : (n k a b : ℕ) (g : List ℕ) → length g ≡ 18432 → length (gate_put n k a b g) ≡ 18432
unfolding gate_put
put_long n k a b g e = go (ltb n 3072) refl
  where
    go : (t : Bool) → ltb n 3072 ≡ t → length (cond t (write (6 * n) (gate_bytes ((k, a, b) ∷ [])) g) g) ≡ 18432
    go true h =
        let l : n < 3072 = ltb-true n 3072 h in
        let s = six (k, a, b) in
        write_long (6 * n) (gate_bytes ((k, a, b) ∷ [])) g (omega arith) ∙ e
    go false h = e

pub put_kept : (gs : List Numbers3) (k a b : ℕ) (g : List ℕ) → length g ≡ 18432 → length gs < 3072 → take (6 * length gs) g ≡ gate_bytes gs
    → take (6 * length (gs ++ ((k, a, b) ∷ []))) (gate_put (length gs) k a b g) ≡ gate_bytes (gs ++ ((k, a, b) ∷ []))
unfolding gate_put write
put_kept gs k a b g e l h =
    let x : Numbers3 = (k, a, b) in
    let n = length-append gs (x ∷ []) in
    let s = six x in
    let f = length-take-le (6 * length gs) g (omega arith) in
    let j = length-append (take (6 * length gs) g) (gate_bytes (x ∷ [])) in
    let long : length (take (6 * length gs) g ++ gate_bytes (x ∷ [])) ≡ 6 * length (gs ++ (x ∷ [])) = omega arith in
    rw (lt-ltb (length gs) 3072 l, ← append_assoc (take (6 * length gs) g) (gate_bytes (x ∷ [])) (drop (6 * length gs + length (gate_bytes (x ∷ []))) g))
    (take_at (take (6 * length gs) g ++ gate_bytes (x ∷ [])) _ _ long ∙ ap (λ (p : List ℕ). p ++ gate_bytes (x ∷ [])) h ∙ sym (bytes_more gs x))

-- one gate more, of those that are counted
pub capped_more : (n : ℕ) → one_more (capped n) ≡ capped (n + 1)
unfolding capped one_more
capped_more n = go (leb n 3071) refl
  where
    go : (b : Bool) → leb n 3071 ≡ b
        → cond (leb (cond (leb n 3072) n 3073) 3072) (cond (leb n 3072) n 3073 + 1) (cond (leb n 3072) n 3073) ≡ cond (leb (n + 1) 3072) (n + 1) 3073
    go true e = let l = leb-true n 3071 e in rw (le-leb n 3072 (omega arith), le-leb n 3072 (omega arith), le-leb (n + 1) 3072 (omega arith))
    go false e = let l = leb-false n 3071 e in rw (lt-leb (n + 1) 3072 (omega arith)) (again (leb n 3072) refl)
      where
        again : (b : Bool) → leb n 3072 ≡ b → cond (leb (cond b n 3073) 3072) (cond b n 3073 + 1) (cond b n 3073) ≡ 3073
        again true f = let k = leb-true n 3072 f in let j = leb-false n 3071 e in rw f (omega arith)
        again false f = refl

module _ (h : Heard) (t : Text) (ws : List (List ℕ)) (m g : List ℕ) (q : Matches h t ws m g) where
  abbrev I : ℕ
  I = total h.ins

  abbrev Small : Renamed → Type 0
  Small r = (I ≤ 1024) × (length r.gates ≤ 3072)

  module _ (l : Line) (z e made : ℕ) (g' : List ℕ) (late : 2 < h.stage) (own : (w : ℕ) → writes l w ≡ eqb w z)
      (below : z < 8192) (new : written h z ≡ false) (more : length h.gates < h.said) where
    abbrev r' : Renamed
    r' = rename I (renamed h) l

    one_more_line : length (h.gates ++ (l ∷ [])) ≡ length h.gates + 1
    one_more_line = length-append h.gates (l ∷ [])

    put_marks : eqb e 0 ≡ false → (w : ℕ) → eqb (entry_of (set m z e) t.ins w) 0 ≡ not (written (hear_gate h l) w)
    put_marks some w = rw (q.ins, known_is I h.gates l w, own w) (go (eqb w z) refl)
      where
        go : (b : Bool) → eqb w z ≡ b → eqb (entry_of (set m z e) I w) 0 ≡ not (written h w || b)
        go true f =
            let k : w ≡ z = eqb-true w z f in
            rw (k, entry_same m I z e (or_first (ltb z I) _ new) (omega (arith, q.map_long)), or_last (written h z)) some
        go false f = rw (entry_other m I z e w f, or_false (written h w)) (rw q.ins at (q.marks w))

    put_numbered : (e ≡ suc (r'.wire z)) → ((w : ℕ) → eqb w z ≡ false → r'.wire w ≡ (renamed h).wire w) → Fine h
        → (w : ℕ) → written (hear_gate h l) w ≡ true → entry_of (set m z e) t.ins w ≡ suc (r'.wire w)
    put_numbered same others fine w k = rw q.ins (go (eqb w z) refl)
      where
        go : (b : Bool) → eqb w z ≡ b → entry_of (set m z e) I w ≡ suc (r'.wire w)
        go true f =
            let k : w ≡ z = eqb-true w z f in
            rw k (entry_same m I z e (or_first (ltb z I) _ new) (omega (arith, q.map_long)) ∙ same)
        go false f =
            entry_other m I z e w f ∙ ap (λ (i : ℕ). entry_of m i w) (sym q.ins)
            ∙ q.numbered fine w (known_before I h.gates l w k (own w ∙ f)) ∙ ap suc (sym (others w f))

    pub entered : made ≡ capped (length r'.gates) → eqb e 0 ≡ false → length g' ≡ 18432
        → (Small r' → (length (renamed h).gates ≤ 3072) × (e ≡ suc (r'.wire z)) × (take (6 * length r'.gates) g' ≡ gate_bytes r'.gates))
        → ((w : ℕ) → eqb w z ≡ false → r'.wire w ≡ (renamed h).wire w)
        → Matches (hear_gate h l) (after_gate t made) ws (set m z e) g'
    unfolding after_gate
    entered count some long small others = record {
      stage = q.stage;
      wires = q.wires;
      values = q.values;
      ins = q.ins;
      outs = q.outs;
      left = omega (arith, one_more_line, q.left);
      few = omega (arith, one_more_line);
      made = rw again count;
      map_long = length-set m z e ∙ q.map_long;
      gates_long = long;
      marks = put_marks some;
      numbered = λ f w k. let s = small (rw again at f) in rw again (put_numbered s.1 others (f.0, s.0) w k);
      kept = λ f. rw again (small (rw again at f)).2;
      clean = λ k. absurd (omega arith);
      inputs_line = q.inputs_line;
    }
      where
        again : renamed (hear_gate h l) ≡ r'
        again = rename_more I inputs_alone h.gates l
