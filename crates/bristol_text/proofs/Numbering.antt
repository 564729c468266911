-- Our numbers of a text's wires, and our gates on them, behind lines that run in order.
--     named               numbers and gates behind lines
--     inputs_keep         an input has its own number
--     our_gates_are       our gates are the XOR, AND and INV lines in their order, on the last numbers of their wires
--     line_takes          the wire of an EQW has the number of the one that it reads; that of any other gate line is I + the gates of ours before it
--     no_gaps             every number below I + G is that of a written wire
-- Assumes nothing.
use mathlib.Core.Path.{◌≡◌, refl, sym, ap, ap₂, ◌∙◌, subst}
use mathlib.Core.Bool.{Bool, true, false}
use mathlib.Core.List.{List, [], ◌∷◌, ◌++◌}
use Prim.Native.Nat.{ℕ, zero, suc, ◌+◌, ◌<◌, ◌≤◌}
use native.Mathlib.Omega.{arith}
use lib.ListN.{length, get_or, take, length-append}
use lib.Dec.{ltb}
use borrow.Author.Tests.{lt-ltb, ltb-true, ltb-false, eq-eqb}
use Rattle.theory_files.specs.Written.{Numbers3}
use Rattle.bristol_text.specs.Lines.{Line, blank, bad, counts, widths, other_word, xor_gate, and_gate, inv_gate, eqw_gate}
use Rattle.bristol_text.specs.Heard.{known, writes, any_writes}
use Rattle.bristol_text.specs.Renamed.{Renamed, rename, rename_all, inputs_alone}
use Rattle.bristol_text.specs.Order.{Joins, Runs, none, more, our_gate, our_gates, Takes}
use Rattle.bristol_text.proofs.Behind.{or_true, known_more, known_there, rename_more, our_more, new_apart, kept, gates_grow}

-- two numberings that agree on what is written give the same gates
abbrev Agree : ℕ → List Line → (f g : ℕ → ℕ) → Type 0
Agree I ls f g = (w : ℕ) → known I ls w ≡ true → f w ≡ g w

module _ (I W : ℕ) (f g : ℕ → ℕ) where
  same_gate : (ls : List Line) (l : Line) → Joins I W ls l → Agree I ls f g → our_gate f l ≡ our_gate g l
  unfolding Joins our_gate
  same_gate ls (xor_gate x y z) j a = rw (a x j.0.1, a y j.1.1)
  same_gate ls (and_gate x y z) j a = rw (a x j.0.1, a y j.1.1)
  same_gate ls (inv_gate x z) j a = rw (a x j.0.1)
  same_gate ls (eqw_gate x z) j a = refl
  same_gate ls blank j a = refl
  same_gate ls bad j a = refl
  same_gate ls (counts c w) j a = refl
  same_gate ls (widths ws) j a = refl
  same_gate ls other_word j a = refl

  same_gates : {ls : List Line} → Runs I W ls → Agree I ls f g → our_gates f ls ≡ our_gates g ls
  unfolding our_gates
  same_gates none a = refl
  same_gates (more {ls = ls} r l j) a =
      let b : Agree I ls f g = λ w e. a w (known_more I ls l w e) in
      our_more f ls l ∙ ap₂ (λ (p q : List Numbers3). p ++ q) (same_gates r b) (same_gate ls l j b) ∙ sym (our_more g ls l)

abbrev pub named : ℕ → List Line → Renamed
named I ls = rename_all I inputs_alone ls

module _ (I W : ℕ) where
  agree_more : (ls : List Line) (l : Line) → Joins I W ls l → Agree I ls (named I (ls ++ (l ∷ []))).wire (named I ls).wire
  agree_more ls l j w e = ap (λ (r : Renamed). r.wire w) (rename_more I inputs_alone ls l) ∙ kept I W ls l (named I ls) j w e

  pub our_gates_are : {ls : List Line} → Runs I W ls → (named I ls).gates ≡ our_gates (named I ls).wire ls
  unfolding rename_all inputs_alone our_gates
  our_gates_are none = refl
  our_gates_are (more {ls = ls} r l j) =
      let now = (named I (ls ++ (l ∷ []))).wire in
      let a = agree_more ls l j in
      ap (λ (q : Renamed). q.gates) (rename_more I inputs_alone ls l)
      ∙ gates_grow I (named I ls) l
      ∙ ap₂ (λ (p q : List Numbers3). p ++ q) (our_gates_are r ∙ sym (same_gates I W now (named I ls).wire r a)) (sym (same_gate I W now (named I ls).wire ls l j a))
      ∙ sym (our_more now ls l)

  pub inputs_keep : {ls : List Line} → Runs I W ls → (w : ℕ) → w < I → (named I ls).wire w ≡ w
  unfolding rename_all inputs_alone
  inputs_keep none w h = refl
  inputs_keep (more {ls = ls} r l j) w h =
      agree_more ls l j w (or_true (ltb w I) (any_writes ls w) (lt-ltb w I h)) ∙ inputs_keep r w h

-- line by line: each gate of ours takes a number
Numbered : (ℕ → ℕ) → ℕ → List Line → Type 0
Numbered f n [] = Unit {0}
Numbered f n (l ∷ ls) = Takes f n l × Numbered f (n + length (our_gate f l)) ls

-- by the line's place
numbered_at : (f : ℕ → ℕ) (n : ℕ) (ls : List Line) → Numbered f n ls → (k : ℕ) → Takes f (n + length (our_gates f (take k ls))) (get_or ls k blank)
unfolding Numbered Takes our_gates
numbered_at f n [] h k = tt
numbered_at f n (l ∷ ls) h zero = subst (λ (m : ℕ). Takes f m l) (omega arith) h.0
numbered_at f n (l ∷ ls) h (suc k) =
    let e = length-append (our_gate f l) (our_gates f (take k ls)) in
    subst (λ (m : ℕ). Takes f m (get_or ls k blank)) (omega arith) (numbered_at f (n + length (our_gate f l)) ls h.1 k)

-- one more line, and one less
module _ (f : ℕ → ℕ) where
  numbered_more : (n : ℕ) (ls : List Line) (l : Line) → Numbered f n ls → Takes f (n + length (our_gates f ls)) l → Numbered f n (ls ++ (l ∷ []))
  unfolding Numbered our_gates
  numbered_more n [] l h t = (subst (λ (k : ℕ). Takes f k l) (omega arith) t, tt)
  numbered_more n (m ∷ ls) l h t =
      let e = length-append (our_gate f m) (our_gates f ls) in
      (h.0, numbered_more (n + length (our_gate f m)) ls l h.1 (subst (λ (k : ℕ). Takes f k l) (omega arith) t))

  numbered_less : (n : ℕ) (ls : List Line) (l : Line) → Numbered f n (ls ++ (l ∷ [])) → Numbered f n ls × Takes f (n + length (our_gates f ls)) l
  unfolding Numbered our_gates
  numbered_less n [] l h = (tt, subst (λ (k : ℕ). Takes f k l) (omega arith) h.0)
  numbered_less n (m ∷ ls) l h =
      let e = length-append (our_gate f m) (our_gates f ls) in
      let q = numbered_less (n + length (our_gate f m)) ls l h.1 in
      ((h.0, q.0), subst (λ (k : ℕ). Takes f k l) (omega arith) q.1)

module _ (I W : ℕ) (f g : ℕ → ℕ) where
  same_takes : (ls : List Line) (l : Line) → Joins I W ls l → Agree I (ls ++ (l ∷ [])) f g → (n : ℕ) → Takes f n l → Takes g n l
  unfolding Joins Takes writes
  same_takes ls (xor_gate x y z) j a n t = sym (a z (known_there I ls (xor_gate x y z) z (eq-eqb z z refl))) ∙ t
  same_takes ls (and_gate x y z) j a n t = sym (a z (known_there I ls (and_gate x y z) z (eq-eqb z z refl))) ∙ t
  same_takes ls (inv_gate x z) j a n t = sym (a z (known_there I ls (inv_gate x z) z (eq-eqb z z refl))) ∙ t
  same_takes ls (eqw_gate x z) j a n t =
      sym (a z (known_there I ls (eqw_gate x z) z (eq-eqb z z refl))) ∙ t ∙ a x (known_more I ls (eqw_gate x z) x j.0.1)
  same_takes ls blank j a n t = tt
  same_takes ls bad j a n t = tt
  same_takes ls (counts c w) j a n t = tt
  same_takes ls (widths ws) j a n t = tt
  same_takes ls other_word j a n t = tt

  same_numbered : {ls : List Line} → Runs I W ls → Agree I ls f g → (n : ℕ) → Numbered f n ls → Numbered g n ls
  unfolding Numbered
  same_numbered none a n h = tt
  same_numbered (more {ls = ls} r l j) a n h =
      let b : Agree I ls f g = λ w e. a w (known_more I ls l w e) in
      let q = numbered_less f n ls l h in
      numbered_more g n ls l (same_numbered r b n q.0)
      (subst (λ (k : List Numbers3). Takes g (n + length k) l) (same_gates I W f g r b) (same_takes ls l j a (n + length (our_gates f ls)) q.1))

-- the line's own wire
takes_now : (I W : ℕ) (ls : List Line) (l : Line) (r : Renamed) → Joins I W ls l → Takes (rename I r l).wire (I + length r.gates) l
unfolding Joins Takes rename
takes_now I W ls (xor_gate x y z) r j = rw (eq-eqb z z refl)
takes_now I W ls (and_gate x y z) r j = rw (eq-eqb z z refl)
takes_now I W ls (inv_gate x z) r j = rw (eq-eqb z z refl)
takes_now I W ls (eqw_gate x z) r j = rw (eq-eqb z z refl, new_apart I ls x z j.0.1 j.1.1)
takes_now I W ls blank r j = tt
takes_now I W ls bad r j = tt
takes_now I W ls (counts g w) r j = tt
takes_now I W ls (widths ws) r j = tt
takes_now I W ls other_word r j = tt

module _ (I W : ℕ) where
  numbered : {ls : List Line} → Runs I W ls → Numbered (named I ls).wire I ls
  unfolding Numbered
  numbered none = tt
  numbered (more {ls = ls} r l j) =
      let old = named I ls in
      let now = (named I (ls ++ (l ∷ []))).wire in
      let a = agree_more I W ls l j in
      let gs : our_gates now ls ≡ old.gates = same_gates I W now old.wire r a ∙ sym (our_gates_are I W r) in
      numbered_more now I ls l (same_numbered I W old.wire now r (λ w e. sym (a w e)) I (numbered r))
      (rw (gs, rename_more I inputs_alone ls l) (takes_now I W ls l old j))

  pub line_takes : {ls : List Line} → Runs I W ls → (k : ℕ) → let f = (named I ls).wire in Takes f (I + length (our_gates f (take k ls))) (get_or ls k blank)
  line_takes {ls} r k = numbered_at (named I ls).wire I ls (numbered r) k

  -- a gate of ours is made by a line whose wire has its number
  made_here : (ls : List Line) (l : Line) (r : Renamed) → 0 < length (our_gate r.wire l)
      → (z : ℕ) × (known I (ls ++ (l ∷ [])) z ≡ true) × ((rename I r l).wire z ≡ I + length r.gates)
  unfolding our_gate rename writes
  made_here ls (xor_gate x y z) r h = (z, known_there I ls (xor_gate x y z) z (eq-eqb z z refl), rw (eq-eqb z z refl))
  made_here ls (and_gate x y z) r h = (z, known_there I ls (and_gate x y z) z (eq-eqb z z refl), rw (eq-eqb z z refl))
  made_here ls (inv_gate x z) r h = (z, known_there I ls (inv_gate x z) z (eq-eqb z z refl), rw (eq-eqb z z refl))
  made_here ls (eqw_gate x z) r h = absurd (omega arith)
  made_here ls blank r h = absurd (omega arith)
  made_here ls bad r h = absurd (omega arith)
  made_here ls (counts g w) r h = absurd (omega arith)
  made_here ls (widths ws) r h = absurd (omega arith)
  made_here ls other_word r h = absurd (omega arith)

  at_most_one : (f : ℕ → ℕ) (l : Line) → length (our_gate f l) ≤ 1
  unfolding our_gate
  at_most_one f (xor_gate x y z) = omega arith
  at_most_one f (and_gate x y z) = omega arith
  at_most_one f (inv_gate x z) = omega arith
  at_most_one f (eqw_gate x z) = omega arith
  at_most_one f blank = omega arith
  at_most_one f bad = omega arith
  at_most_one f (counts g w) = omega arith
  at_most_one f (widths ws) = omega arith
  at_most_one f other_word = omega arith

  pub no_gaps : {ls : List Line} → Runs I W ls → (v : ℕ) → v < I + length (named I ls).gates → (w : ℕ) × (known I ls w ≡ true) × ((named I ls).wire w ≡ v)
  unfolding rename_all inputs_alone any_writes
  no_gaps none v h = (v, or_true (ltb v I) false (lt-ltb v I (omega arith)), refl)
  no_gaps (more {ls = ls} r l j) v h = go (ltb v (I + length (named I ls).gates)) refl (λ q. no_gaps r v q)
    where
      grown : length (named I (ls ++ (l ∷ []))).gates ≡ length (named I ls).gates + length (our_gate (named I ls).wire l)
      grown = ap (λ (q : Renamed). length q.gates) (rename_more I inputs_alone ls l) ∙ ap length (gates_grow I (named I ls) l) ∙ length-append (named I ls).gates _

      go : (b : Bool) → ltb v (I + length (named I ls).gates) ≡ b
          → (v < I + length (named I ls).gates → (w : ℕ) × (known I ls w ≡ true) × ((named I ls).wire w ≡ v))
          → (w : ℕ) × (known I (ls ++ (l ∷ [])) w ≡ true) × ((named I (ls ++ (l ∷ []))).wire w ≡ v)
      go true e ih = let q = ih (ltb-true _ _ e) in (q.0, known_more I ls l q.0 q.1, agree_more I W ls l j q.0 q.1 ∙ q.2)
      go false e ih =
          let low : I + length (named I ls).gates ≤ v = ltb-false _ _ e in
          let one = at_most_one (named I ls).wire l in
          let n = grown in
          let q = made_here ls l (named I ls) (omega arith) in
          (q.0, q.1, ap (λ (r : Renamed). r.wire q.0) (rename_more I inputs_alone ls l) ∙ q.2 ∙ omega arith)
