-- A buffer that is filled from the front is written on at the seam.
--     fill_two, fill_three, fill_four, fill_six    so many bytes more, at the place k where what was written ends; fill_one is sharing's
--     put_link4, put_link12                        what is delivered of a deal and of a gate, in the transcript
use mathlib.Core.Path.{◌≡◌, ap, ◌∙◌}
use mathlib.Core.List.{List, [], ◌∷◌, ◌++◌, append_assoc}
use Prim.Native.Nat.{ℕ, ◌+◌, ◌≤◌}
use native.Mathlib.Omega.{arith}
use lib.ListN.{length, set, length-append}
use Rattle.theory_sharing.specs.Ops.{Ops}
use Rattle.theory_sharing.specs.Sites.{Trio}
use Rattle.theory_sharing.specs.Published.{Deal}
use Rattle.theory_sharing.specs.Steps.{later, delivered, delivered3}
use Rattle.theory_sharing.specs.Store.{fill}
use Rattle.theory_sharing.proofs.StoreLaws.{fill_one}
use Rattle.run_messages.specs.Mirror.{on_line}
use Rattle.run_steps.specs.Mirror.{on_lines, put_twelve, put_four}
use Rattle.run_laws.specs.Link.{sent_of, sent3}

-- a pair of a wire
pub fill_two : (old new : List ℕ) (k a b : ℕ) → length new ≡ k → k + 2 ≤ length old
    → set (set (fill old new) k a) (k + 1) b ≡ fill old (new ++ (a ∷ b ∷ []))
fill_two old new k a b e h =
    let l = length-append new (a ∷ []) in
    ap (λ z. set z (k + 1) b) (fill_one old new k a e (omega arith))
    ∙ fill_one old (new ++ (a ∷ [])) (k + 1) b (omega arith) (omega arith)
    ∙ ap (fill old) (append_assoc new (a ∷ []) (b ∷ []))

-- what three sites open
pub fill_three : (old new : List ℕ) (k a b c : ℕ) → length new ≡ k → k + 3 ≤ length old
    → set (set (set (fill old new) k a) (k + 1) b) (k + 2) c ≡ fill old (new ++ (a ∷ b ∷ c ∷ []))
fill_three old new k a b c e h =
    let l = length-append new (a ∷ b ∷ []) in
    ap (λ z. set z (k + 2) c) (fill_two old new k a b e (omega arith))
    ∙ fill_one old (new ++ (a ∷ b ∷ [])) (k + 2) c (omega arith) (omega arith)
    ∙ ap (fill old) (append_assoc new (a ∷ b ∷ []) (c ∷ []))

-- a deal's bits
pub fill_four : (old new : List ℕ) (k a b c d : ℕ) → length new ≡ k → k + 4 ≤ length old
    → set (set (set (set (fill old new) k a) (k + 1) b) (k + 2) c) (k + 3) d ≡ fill old (new ++ (a ∷ b ∷ c ∷ d ∷ []))
fill_four old new k a b c d e h =
    let l = length-append new (a ∷ b ∷ c ∷ []) in
    ap (λ z. set z (k + 3) d) (fill_three old new k a b c e (omega arith))
    ∙ fill_one old (new ++ (a ∷ b ∷ c ∷ [])) (k + 3) d (omega arith) (omega arith)
    ∙ ap (fill old) (append_assoc new (a ∷ b ∷ c ∷ []) (d ∷ []))

-- an opening's bits
pub fill_six : (old new : List ℕ) (k a b c d x y : ℕ) → length new ≡ k → k + 6 ≤ length old
    → set (set (set (set (set (set (fill old new) k a) (k + 1) b) (k + 2) c) (k + 3) d) (k + 4) x) (k + 5) y
    ≡ fill old (new ++ (a ∷ b ∷ c ∷ d ∷ x ∷ y ∷ []))
fill_six old new k a b c d x y e h =
    let l = length-append new (a ∷ b ∷ c ∷ d ∷ []) in
    let m = length-append new (a ∷ b ∷ c ∷ d ∷ x ∷ []) in
    ap (λ z. set (set z (k + 4) x) (k + 5) y) (fill_four old new k a b c d e (omega arith))
    ∙ ap (λ z. set z (k + 5) y)
    (fill_one old (new ++ (a ∷ b ∷ c ∷ d ∷ [])) (k + 4) x (omega arith) (omega arith) ∙ ap (fill old) (append_assoc new (a ∷ b ∷ c ∷ d ∷ []) (x ∷ [])))
    ∙ fill_one old (new ++ (a ∷ b ∷ c ∷ d ∷ x ∷ [])) (k + 5) y (omega arith) (omega arith)
    ∙ ap (fill old) (append_assoc new (a ∷ b ∷ c ∷ d ∷ x ∷ []) (y ∷ []))

-- ---- the transcript
module _ (R : Ops) (old : List ℕ) where
  -- a deal's four bits in the transcript: an input's, and one site's of a gate
  pub put_link4 : (done : List ℕ) (at : ℕ) (er : ℕ → ℕ) (D : Deal) → length done ≡ at → at + 4 ≤ length old
      → put_four at (on_line R er (sent_of D)) (fill old done) ≡ fill old (done ++ delivered R er D)
  unfolding put_four on_line delivered
  put_link4 done at er D e h = fill_four old done at _ _ _ _ e h

  -- four bits further
  pub delivered_length : (done : List ℕ) (at : ℕ) (er : ℕ → ℕ) (D : Deal) → length done ≡ at → length (done ++ delivered R er D) ≡ at + 4
  unfolding delivered
  delivered_length done at er D e = length-append done _ ∙ omega arith

  -- a gate's twelve bits in the transcript
  pub put_link12 : (done : List ℕ) (at : ℕ) (er : ℕ → ℕ) (D : Trio Deal) → length done ≡ at → at + 12 ≤ length old
      → put_twelve at (on_lines R er (sent3 D)) (fill old done) ≡ fill old (done ++ delivered3 R er D)
  unfolding put_twelve on_lines delivered3
  put_link12 done at er D e h =
      let a : List ℕ = delivered R er D.at1 in
      let b : List ℕ = delivered R (later er 4) D.at2 in
      let c : List ℕ = delivered R (later er 8) D.at3 in
      let l1 = delivered_length done at er D.at1 e in
      let l2 = delivered_length (done ++ a) (at + 4) (later er 4) D.at2 l1 in
      ap (put_four (at + 8) (on_line R (later er 8) (sent_of D.at3)))
      (ap (put_four (at + 4) (on_line R (later er 4) (sent_of D.at2))) (put_link4 done at er D.at1 e (omega arith))
      ∙ put_link4 (done ++ a) (at + 4) (later er 4) D.at2 l1 (omega arith))
      ∙ put_link4 (done ++ a ++ b) (at + 8) (later er 8) D.at3 (omega arith) (omega arith)
      ∙ ap (fill old) (ap (λ (z : List ℕ). z ++ c) (append_assoc done a b) ∙ append_assoc done (a ++ b) c)
