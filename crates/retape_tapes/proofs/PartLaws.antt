-- Both sets of plain values in a work room.
use mathlib.Core.Path.{◌≡◌, sym, ap, ◌∙◌}
use mathlib.Core.List.{List, ◌++◌, append_assoc}
use Prim.Native.Nat.{ℕ, ◌+◌, ◌*◌, ◌-◌}
use native.Mathlib.Omega.{arith}
use lib.ListN.{length, take, drop, length-append}
use lib.Seq.{take_at, drop_at, drop-drop}
use Rattle.theory_sharing.specs.Store.{fill}
use Rattle.theory_calls.specs.File.{circuit}
use Rattle.theory_calls.specs.Plain.{plain}
use Rattle.theory_calls.specs.Calls.{both_plain_of}
use Rattle.theory_calls.specs.AtBits.{both_plain}
use Rattle.theory_calls.proofs.PlainLaws.{plain_length}
use Rattle.file_header.specs.declared.Counts.{Counts}
use Rattle.file_header.specs.Opened.{Opened}

module _ (f : List ℕ) (c : Counts) (op : Opened f c) (xs ys room v1 v2 : List ℕ) (h : length room ≡ 4 * (c.inputs + c.gates))
    (e1 : v1 ≡ plain (circuit f) xs) (e2 : v2 ≡ plain (circuit f) ys) (n : ℕ) (en : n ≡ c.inputs + c.gates) where
  abbrev r : List ℕ
  r = take 0 room ++ (v1 ++ drop (n - 0) (drop 0 room))

  pub values_in : take n r ++ (v2 ++ drop (2 * n - n) (drop n r)) ≡ fill room (both_plain (circuit f) xs ys)
  unfolding fill both_plain_of
  values_in =
      let C = circuit f in
      let i = op.ins_are in let g = op.gates_are in let px = plain_length C xs in let py = plain_length C ys in
      let p : List ℕ = plain C xs in let q : List ℕ = plain C ys in
      let hp : length p ≡ n = omega arith in
      let z : n - 0 ≡ n = omega arith in
      let z2 : 2 * n - n ≡ n = omega arith in
      let r-is : r ≡ p ++ drop n room = (λ j. e1 j ++ drop (z j) room) in
      let t : take n r ≡ p = ap (take n) r-is ∙ take_at p (drop n room) n hp in
      let u : drop n r ≡ drop n room = ap (drop n) r-is ∙ drop_at p (drop n room) n hp in
      let l : length (p ++ q) ≡ n + n = length-append p q ∙ (let y : length p + length q ≡ n + n = omega arith in y) in
      (λ j. t j ++ (e2 j ++ drop (z2 j) (u j))) ∙ ap (λ (w : List ℕ). p ++ (q ++ w)) (drop-drop n n room ∙ ap (λ (m : ℕ). drop m room) (sym l))
      ∙ sym (append_assoc p q (drop (length (p ++ q)) room))
