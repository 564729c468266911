use mathlib.Core.Path.{◌≡◌}
use mathlib.Core.Bool.{true, false}
use Prim.Native.Nat.{ℕ, ◌-◌}
use lib.Dec.{eqb}
use borrow.Author.Rules.{rules}
use native.Mathlib.Omega.{arith}
use Rattle.std.proofs.lemmas.Iterator.{first_from_Range}
use Rattle.bristol_wires.specs.Mirror.{entry_of}
use Rattle.bristol_checks.proofs.EndLaws.{outs_said}
use Rattle.bristol_checks.proofs.outputs_written.Goals as goal

pub returns : goal.returns
returns c =
    let m = c.args.map.now in
    let t = c.args.t in
    let none = λ (w : ℕ). eqb (entry_of m t.ins w) 0 in
    let found = first_from_Range _ _ _ _ (λ w. none w ≡ true) (λ w. none w ≡ false) c.find.ensures.ran (λ x q h. search rules) (λ x q h. search rules) in
    outs_said m t.ins (t.wires - t.outs) t.wires t.outs (omega arith) _ found _ c.is_none.ensures
