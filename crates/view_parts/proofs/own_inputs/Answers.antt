use Rattle.std.proofs.Common.{◌<◌, arith, refl, sym, ◌∙◌}
use Rattle.theory_calls.specs.File.{circuit}
use Rattle.theory_calls.specs.Calls.{at_wire}
use Rattle.check_tests.specs.Seat.{seat}
use Rattle.view_parts.proofs.OwnInputs.{own_none, own_room, own_yes, own_no, own_end}
use Rattle.view_parts.proofs.own_inputs.Goals as goal
use Rattle.view_parts.proofs.own_inputs.Goals.{then-owns, else-owns}

pub loop-k-init : goal.loop-k-init
loop-k-init c = let a = c.args in own_none (seat a.site) (circuit a.c.now.file.now) (at_wire a.inputs.now) a.part.now

pub bounds-part-p : goal.bounds-part-p
bounds-part-p c =
    let a = c.args in let l = c.loop-k in let t : c.loop-k.k < c.args.c.now.counts.inputs = omega arith in
    let r = own_room a.c.now.file.now a.inputs.now a.part.now (seat a.site) _ a.c.now.checked.opened c.requires.part_len _ _ _ t l.invariant.1 l.auto.part (sym c.if-owns.true ∙ c.owns.ensures) in r.0

pub overflow_add-p : goal.overflow_add-p
overflow_add-p c =
    let a = c.args in let l = c.loop-k in let t : c.loop-k.k < c.args.c.now.counts.inputs = omega arith in
    let r = own_room a.c.now.file.now a.inputs.now a.part.now (seat a.site) _ a.c.now.checked.opened c.requires.part_len _ _ _ t l.invariant.1 l.auto.part (sym c.if-owns.true ∙ c.owns.ensures) in
    let h = r.1 in record { fits = omega arith }

pub loop-k-preserved : goal.loop-k-preserved
loop-k-preserved c =
    let a = c.args in let l = c.loop-k in let t : c.loop-k.k < c.args.c.now.counts.inputs = omega arith in
    elim c.if-owns.branch [
      | then-owns w ↦
          let q = own_yes a.c.now.file.now a.inputs.now a.part.now (seat a.site) _ a.c.now.checked.opened c.requires.part_len _ _ _ _ t l.invariant.0 l.invariant.1 refl (sym w.if-owns.true ∙ c.owns.ensures) in
          (w.part-is ∙ q.0, w.p-is ∙ q.1)
      | else-owns w ↦
          let q = own_no a.c.now.file.now a.inputs.now a.part.now (seat a.site) _ a.c.now.checked.opened c.requires.part_len _ _ _ t l.invariant.0 l.invariant.1 (sym w.if-owns.false ∙ c.owns.ensures) in
          (w.part-is ∙ q.0, w.p-is ∙ q.1)
    ]

pub returns : goal.returns
returns c =
    let a = c.args in
    own_end a.c.now.file.now a.inputs.now a.part.now (seat a.site) _ a.c.now.checked.opened c.requires.part_len _ _ c.loop-k.invariant.0 (omega arith) (omega arith)
