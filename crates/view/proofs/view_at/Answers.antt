use Rattle.std.proofs.Common.{◌≡◌, arith, rules, ap, length, ◌∙◌}
use Rattle.theory_sharing.specs.Ops.{bits}
use Rattle.theory_sharing.specs.Sites.{Site}
use Rattle.theory_sharing.specs.View.{view_from}
use Rattle.theory_calls.specs.File.{circuit}
use Rattle.theory_calls.specs.Calls.{at_wire}
use Rattle.check_tests.specs.Seat.{seat}
use Rattle.check_tests.proofs.SeatLaws.{seat_is}
use Rattle.view.proofs.ViewLaws.{place_base, tapes_all, tape_all, tape_fits, in_order, whole}
use Rattle.view.proofs.view_at.Goals as goal

pub overflow_add-t : goal.overflow_add-t
overflow_add-t c =
    let o = c.owned_by-own.ensures in
    let b = place_base _ _ _ _ c.begin-start.ensures c.tape_place-t.ensures in
    let h = tape_fits _ _ _ _ _ _ _ c.requires _ c.args.c.now.counted.0 _ o.value o.bound _ b in search rules

pub slice_bounds-copy-end : goal.slice_bounds-copy-end
slice_bounds-copy-end c =
    let o = c.owned_by-own.ensures in
    let b = place_base _ _ _ _ c.begin-start.ensures c.tape_place-t.ensures in
    let h = tape_fits _ _ _ _ _ _ _ c.requires _ c.args.c.now.counted.0 _ o.value o.bound _ b in omega arith

pub returns : goal.returns
returns c =
    let a = c.args in let f = a.c.now.circuit in let o = c.owned_by-own.ensures in
    let n = in_order _ _ _ _ _ _ _ c.requires _ a.c.now.counted.0 _ o.value o.bound in
    let l : length c.split_at_mut-got.result.1.now ≡ f.counts.outputs = omega arith in
    let b = place_base _ _ _ _ c.begin-start.ensures c.tape_place-t.ensures in
    let m = tape_all _ _ _ _ _ _ _ c.requires _ a.c.now.counted.0 _ o.value o.bound in
    let w = whole f.file.now a.inputs.now a.tapes.now (seat a.site) _ f.checked.opened (tapes_all _ _ _ _ _ _ _ c.requires _ a.c.now.counted.0 _ o.value o.bound)
    _ _ _ _ _ _ _ _ b m c.own_inputs.ensures c.copy.ensures c.delivered.ensures.got_after c.delivered.ensures.store_after l c.opened_bits.ensures in
    record {
      view_after = w ∙ ap (λ (s : Site). view_from bits s (circuit f.file.now) (at_wire a.inputs.now) a.tapes.now) (seat_is a.site);
      store_after = c.delivered.ensures.store_after;
    }
