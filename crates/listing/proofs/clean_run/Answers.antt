use mathlib.Core.Path.{sym}
use Prim.Native.Nat.{ℕ, ◌+◌, ◌*◌}
use lib.ListN.{take}
use lib.Seq.{length-take-le}
use Rattle.listing.proofs.CleanLaws.{line_fits, store_fits, ready, front_clean, clean_opens}
use Rattle.listing.proofs.clean_run.Goals as goal

pub slice_bounds-run_checked-end : goal.slice_bounds-run_checked-end
slice_bounds-run_checked-end c = sym (length-take-le _ _ (line_fits _ _ _ c.requires.fit c.zeros-line.result c.zeros-line.ensures.len))

pub slice_bounds-run_checked-end-2 : goal.slice_bounds-run_checked-end-2
slice_bounds-run_checked-end-2 c = sym (length-take-le _ _ (line_fits _ _ _ c.requires.fit c.zeros-room.result c.zeros-room.ensures.len))

pub slice_bounds-run_checked-end-3 : goal.slice_bounds-run_checked-end-3
slice_bounds-run_checked-end-3 c = sym (length-take-le _ _ (store_fits _ _ _ c.requires.fit c.zeros-store.result c.zeros-store.ensures.len))

pub run_checked-requires : goal.run_checked-requires
run_checked-requires c =
    let d = c.requires.fit in
    record {
      ready = ready _ _ _ d _ _ _
          (length-take-le _ _ (line_fits _ _ _ d c.zeros-line.result c.zeros-line.ensures.len))
          (length-take-le _ _ (line_fits _ _ _ d c.zeros-room.result c.zeros-room.ensures.len))
          (length-take-le _ _ (store_fits _ _ _ d c.zeros-store.result c.zeros-store.ensures.len));
      outs_len = c.requires.outs_len;
    }

pub returns : goal.returns
returns c =
    let a = c.args in
    let k = a.c.now.circuit.counts in
    let n : ℕ = 4 * k.inputs + 12 * a.c.now.ands + 6 * k.outputs in
    clean_opens _ _ _ _ a.outs.now (take n c.zeros-room.result) _ _ _ _ (front_clean n c.zeros-line.result c.zeros-line.ensures.clean) c.run_checked.ensures
