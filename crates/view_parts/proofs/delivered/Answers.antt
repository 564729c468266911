use Rattle.std.proofs.Common.{◌∙◌}
use Rattle.check_tests.specs.Seat.{seat}
use Rattle.run_passes.specs.Mirror.{st}
use Rattle.view_gates.proofs.GatesLaws.{begun}
use Rattle.view_parts.proofs.DeliveredLaws.{seeing_kept, store_is, copies_ready, got_is}
use Rattle.view_parts.proofs.delivered.Goals as goal

pub gates_pass-z-requires : goal.gates_pass-z-requires
gates_pass-z-requires c = let a = c.args in
    record {
      seeing = seeing_kept _ _ _ _ _ _ _ _ c.inputs_pass-q.auto.got c.inputs_pass-q.auto.store c.requires.seeing;
      begun = begun a.c.now.file.now a.inputs.now a.tapes.now (seat a.site) a.store.now a.got.now _ _ (st _ _ _) c.requires.seeing c.inputs_pass-q.auto.got c.inputs_pass-q.ensures;
    }

pub copies_pass-requires : goal.copies_pass-requires
copies_pass-requires c = let a = c.args in
    record {
      store_len = c.gates_pass-z.auto.store ∙ c.inputs_pass-q.auto.store ∙ c.requires.seeing.ls;
      copies_fit = copies_ready a.c.now.file.now a.inputs.now a.tapes.now (seat a.site) a.store.now a.got.now _ c.requires.seeing (st _ _ _) (st _ _ _) c.inputs_pass-q.ensures c.gates_pass-z.ensures _ (c.gates_pass-z.auto.got ∙ c.inputs_pass-q.auto.got);
    }

pub returns : goal.returns
returns c = let a = c.args in
    record {
      store_after = store_is a.c.now.file.now a.inputs.now a.tapes.now (seat a.site) a.store.now a.got.now _ c.requires.seeing (st _ _ _) (st _ _ _) c.inputs_pass-q.ensures c.gates_pass-z.ensures;
      got_after = got_is a.c.now.file.now a.inputs.now a.tapes.now (seat a.site) a.store.now a.got.now _ c.requires.seeing (st _ _ _) (st _ _ _) c.inputs_pass-q.ensures c.gates_pass-z.ensures _ c.copies_pass.ensures;
    }
