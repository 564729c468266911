-- An example modulo 7, computed: inputs 3 and 5 of sites 1 and 2; gates 2 0 1 and 1 0 2, whose wires are opened.
use mathlib.Core.Path.{◌≡◌, refl}
use mathlib.Core.List.{List, [], ◌∷◌, ◌++◌}
use Prim.Native.Nat.{ℕ}
use lib.ListN.{replicate}
use Rattle.theory_sharing.specs.Sites.{is}
use Rattle.theory_sharing.specs.Circuit.{dealing, ands, owned}
use Rattle.theory_sharing.specs.Steps.{objecting, copies, delivered, in_wire, delivered3, mix, gate_wire, gate_delivered, six, opened}
use Rattle.theory_sharing.specs.First.{first}
use Rattle.theory_sharing.specs.Run.{ins_after, after, ins_delivered, gates_delivered, output, out_delivered, objects, stop, opens_delivered, made, transcript, opened_at, outputs}
use Rattle.theory_sharing.specs.Tapes.{tape_length, draws}
use Rattle.theory_sharing.specs.Line.{at_input, at_gate, at_output, errors}
use Rattle.theory_sharing.specs.Store.{side, store, fill}
use Rattle.theory_calls.specs.File.{le16, le32, size, owner_at, kind_at, first_at, second_at, output_at, site_of}
use Rattle.theory_calls.specs.Checks.{tested, row_owner, row_gate_of, row_output, fault, verdict}
use Rattle.theory_calls.specs.Calls.{buffer, RunOf, ran_of, settle, does}
use Rattle.theory_modulo.specs.Modulo.{addm, subm, mulm, number_gate, number_gate_of, modulo_family}

abbrev N_file : List ℕ
N_file =
    (50 ∷ 0 ∷ 0 ∷ 0 ∷ 2 ∷ 0 ∷ 0 ∷ 0 ∷ 2 ∷ 0 ∷ 0 ∷ 0 ∷ 2 ∷ 0 ∷ 0 ∷ 0
    ∷ 32 ∷ 0 ∷ 0 ∷ 0 ∷ 34 ∷ 0 ∷ 0 ∷ 0 ∷ 46 ∷ 0 ∷ 0 ∷ 0 ∷ 0 ∷ 0 ∷ 0 ∷ 0 ∷ [])
    ++ (1 ∷ 2 ∷ 2 ∷ 0 ∷ 0 ∷ 0 ∷ 1 ∷ 0 ∷ 1 ∷ 0 ∷ 0 ∷ 0 ∷ 2 ∷ 0 ∷ 2 ∷ 0 ∷ 3 ∷ 0 ∷ [])

-- modulo 7: 3 * 5 is 1, and 3 + 1 is 4
pub modulo_run : buffer 0 (RunOf (modulo_family 7) N_file (3 ∷ 5 ∷ []) (6 ∷ 4 ∷ 1 ∷ 2 ∷ 3 ∷ 4 ∷ 5 ∷ 6 ∷ 0 ∷ 1 ∷ []) (replicate 32 0) (replicate 6 1) (replicate 32 1) (replicate 24 1))
    ≡ 1 ∷ 1 ∷ 1 ∷ 4 ∷ 4 ∷ 4 ∷ []
unfolding is dealing ands owned objecting copies delivered in_wire delivered3 mix gate_wire gate_delivered six opened first ins_after after ins_delivered gates_delivered output out_delivered objects stop opens_delivered made transcript opened_at outputs tape_length draws at_input at_gate at_output errors side store fill le16 le32 size owner_at kind_at first_at second_at output_at site_of tested row_owner row_gate_of row_output fault verdict ran_of settle does RunOf addm subm mulm number_gate number_gate_of
modulo_run = refl
