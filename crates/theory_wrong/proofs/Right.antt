-- What the promise of a run asks on K's circuit and a clean line, whatever the lent buffers held.
--     K1_right          K1: the result that meets the promise, with buffers of the right lengths
--     K1_only           a good result that meets it on K1 is this one, and so the lengths were right
--     opens_zeros       one that meets it on inputs 1 0 opens 0 0 0
--     first_gate_bit    one that meets it on other tapes has 0 as the gate's first bit; K1 has 1
-- Assumes nothing.
use mathlib.Core.Path.{◌≡◌, refl, sym, ap, ◌∙◌}
use mathlib.Core.List.{List, [], ◌∷◌, ◌++◌}
use Prim.Native.Nat.{ℕ}
use lib.ListN.{get_or}
use Rattle.theory_sharing.specs.Sites.{is}
use Rattle.theory_sharing.specs.Circuit.{dealing, ands, owned}
use Rattle.theory_sharing.specs.Steps.{objecting, copies, delivered, in_wire, delivered3, mix, gate_wire, gate_delivered, six, opened}
use Rattle.theory_sharing.specs.First.{first}
use Rattle.theory_sharing.specs.Run.{ins_after, after, ins_delivered, gates_delivered, output, out_delivered, objects, stop, opens_delivered, made, transcript, opened_at, outputs}
use Rattle.theory_sharing.specs.Tapes.{tape_length, draws}
use Rattle.theory_sharing.specs.Line.{at_input, at_gate, at_output, errors}
use Rattle.theory_sharing.specs.Store.{side, store, fill}
use Rattle.theory_sharing.proofs.StoreLaws.{fill_all}
use Rattle.theory_calls.specs.File.{le16, le32, size, owner_at, kind_at, first_at, second_at, output_at, site_of, gate_of}
use Rattle.theory_calls.specs.Answer.{After, good}
use Rattle.theory_calls.specs.Checks.{tested, row_owner, good_gate, row_gate_of, row_output, fault, verdict, accepted}
use Rattle.theory_calls.specs.AtBits.{circuit_checks}
use Rattle.theory_calls.specs.Calls.{Call, unrefused, ran_of, does, RunOf}
use Rattle.theory_calls.proofs.CallLaws.{does_good, good_accepts}
use Rattle.theory_calls.proofs.Accepted.{run_ok}
use Rattle.std.specs.Prelude.{Ok}
use Rattle.run.specs.declared.Ran.TheVariants.{Good}
use Rattle.run.specs.Answers.{run_answer}
use Rattle.check_given.specs.Mirror.{run_checks}
use Rattle.run.proofs.RunCall.{run_one}
use Rattle.theory_demands.specs.Marked.{K_file, K_tapes, K_line, K_store}
use Rattle.theory_wrong.specs.Engine.{Lent, Meets, K1_outputs, K1_transcript, other_tapes, Long}
use Rattle.theory_wrong.specs.Wrong.{asked}

abbrev on_K : (inputs tapes : List ℕ) → Lent → Call
on_K inputs tapes b = asked K_file inputs tapes (K_line []) b

-- every check of a run of K's circuit passes, with buffers of the right lengths
abbrev Sound : (inputs tapes : List ℕ) → Type 0
Sound inputs tapes = verdict (circuit_checks K_file ++ run_checks K_file inputs tapes (K_line []) 3 26 18) ≡ accepted

sound : Sound (1 ∷ 1 ∷ []) K_tapes × Sound (1 ∷ 0 ∷ []) K_tapes × Sound (1 ∷ 1 ∷ []) other_tapes
unfolding dealing ands first le16 le32 size owner_at kind_at first_at second_at output_at gate_of tested row_owner good_gate row_gate_of row_output fault verdict
sound = (refl, refl, refl)

module _ (inputs tapes : List ℕ) (s : Sound inputs tapes) (b : Lent) (h : Long b) where
  -- the checks see of the lent buffers their lengths alone
  judged : verdict (on_K inputs tapes b).checks ≡ accepted
  unfolding RunOf
  judged =
      (λ i. verdict (circuit_checks K_file ++ run_checks K_file inputs tapes (K_line []) (h.outputs_long i) (h.transcript_long i) (h.store_long i)))
      ∙ s

  goes_on : does (on_K inputs tapes b) ≡ unrefused (on_K inputs tapes b).good
  goes_on = does_good (on_K inputs tapes b) judged

-- what is needed of the three runs, computed
laid : (b : Lent)
    → (unrefused (on_K (1 ∷ 1 ∷ []) K_tapes b).good ≡ record { answer = good []; returned = []; lent = K1_outputs ∷ fill b.transcript K1_transcript ∷ K_store ∷ [] })
    × (get_or (on_K (1 ∷ 0 ∷ []) K_tapes b).good.lent 0 [] ≡ 0 ∷ 0 ∷ 0 ∷ [])
    × (get_or (get_or (on_K (1 ∷ 1 ∷ []) other_tapes b).good.lent 1 []) 8 0 ≡ 0)
unfolding is dealing ands owned objecting copies delivered in_wire delivered3 mix gate_wire gate_delivered six opened first ins_after after ins_delivered gates_delivered output out_delivered objects stop opens_delivered made transcript opened_at outputs tape_length draws at_input at_gate at_output errors side store fill le16 le32 owner_at kind_at first_at second_at output_at site_of gate_of ran_of RunOf
laid b = (refl, refl, refl)

pub K1_right : (b : Lent) → Long b → Meets K_file (1 ∷ 1 ∷ []) K_tapes (K_line []) b.outputs b.transcript b.store (Ok Good) K1_outputs K1_transcript K_store
unfolding run_answer
K1_right b h =
    sym
    (goes_on (1 ∷ 1 ∷ []) K_tapes sound.0 b h ∙ (laid b).0
    ∙ ap (λ (tr : List ℕ). record { answer = good []; returned = []; lent = K1_outputs ∷ tr ∷ K_store ∷ [] })
    (fill_all b.transcript K1_transcript (sym h.transcript_long)))

-- where the call's answer is good, the buffers had the right lengths
good_long : (inputs tapes : List ℕ) (b : Lent) → good [] ≡ (does (on_K inputs tapes b)).answer → Long b
unfolding dealing ands le16 le32 kind_at gate_of
good_long inputs tapes b e =
    let ok = run_ok K_file inputs tapes (K_line []) b.outputs b.transcript b.store (good_accepts (on_K inputs tapes b) [] (sym e)) in
    record { outputs_long = ok.outs_long; transcript_long = ok.tr_long; store_long = ok.st_long }

-- a good result that meets the promise
module _ (b : Lent) (outs tr st : List ℕ) where
  abbrev GoodOn : (inputs tapes : List ℕ) → Type 0
  GoodOn inputs tapes = Meets K_file inputs tapes (K_line []) b.outputs b.transcript b.store (Ok Good) outs tr st

  long : (inputs tapes : List ℕ) → GoodOn inputs tapes → Long b
  unfolding run_answer
  long inputs tapes m = good_long inputs tapes b (ap (λ (z : After). z.answer) m)

  pub K1_only : GoodOn (1 ∷ 1 ∷ []) K_tapes → (outs ≡ K1_outputs) × (tr ≡ K1_transcript) × (st ≡ K_store)
  K1_only m = let e = run_one _ _ _ _ _ _ _ _ _ _ _ _ _ _ _ m (K1_right b (long (1 ∷ 1 ∷ []) K_tapes m)) in (e.1, e.2, e.3)

  pub opens_zeros : GoodOn (1 ∷ 0 ∷ []) K_tapes → outs ≡ 0 ∷ 0 ∷ 0 ∷ []
  opens_zeros m =
      ap (λ (z : After). get_or z.lent 0 []) (m ∙ goes_on (1 ∷ 0 ∷ []) K_tapes sound.1 b (long (1 ∷ 0 ∷ []) K_tapes m)) ∙ (laid b).1

  pub first_gate_bit : GoodOn (1 ∷ 1 ∷ []) other_tapes → get_or tr 8 0 ≡ 0
  first_gate_bit m =
      ap (λ (z : After). get_or (get_or z.lent 1 []) 8 0) (m ∙ goes_on (1 ∷ 1 ∷ []) other_tapes sound.2 b (long (1 ∷ 1 ∷ []) other_tapes m))
      ∙ (laid b).2
