-- The view and the run are of one thing, for a family. At bits: theory_demands/proofs/Demands.antt.
-- Assumes nothing.
use mathlib.Core.Path.{◌≡◌, refl, sym, ap, ap₂, ◌∙◌}
use mathlib.Core.List.{List, [], ◌∷◌, ◌++◌}
use Prim.Native.Nat.{ℕ, zero, suc}
use lib.ListN.{get_or}
use Rattle.theory_sharing.specs.Sites.{of, Trio}
use Rattle.theory_sharing.specs.Circuit.{Errors, no_errors}
use Rattle.theory_sharing.specs.Run.{after, transcript}
use Rattle.theory_sharing.specs.Order.{routes, pick}
use Rattle.theory_sharing.specs.Tapes.{cut, read}
use Rattle.theory_sharing.specs.Store.{store}
use Rattle.theory_sharing.specs.View.{own_ins, seen_outs, view_from}
use Rattle.theory_sharing.proofs.Parts.{AllDraws}
use Rattle.theory_sharing.proofs.Clean.{clean_sent}
use Rattle.theory_sharing.proofs.ViewLaws as VL
use Rattle.theory_calls.specs.File.{site_of}
use Rattle.theory_calls.specs.Answer.{After}
use Rattle.theory_calls.specs.Calls.{Call, RunOf, ViewOf, Accepts, buffer, at_wire}
use Rattle.theory_calls.specs.Statements.{circuit_with, Family, Fitting, out_of, plain_outs, Clean}
use Rattle.theory_calls.proofs.FamilyLaws.{Lawful, group, draws_ok}
use Rattle.theory_calls.proofs.CallLaws.{accepts_does}
use Rattle.theory_calls.proofs.Accepted.{RunOkOf, run_ok_of}
use Rattle.theory_calls.proofs.RunCall as RC
use Rattle.theory_calls.proofs.RetapeCall.{view_does}

module _ (F : Family) (law : Lawful F) (f x t l : List ℕ) (s : ℕ) (outs tr st v vst : List ℕ) (fx : Fitting F x) (ft : Fitting F t) (fl : Fitting F l)
    (a : Accepts (RunOf F f x t l outs tr st)) (b : Accepts (ViewOf F f x t s v vst)) (h : Clean l) where
  abbrev clean_run : Call
  clean_run = RunOf F f x t l outs tr st

  seen_ok : RunOkOf F f x t l outs tr st
  seen_ok = run_ok_of F law f x t l outs tr st fx ft fl a

  seen_draws : AllDraws (group F law).laws.Ok (read (circuit_with F f) t)
  seen_draws = draws_ok F law (circuit_with F f) t seen_ok.in_t.small

  pub view_store_is_a_clean_runs : buffer 1 (ViewOf F f x t s v vst) ≡ buffer 2 clean_run
  unfolding ViewOf
  view_store_is_a_clean_runs =
      ap (λ (z : After). get_or z.lent 1 []) (accepts_does (ViewOf F f x t s v vst) b)
      ∙ ap (λ (e : Errors). store (after F.ops (circuit_with F f) (at_wire x) (read (circuit_with F f) t) e (circuit_with F f).gates)) (sym (RC.clean_errors (circuit_with F f) l h))
      ∙ sym (RC.run_store F f x t l outs tr st a)

  same_transcript : transcript F.ops (circuit_with F f) (at_wire x) (read (circuit_with F f) t) no_errors ≡ buffer 1 clean_run
  same_transcript =
      VL.clean_transcript (group F law) (site_of s) (circuit_with F f) (at_wire x) (read (circuit_with F f) t) seen_draws
      ∙ clean_sent (group F law) (circuit_with F f) (at_wire x) (read (circuit_with F f) t) seen_draws (circuit_with F f).outs
      ∙ sym (RC.clean_transcript F law f x t l outs tr st fx ft fl a h)

  same_opened : (n : ℕ) → seen_outs F.ops (site_of s) (circuit_with F f) (at_wire x) (read (circuit_with F f) t) n ≡ plain_outs F (circuit_with F f) x n
  unfolding seen_outs plain_outs
  same_opened zero = refl
  same_opened (suc o) =
      ap₂ (λ (m : List ℕ) (z : ℕ). m ++ (z ∷ [])) (same_opened o)
      (ap (λ (u : Trio ℕ). of u (site_of s)) (RC.opens_plain_of F law (circuit_with F f) x t seen_ok.in_x.small seen_draws o)
      ∙ VL.of_thrice (out_of F (circuit_with F f) x o) (site_of s))

  pub view_is_of_a_clean_run : buffer 0 (ViewOf F f x t s v vst)
      ≡ own_ins (site_of s) (circuit_with F f) (at_wire x) (circuit_with F f).ins ++ of (cut (circuit_with F f) t) (site_of s)
      ++ pick (site_of s) (routes (circuit_with F f) (circuit_with F f).outs) (buffer 1 clean_run) ++ plain_outs F (circuit_with F f) x (circuit_with F f).outs
  unfolding view_from
  view_is_of_a_clean_run =
      view_does F f x t s v vst b
      ∙ ap₂ (λ (m n : List ℕ). own_ins (site_of s) (circuit_with F f) (at_wire x) (circuit_with F f).ins ++ of (cut (circuit_with F f) t) (site_of s)
      ++ pick (site_of s) (routes (circuit_with F f) (circuit_with F f).outs) m ++ n) same_transcript (same_opened (circuit_with F f).outs)
