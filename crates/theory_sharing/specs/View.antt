-- 01: "View of site s, on a clean line: own inputs in wire order, own tape, bits delivered to s in transcript order, then opened bits."
--     own_ins        the inputs of a site, in wire order
--     seen_outs      what a site opens
--     view_from      the four parts, for a run on the clean line
use Rattle.std.specs.Prelude.{List, [], ◌∷◌, ◌++◌, ℕ, zero, suc}
use Rattle.theory_sharing.specs.Ops.{Ops}
use Rattle.theory_sharing.specs.Sites.{Site, of, if_own}
use Rattle.theory_sharing.specs.Circuit.{Circuit, Draws, no_errors}
use Rattle.theory_sharing.specs.Order.{routes, pick}
use Rattle.theory_sharing.specs.Tapes.{cut, read}
use Rattle.theory_sharing.specs.Run.{transcript, opened_at}

module _ (s : Site) (C : Circuit) (x : ℕ → ℕ) where
  unfoldable pub own_ins : ℕ → List ℕ
  own_ins zero = []
  own_ins (suc i) = own_ins i ++ if_own s (C.owner i) (x i ∷ [])

module _ (R : Ops) (s : Site) (C : Circuit) (x : ℕ → ℕ) (T : Draws) where
  unfoldable pub seen_outs : ℕ → List ℕ
  seen_outs zero = []
  seen_outs (suc o) = seen_outs o ++ (of (opened_at R C x T no_errors o) s ∷ [])

unfoldable pub view_from : Ops → Site → Circuit → (ℕ → ℕ) → List ℕ → List ℕ
view_from R s C x t =
    own_ins s C x C.ins ++ of (cut C t) s
    ++ pick s (routes C C.outs) (transcript R C x (read C t) no_errors)
    ++ seen_outs R s C x (read C t) C.outs
