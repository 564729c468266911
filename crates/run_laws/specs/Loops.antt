-- Where a run stands on the tapes and on the line between its steps, as the document has it.
--     base                where a site's tape begins in the one slice
--     place, in_place     the running places after so many dealing gates, and after so many inputs
--     site_place          a site's running place
use Rattle.std.specs.Prelude.{ℕ, ◌+◌, ◌*◌}
use Rattle.theory_sharing.specs.Sites.{Site, s1, s2, s3}
use Rattle.theory_sharing.specs.Circuit.{Circuit, owned, all_owned}
use Rattle.theory_sharing.specs.Tapes.{tape_length}
use Rattle.run_steps.specs.declared.Pos.{Pos}
use Rattle.run_passes.specs.Mirror.{placed}

-- 01: "Tapes stand in one slice, site 1's first"
unfoldable pub base : Circuit → Site → ℕ
base C s1 = 0
base C s2 = tape_length C s1
base C s3 = tape_length C s1 + tape_length C s2

-- after m gates that deal
unfoldable pub place : Circuit → ℕ → Pos
place C m =
    placed (base C s1 + 2 * (all_owned C s1 + m)) (base C s2 + 2 * (all_owned C s2 + m)) (base C s3 + 2 * (all_owned C s3 + m)) (4 * C.ins + 12 * m)

-- after i inputs, of which each site owns so many
unfoldable pub in_places : Circuit → ℕ → ℕ → ℕ → ℕ → Pos
in_places C i a b c = placed (base C s1 + 2 * a) (base C s2 + 2 * b) (base C s3 + 2 * c) (4 * i)

abbrev pub in_place : Circuit → ℕ → Pos
in_place C i = in_places C i (owned C.owner s1 i) (owned C.owner s2 i) (owned C.owner s3 i)

abbrev pub site_place : Pos → Site → ℕ
site_place p s1 = p.t1
site_place p s2 = p.t2
site_place p s3 = p.t3
