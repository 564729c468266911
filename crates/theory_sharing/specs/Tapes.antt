-- 01: "Tapes stand in one slice, site 1's first: site s has 2(Is+A) bits, Is being its own inputs, in all 2I+6A. A site uses its tape
-- in order: its own inputs by wire, then AND and OR gates by number."
--     tape_length       2(Is+A);  tapes_sum: of the three tapes together
--     cut, join         one slice as three tapes, and back
--     draws             the draws that three tapes give
--     tape              the tape of a site that draws fill
--     read, written     from a slice to the draws, and from draws to a slice
-- This is the only place that knows where on a tape a draw stands.
use Rattle.std.specs.Prelude.{List, [], ◌∷◌, ◌++◌, ℕ, zero, suc, ◌+◌, ◌*◌, get_or, take, drop}
use Rattle.theory_sharing.specs.Sites.{Site, s1, s2, s3, Trio, of, if_own}
use Rattle.theory_sharing.specs.Circuit.{Circuit, Draws, ands, owned, all_ands, all_owned}
use Rattle.theory_sharing.specs.Order.{if_deals}

unfoldable pub tape_length : Circuit → Site → ℕ
tape_length C s = 2 * (all_owned C s + all_ands C)

-- "in all 2I+6A": that it is so is proofs/TapeLaws.antt, tapes-length
abbrev pub tapes_sum : Circuit → ℕ
tapes_sum C = tape_length C s1 + tape_length C s2 + tape_length C s3

abbrev pub cut : Circuit → List ℕ → Trio (List ℕ)
cut C t = record {
  at1 = take (tape_length C s1) t;
  at2 = take (tape_length C s2) (drop (tape_length C s1) t);
  at3 = drop (tape_length C s1 + tape_length C s2) t;
}

abbrev pub join : Trio (List ℕ) → List ℕ
join ls = ls.at1 ++ ls.at2 ++ ls.at3

unfoldable pub draws : Circuit → Trio (List ℕ) → Draws
draws C ls = record {
  in1 = λ i. get_or (of ls (C.owner i)) (2 * owned C.owner (C.owner i) i) 0;
  in2 = λ i. get_or (of ls (C.owner i)) (2 * owned C.owner (C.owner i) i + 1) 0;
  g1 = λ g s. get_or (of ls s) (2 * (all_owned C s + ands C.gate g)) 0;
  g2 = λ g s. get_or (of ls s) (2 * (all_owned C s + ands C.gate g) + 1) 0;
}

abbrev pub read : Circuit → List ℕ → Draws
read C t = draws C (cut C t)

module _ (C : Circuit) (T : Draws) where
  unfoldable pub ins_tape : Site → ℕ → List ℕ
  ins_tape s zero = []
  ins_tape s (suc i) = ins_tape s i ++ if_own s (C.owner i) (T.in1 i ∷ T.in2 i ∷ [])

  unfoldable pub tape : Site → ℕ → List ℕ
  tape s zero = ins_tape s C.ins
  tape s (suc g) = tape s g ++ if_deals (C.gate g) (T.g1 g s ∷ T.g2 g s ∷ [])

abbrev pub written : Circuit → Draws → List ℕ
written C T = join (record { at1 = tape C T s1 C.gates; at2 = tape C T s2 C.gates; at3 = tape C T s3 C.gates })
