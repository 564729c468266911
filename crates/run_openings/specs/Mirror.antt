-- What the first pass over the outputs answers. No public contract cites this: laws tie it to sharing's stop.
--     objected    whether a site objects at an output;  first_objected: the first one at which one does, or their count
--     stop_by     that one with the sites that do, or none
use Rattle.std.specs.Prelude.{Bool, not, cond, ℕ, eqb, ltb, Option, None, Some}
use Rattle.theory_sharing.specs.First.{first}
use Rattle.run_openings.specs.declared.Stop.{Stop}

abbrev pub objected : (ℕ → ℕ) → ℕ → Bool
objected sites k = not (eqb (sites k) 0)

abbrev pub first_objected : (ℕ → ℕ) → ℕ → ℕ
first_objected sites n = first (objected sites) n

abbrev pub stop_at : (ℕ → ℕ) → ℕ → ℕ → Option Stop
stop_at sites n k = cond (ltb k n) (Some (record { output = k; sites = sites k })) None

abbrev pub stop_by : (ℕ → ℕ) → ℕ → Option Stop
stop_by sites n = stop_at sites n (first_objected sites n)
