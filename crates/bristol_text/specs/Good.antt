-- What an accepted text is, in a room as it should be.
--     Good ls owners     of the lines ls: no line has a fault, no line is missing, every output wire is written, an owner 1 to 3 for each input value, 01's limits
use Rattle.std.specs.Prelude.{◌≡◌, true, List, ℕ, ◌<◌, ◌≤◌, length, get_or}
use Rattle.theory_calls.specs.Checks.{one_to_three}
use Rattle.theory_files.specs.Written.{Within}
use Rattle.bristol_text.specs.Lines.{total}
use Rattle.bristol_text.specs.Heard.{heard, out_wires, all_written, complete}
use Rattle.bristol_text.specs.Renamed.{renamed}
use Rattle.bristol_text.specs.Call.{fault_at}

pub record Good (ls : List (List ℕ)) (owners : List ℕ) : Type 0 where
  pub faultless : (p : ℕ) → p ≤ length ls → fault_at ls p ≡ 0
  pub whole : complete (heard ls) ≡ true
  pub outs_written : all_written (heard ls) (out_wires (heard ls)) ≡ true
  pub an_owner_each : length owners ≡ length (heard ls).ins
  pub owners_good : (k : ℕ) → k < length owners → one_to_three (get_or owners k 0) ≡ true
  pub within : Within (total (heard ls).ins) (length (renamed (heard ls)).gates) (total (heard ls).outs)
