-- T-01's worked examples, computed: one theorem over the list of rows, in any room of 20,000 bytes.
use mathlib.Core.Path.{◌≡◌}
use mathlib.Core.List.{List, map}
use Prim.Native.Nat.{ℕ}
use lib.ListN.{length}
use Rattle.theory_sharing.specs.First.{first}
use Rattle.theory_sharing.specs.Store.{fill}
use Rattle.theory_calls.specs.File.{size}
use Rattle.theory_calls.specs.Checks.{tested, fault, verdict}
use Rattle.theory_calls.specs.Calls.{settle, does}
use Rattle.theory_files.specs.Written.{two, four, header_bytes, gate_bytes, output_bytes, file_of}
use Rattle.bristol_text.specs.Words.{split, but_empty_last, lines, not_empty, words, digits, number}
use Rattle.bristol_text.specs.Lines.{with_number, numbers, counts_line, total, widths_line, with_wire, rest, three_letters, gate_word, gate_with, with_rest, with_counts, gate_line, line_says}
use Rattle.bristol_text.specs.Heard.{nothing_heard, hear_widths, hear, heard_from, writes, any_writes, line_fault, count_up, all_written}
use Rattle.bristol_text.specs.Renamed.{rename, rename_all, inputs_alone, spread}
use Rattle.bristol_text.specs.Call.{fault_at, text_checks, FromBristol}
use Rattle.theory_demands.specs.Marked.{Row}
use Rattle.theory_demands.specs.MarkedTexts.{text_rows}

-- every row's call does what is wanted
pub marked_texts : (room : List ℕ) → length room ≡ 20000 → map (λ (r : Row). does r.call) (text_rows room) ≡ map (λ (r : Row). r.wanted) (text_rows room)
unfolding first fill size tested fault verdict settle does two four header_bytes gate_bytes output_bytes file_of split but_empty_last lines not_empty words digits number with_number numbers counts_line total widths_line with_wire rest three_letters gate_word gate_with with_rest with_counts gate_line line_says nothing_heard hear_widths hear heard_from writes any_writes line_fault count_up all_written rename rename_all inputs_alone spread fault_at text_checks FromBristol
marked_texts room long = rw long
