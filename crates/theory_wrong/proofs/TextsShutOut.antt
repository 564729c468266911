-- No wrong answer of specs/WrongTexts.antt is what its call does. Found as those of AnswersShutOut.antt are: one theorem over all rows.
--     wrong_texts_shut_out
-- Assumes nothing.
use mathlib.Core.Path.{refl}
use Rattle.theory_sharing.specs.First.{first}
use Rattle.theory_sharing.specs.Store.{fill}
use Rattle.theory_calls.specs.File.{size}
use Rattle.theory_calls.specs.Checks.{tested, fault, verdict}
use Rattle.theory_calls.specs.Calls.{settle, does}
use Rattle.theory_files.specs.Written.{two, four, header_bytes, gate_bytes, output_bytes, file_of}
use Rattle.bristol_text.specs.Words.{split, but_empty_last, lines, not_empty, words, digits, number}
use Rattle.bristol_text.specs.Lines.{with_number, numbers as Numbers_of, counts_line, total, widths_line, with_wire, rest}
use Rattle.bristol_text.specs.Lines.{three_letters, gate_word, gate_with, with_rest, with_counts, gate_line, line_says}
use Rattle.bristol_text.specs.Heard.{nothing_heard, hear_widths, hear, heard_from, writes, any_writes, line_fault, count_up, all_written}
use Rattle.bristol_text.specs.Renamed.{rename, rename_all, inputs_alone, spread}
use Rattle.bristol_text.specs.Call.{fault_at, text_checks, FromBristol}
use Rattle.theory_wrong.specs.WrongTexts.{wrong_texts}
use Rattle.theory_wrong.proofs.AnswersShutOut.{NoneOf, none_by, Met, unlike_lists, said_numbers, joined, unlike_does, tells}

pub wrong_texts_shut_out : NoneOf Met wrong_texts
unfolding first fill size tested fault verdict settle does two four header_bytes gate_bytes output_bytes file_of split but_empty_last lines not_empty words digits number with_number Numbers_of counts_line total widths_line with_wire rest three_letters gate_word gate_with with_rest with_counts gate_line line_says nothing_heard hear_widths hear heard_from writes any_writes line_fault count_up all_written rename rename_all inputs_alone spread fault_at text_checks FromBristol unlike_lists said_numbers joined
wrong_texts_shut_out = none_by Met unlike_does tells wrong_texts refl
