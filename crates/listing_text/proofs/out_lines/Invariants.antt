use Rattle.theory_calls.specs.Listing.{out_lines}
use Rattle.listing_text.specs.Mirror.{shown_of}
use Rattle.file_writer.proofs.WriteLaws.{Put}
use Rattle.listing_text.proofs.out_lines.Given as goal

abbrev pub invariant-loop-o : goal.invariant-loop-o
invariant-loop-o l = Put l.at (out_lines (shown_of l.outs) l.o) l.initial.text l.text l.e
