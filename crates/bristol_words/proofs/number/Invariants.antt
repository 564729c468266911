use Rattle.bristol_words.proofs.NumberLaws.{Read}
use Rattle.bristol_words.proofs.number.Given as goal

abbrev pub invariant-loop-b : goal.invariant-loop-b
invariant-loop-b l = Read l.word l.b-index l.value
