use Rattle.bristol_file.proofs.OwnerLaws.{Owners}
use Rattle.bristol_file.proofs.put_owners.Given as goal

abbrev pub invariant-loop-owner : goal.invariant-loop-owner
invariant-loop-owner l = Owners l.text l.owners l.fn.seat l.at l.initial.room l.owner-index l.seat l.to l.room
