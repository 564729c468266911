-- The relations that the wrong engines break are the promises of the code as the checker reads them.
--     run_promises        what a caller of `run` learns is Meets, of the slices at entry (a), the answer (z) and the buffers at exit (e)
--     traffic_promises    what a caller of `traffic_of` learns is TableMeets
--     retape_promises, view_promises    what a caller of `retape` learns is TapeMeets, and of `view_of` ViewMeets
--     meets_in_numbers, tape_meets_in_numbers    an engine meets its promise exactly where it meets it in numbers
--     open_promises .. from_bristol_promises    what a caller of each other public function learns is its sentence about `does`
-- So a contract that says less, or something else, fails here; those for C: PromiseForC.antt.
-- Assumes nothing.
use mathlib.Core.Path.{◌≡◌, refl}
use mathlib.Core.List.{List, [], ◌∷◌}
use Prim.Native.Nat.{ℕ}
use contract.Lifetimes.{Lfts}
use denote.Triple.Clauses.{AtExit}
use borrow.Fn.Kinds.{Dens, res_t, ended_of}
use Rattle.theory_wrong.specs.Engine.{Lent, Engine, Meets, MeetsOn, in_numbers, NumberMeetsOn, TableMeets}
use Rattle.theory_wrong.specs.Retaping.{TapeEngine, TapeMeets, TapeMeetsOn, tapes_in_numbers, NumberTapeMeetsOn, ViewMeets}
use Rattle.run.proofs.run.Kinds as R
use Rattle.run.proofs.run.Reads as RunReads
use Rattle.traffic.proofs.traffic_of.Kinds as T
use Rattle.traffic.proofs.traffic_of.Reads as TrafficReads
use Rattle.retape.proofs.retape.Kinds as RetapeKinds
use Rattle.retape.proofs.retape.Reads as RetapeReads
use Rattle.view.proofs.view_of.Kinds as ViewKinds
use Rattle.view.proofs.view_of.Reads as ViewReads
use Rattle.file_header.proofs.open_file.Kinds as OpenKinds
use Rattle.file_header.proofs.open_file.Reads as OpenReads
use Rattle.file_reader.proofs.gate_of.Kinds as GateKinds
use Rattle.file_reader.proofs.gate_of.Reads as GateReads
use Rattle.file_reader.proofs.owner_of.Kinds as OwnerKinds
use Rattle.file_reader.proofs.owner_of.Reads as OwnerReads
use Rattle.file_reader.proofs.output_of.Kinds as OutputKinds
use Rattle.file_reader.proofs.output_of.Reads as OutputReads
use Rattle.check_circuit.proofs.check_file.Kinds as CheckKinds
use Rattle.check_circuit.proofs.check_file.Reads as CheckReads
use Rattle.plain.proofs.plain_values.Kinds as PlainKinds
use Rattle.plain.proofs.plain_values.Reads as PlainReads
use Rattle.listing.proofs.listing.Kinds as ListingKinds
use Rattle.listing.proofs.listing.Reads as ListingReads
use Rattle.bristol.proofs.from_bristol.Kinds as FromBristolKinds
use Rattle.bristol.proofs.from_bristol.Reads as FromBristolReads
use seplogic.Ra.Ura.{Ura}
use base.Logic.{SProp}
use prog.Memory.{Memory}
use prog.Routine.{Routine}
use types.Logic.{Logic}
use contract.Monad.{Fun, fact}
use denote.Triple.Entry.{Args, Res}
use Rattle.file_claimed.specs.contracts.gate_read as GateRead
use Rattle.file_claimed.specs.contracts.owner_read as OwnerRead
use Rattle.file_claimed.specs.contracts.output_read as OutputRead
use Rattle.theory_calls.specs.Calls.{Open, GateAt, OwnerAt, OutputAt, Check, Plain, Listing, answers, does}
use Rattle.file_header.specs.Answers.{header_answer}
use Rattle.file_parts.specs.Answers.{gate_answer, owner_answer, output_answer}
use Rattle.file_parts.specs.Checked.{IsChecked}
use Rattle.check_circuit.specs.Answers.{done_after}
use Rattle.listing.specs.Answers.{listed_after}
use Rattle.bristol_text.specs.Call.{FromBristol}
use Rattle.bristol.specs.Answers.{filed_after}

pub run_promises : (κs : Lfts 7) (a : Dens κs R.ps) (z : (res_t R.r κs).Denot) (e : AtExit (ended_of 7 R.ps R.r) κs)
    → RunReads.Learnt κs a z e
    ≡ Meets a.0.now a.1.0.now a.1.1.0.now a.1.1.1.0.now a.1.1.1.1.0.now a.1.1.1.1.1.0.now a.1.1.1.1.1.1.0.now z
    e.1.1.1.1.0.now e.1.1.1.1.1.0.now e.1.1.1.1.1.1.0.now
run_promises κs a z e = refl

pub traffic_promises : (κs : Lfts 3) (a : Dens κs T.ps) (z : (res_t T.r κs).Denot) (e : AtExit (ended_of 3 T.ps T.r) κs)
    → TrafficReads.Learnt κs a z e ≡ TableMeets a.0.now z e.1.0.now e.1.1.0.now
traffic_promises κs a z e = refl

pub retape_promises : (κs : Lfts 6) (a : Dens κs RetapeKinds.ps) (z : (res_t RetapeKinds.r κs).Denot) (e : AtExit (ended_of 6 RetapeKinds.ps RetapeKinds.r) κs)
    → RetapeReads.Learnt κs a z e
    ≡ TapeMeets a.0.now a.1.0.now a.1.1.0.now a.1.1.1.0.now a.1.1.1.1.0 a.1.1.1.1.1.0.now a.1.1.1.1.1.1.0.now z
    e.1.1.1.1.1.0.now e.1.1.1.1.1.1.0.now
retape_promises κs a z e = refl

pub view_promises : (κs : Lfts 5) (a : Dens κs ViewKinds.ps) (z : (res_t ViewKinds.r κs).Denot) (e : AtExit (ended_of 5 ViewKinds.ps ViewKinds.r) κs)
    → ViewReads.Learnt κs a z e
    ≡ ViewMeets a.0.now a.1.0.now a.1.1.0.now a.1.1.1.0 a.1.1.1.1.0.now a.1.1.1.1.1.0.now z
    e.1.1.1.1.0.now e.1.1.1.1.1.0.now
view_promises κs a z e = refl

pub meets_in_numbers : (engine : Engine) (file inputs tapes line : List ℕ) (b : Lent)
    → NumberMeetsOn (in_numbers engine) file inputs tapes line b ≡ MeetsOn engine file inputs tapes line b
meets_in_numbers engine file inputs tapes line b = refl

pub tape_meets_in_numbers : (engine : TapeEngine) (file inputs tapes second : List ℕ) (site : ℕ) (fresh room : List ℕ)
    → NumberTapeMeetsOn (tapes_in_numbers engine) file inputs tapes second site fresh room ≡ TapeMeetsOn engine file inputs tapes second site fresh room
tape_meets_in_numbers engine file inputs tapes second site fresh room = refl

pub open_promises : (κs : Lfts 1) (a : Dens κs OpenKinds.ps) (z : (res_t OpenKinds.r κs).Denot) (e : AtExit (ended_of 1 OpenKinds.ps OpenKinds.r) κs)
    → OpenReads.Learnt κs a z e
    ≡ (answers (header_answer z) ≡ does (Open a.0.now))
open_promises κs a z e = refl

pub gate_promises : (κs : Lfts 1) (a : Dens κs GateKinds.ps) (z : (res_t GateKinds.r κs).Denot) (e : AtExit (ended_of 1 GateKinds.ps GateKinds.r) κs)
    → GateReads.Learnt κs a z e
    ≡ (answers (gate_answer z) ≡ does (GateAt a.0.now a.1.0))
gate_promises κs a z e = refl

pub owner_promises : (κs : Lfts 1) (a : Dens κs OwnerKinds.ps) (z : (res_t OwnerKinds.r κs).Denot) (e : AtExit (ended_of 1 OwnerKinds.ps OwnerKinds.r) κs)
    → OwnerReads.Learnt κs a z e
    ≡ (answers (owner_answer z) ≡ does (OwnerAt a.0.now a.1.0))
owner_promises κs a z e = refl

pub output_promises : (κs : Lfts 1) (a : Dens κs OutputKinds.ps) (z : (res_t OutputKinds.r κs).Denot) (e : AtExit (ended_of 1 OutputKinds.ps OutputKinds.r) κs)
    → OutputReads.Learnt κs a z e
    ≡ (answers (output_answer z) ≡ does (OutputAt a.0.now a.1.0))
output_promises κs a z e = refl

pub check_promises : (κs : Lfts 1) (a : Dens κs CheckKinds.ps) (z : (res_t CheckKinds.r κs).Denot) (e : AtExit (ended_of 1 CheckKinds.ps CheckKinds.r) κs)
    → CheckReads.Learnt κs a z e
    ≡ ((answers (header_answer z) ≡ does (Check a.0.now)) × IsChecked z a.0.now)
check_promises κs a z e = refl

pub plain_promises : (κs : Lfts 3) (a : Dens κs PlainKinds.ps) (z : (res_t PlainKinds.r κs).Denot) (e : AtExit (ended_of 3 PlainKinds.ps PlainKinds.r) κs)
    → PlainReads.Learnt κs a z e
    ≡ (done_after z (e.1.1.0.now ∷ []) ≡ does (Plain a.0.now a.1.0.now a.1.1.0.now))
plain_promises κs a z e = refl

pub listing_promises : (κs : Lfts 2) (a : Dens κs ListingKinds.ps) (z : (res_t ListingKinds.r κs).Denot) (e : AtExit (ended_of 2 ListingKinds.ps ListingKinds.r) κs)
    → ListingReads.Learnt κs a z e
    ≡ (listed_after z e.1.0.now ≡ does (Listing a.0.now a.1.0.now))
listing_promises κs a z e = refl

pub from_bristol_promises : (κs : Lfts 3) (a : Dens κs FromBristolKinds.ps) (z : (res_t FromBristolKinds.r κs).Denot) (e : AtExit (ended_of 3 FromBristolKinds.ps FromBristolKinds.r) κs)
    → FromBristolReads.Learnt κs a z e
    ≡ (filed_after z e.1.1.0.now ≡ does (FromBristol a.0.now a.1.0.now a.1.1.0.now))
from_bristol_promises κs a z e = refl

-- the questions to a reader, by their clauses
module _ {M : Type 1} {𝓤 : Ura M} (𝓛 : Logic 𝓤) (mem : Memory → SProp 𝓤) (run : Routine → Fun 𝓤) (κs : Lfts 1) where
  pub gate_read_promises : (a : Args GateRead.signature κs) (z : Res GateRead.signature κs) (e : AtExit GateRead.ended κs)
      → (GateRead.clauses 𝓛 mem run κs a).ensures tt z e ≡ fact 𝓤 (answers (gate_answer z) ≡ does (GateAt a.0.file.now a.1.0))
  gate_read_promises a z e = refl

  pub owner_read_promises : (a : Args OwnerRead.signature κs) (z : Res OwnerRead.signature κs) (e : AtExit OwnerRead.ended κs)
      → (OwnerRead.clauses 𝓛 mem run κs a).ensures tt z e ≡ fact 𝓤 (answers (owner_answer z) ≡ does (OwnerAt a.0.file.now a.1.0))
  owner_read_promises a z e = refl

  pub output_read_promises : (a : Args OutputRead.signature κs) (z : Res OutputRead.signature κs) (e : AtExit OutputRead.ended κs)
      → (OutputRead.clauses 𝓛 mem run κs a).ensures tt z e ≡ fact 𝓤 (answers (output_answer z) ≡ does (OutputAt a.0.file.now a.1.0))
  output_read_promises a z e = refl
