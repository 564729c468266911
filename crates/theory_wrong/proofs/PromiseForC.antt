-- What a caller of each export learns, as the checker reads it in the code, is the sentence that docs/STATEMENTS.md gives for it. A contract that
-- says less, or something else, fails here.
--     open_promises .. from_bristol_promises    each export, of the slices at entry (a), the struct (z) and the lent buffers at exit (e)
-- Assumes nothing.
use mathlib.Core.Path.{◌≡◌, refl}
use mathlib.Core.List.{[], ◌∷◌}
use contract.Lifetimes.{Lfts}
use denote.Triple.Clauses.{AtExit}
use borrow.Fn.Kinds.{Dens, res_t, ended_of}
use Rattle.door.proofs.bakebutton_open.Kinds as OpenKinds
use Rattle.door.proofs.bakebutton_open.Reads as OpenReads
use Rattle.door.proofs.bakebutton_gate.Kinds as GateKinds
use Rattle.door.proofs.bakebutton_gate.Reads as GateReads
use Rattle.door.proofs.bakebutton_owner.Kinds as OwnerKinds
use Rattle.door.proofs.bakebutton_owner.Reads as OwnerReads
use Rattle.door.proofs.bakebutton_output.Kinds as OutputKinds
use Rattle.door.proofs.bakebutton_output.Reads as OutputReads
use Rattle.door.proofs.bakebutton_check.Kinds as CheckKinds
use Rattle.door.proofs.bakebutton_check.Reads as CheckReads
use Rattle.door.proofs.bakebutton_sizes.Kinds as SizesKinds
use Rattle.door.proofs.bakebutton_sizes.Reads as SizesReads
use Rattle.door.proofs.bakebutton_plain.Kinds as PlainKinds
use Rattle.door.proofs.bakebutton_plain.Reads as PlainReads
use Rattle.door.proofs.bakebutton_run.Kinds as RunKinds
use Rattle.door.proofs.bakebutton_run.Reads as RunReads
use Rattle.door.proofs.bakebutton_view.Kinds as ViewKinds
use Rattle.door.proofs.bakebutton_view.Reads as ViewReads
use Rattle.door.proofs.bakebutton_retape.Kinds as RetapeKinds
use Rattle.door.proofs.bakebutton_retape.Reads as RetapeReads
use Rattle.door.proofs.bakebutton_traffic.Kinds as TrafficKinds
use Rattle.door.proofs.bakebutton_traffic.Reads as TrafficReads
use Rattle.door.proofs.bakebutton_text_bytes.Kinds as TextBytesKinds
use Rattle.door.proofs.bakebutton_text_bytes.Reads as TextBytesReads
use Rattle.door.proofs.bakebutton_listing.Kinds as ListingKinds
use Rattle.door.proofs.bakebutton_listing.Reads as ListingReads
use Rattle.door.proofs.bakebutton_from_bristol.Kinds as FromBristolKinds
use Rattle.door.proofs.bakebutton_from_bristol.Reads as FromBristolReads
use Rattle.theory_calls.specs.Calls.{Open, GateAt, OwnerAt, OutputAt, Check, Traffic, Plain, Run, View, Retape, Listing, text_bytes, does}
use Rattle.bristol_text.specs.Call.{FromBristol}
use Rattle.door_answers.specs.Told.{Tells, TellsText, TellsFile, told_counts, told_gate, told_owner, told_output, told_traffic}
use Rattle.door_answers.specs.Sizes.{sized}

pub open_promises : (κs : Lfts 1) (a : Dens κs OpenKinds.ps) (z : (res_t OpenKinds.r κs).Denot) (e : AtExit (ended_of 1 OpenKinds.ps OpenKinds.r) κs)
    → OpenReads.Learnt κs a z e
    ≡ (z ≡ told_counts (does (Open a.0.now)).answer)
open_promises κs a z e = refl

pub gate_promises : (κs : Lfts 1) (a : Dens κs GateKinds.ps) (z : (res_t GateKinds.r κs).Denot) (e : AtExit (ended_of 1 GateKinds.ps GateKinds.r) κs)
    → GateReads.Learnt κs a z e
    ≡ (z ≡ told_gate (does (GateAt a.0.now a.1.0)).answer)
gate_promises κs a z e = refl

pub owner_promises : (κs : Lfts 1) (a : Dens κs OwnerKinds.ps) (z : (res_t OwnerKinds.r κs).Denot) (e : AtExit (ended_of 1 OwnerKinds.ps OwnerKinds.r) κs)
    → OwnerReads.Learnt κs a z e
    ≡ (z ≡ told_owner (does (OwnerAt a.0.now a.1.0)).answer)
owner_promises κs a z e = refl

pub output_promises : (κs : Lfts 1) (a : Dens κs OutputKinds.ps) (z : (res_t OutputKinds.r κs).Denot) (e : AtExit (ended_of 1 OutputKinds.ps OutputKinds.r) κs)
    → OutputReads.Learnt κs a z e
    ≡ (z ≡ told_output (does (OutputAt a.0.now a.1.0)).answer)
output_promises κs a z e = refl

pub check_promises : (κs : Lfts 1) (a : Dens κs CheckKinds.ps) (z : (res_t CheckKinds.r κs).Denot) (e : AtExit (ended_of 1 CheckKinds.ps CheckKinds.r) κs)
    → CheckReads.Learnt κs a z e
    ≡ (z ≡ told_counts (does (Check a.0.now)).answer)
check_promises κs a z e = refl

pub sizes_promises : (κs : Lfts 1) (a : Dens κs SizesKinds.ps) (z : (res_t SizesKinds.r κs).Denot) (e : AtExit (ended_of 1 SizesKinds.ps SizesKinds.r) κs)
    → SizesReads.Learnt κs a z e
    ≡ (z ≡ sized a.0.now (does (Check a.0.now)).answer)
sizes_promises κs a z e = refl

pub plain_promises : (κs : Lfts 3) (a : Dens κs PlainKinds.ps) (z : (res_t PlainKinds.r κs).Denot) (e : AtExit (ended_of 3 PlainKinds.ps PlainKinds.r) κs)
    → PlainReads.Learnt κs a z e
    ≡ (Tells z (e.1.1.0.now ∷ []) (Plain a.0.now a.1.0.now a.1.1.0.now))
plain_promises κs a z e = refl

pub run_promises : (κs : Lfts 7) (a : Dens κs RunKinds.ps) (z : (res_t RunKinds.r κs).Denot) (e : AtExit (ended_of 7 RunKinds.ps RunKinds.r) κs)
    → RunReads.Learnt κs a z e
    ≡ (Tells z (e.1.1.1.1.0.now ∷ e.1.1.1.1.1.0.now ∷ e.1.1.1.1.1.1.0.now ∷ []) (Run a.0.now a.1.0.now a.1.1.0.now a.1.1.1.0.now a.1.1.1.1.0.now a.1.1.1.1.1.0.now a.1.1.1.1.1.1.0.now))
run_promises κs a z e = refl

pub view_promises : (κs : Lfts 5) (a : Dens κs ViewKinds.ps) (z : (res_t ViewKinds.r κs).Denot) (e : AtExit (ended_of 5 ViewKinds.ps ViewKinds.r) κs)
    → ViewReads.Learnt κs a z e
    ≡ (Tells z (e.1.1.1.1.0.now ∷ e.1.1.1.1.1.0.now ∷ []) (View a.0.now a.1.0.now a.1.1.0.now a.1.1.1.0 a.1.1.1.1.0.now a.1.1.1.1.1.0.now))
view_promises κs a z e = refl

pub retape_promises : (κs : Lfts 6) (a : Dens κs RetapeKinds.ps) (z : (res_t RetapeKinds.r κs).Denot) (e : AtExit (ended_of 6 RetapeKinds.ps RetapeKinds.r) κs)
    → RetapeReads.Learnt κs a z e
    ≡ (Tells z (e.1.1.1.1.1.0.now ∷ e.1.1.1.1.1.1.0.now ∷ []) (Retape a.0.now a.1.0.now a.1.1.0.now a.1.1.1.0.now a.1.1.1.1.0 a.1.1.1.1.1.0.now a.1.1.1.1.1.1.0.now))
retape_promises κs a z e = refl

pub traffic_promises : (κs : Lfts 1) (a : Dens κs TrafficKinds.ps) (z : (res_t TrafficKinds.r κs).Denot) (e : AtExit (ended_of 1 TrafficKinds.ps TrafficKinds.r) κs)
    → TrafficReads.Learnt κs a z e
    ≡ (z ≡ told_traffic (does (Traffic a.0.now)))
traffic_promises κs a z e = refl

pub text_bytes_promises : (κs : Lfts 0) (a : Dens κs TextBytesKinds.ps) (z : (res_t TextBytesKinds.r κs).Denot) (e : AtExit (ended_of 0 TextBytesKinds.ps TextBytesKinds.r) κs)
    → TextBytesReads.Learnt κs a z e
    ≡ (z ≡ text_bytes)
text_bytes_promises κs a z e = refl

pub listing_promises : (κs : Lfts 2) (a : Dens κs ListingKinds.ps) (z : (res_t ListingKinds.r κs).Denot) (e : AtExit (ended_of 2 ListingKinds.ps ListingKinds.r) κs)
    → ListingReads.Learnt κs a z e
    ≡ (TellsText z (e.1.0.now ∷ []) (Listing a.0.now a.1.0.now))
listing_promises κs a z e = refl

pub from_bristol_promises : (κs : Lfts 3) (a : Dens κs FromBristolKinds.ps) (z : (res_t FromBristolKinds.r κs).Denot) (e : AtExit (ended_of 3 FromBristolKinds.ps FromBristolKinds.r) κs)
    → FromBristolReads.Learnt κs a z e
    ≡ (TellsFile z (e.1.1.0.now ∷ []) (FromBristol a.0.now a.1.0.now a.1.1.0.now))
from_bristol_promises κs a z e = refl
