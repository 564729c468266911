-- What each call leaves in its buffers: a refusal but 13 changes none, and whatever the answer none changes its length.
--     Tidy               a call of which this holds
--     open_tidy .. listing_tidy    01's calls, those on inputs, tapes and a line for a family
-- Assumes nothing.
use mathlib.Core.Path.{◌≡◌, refl, sym, ap, ◌∙◌}
use mathlib.Core.Bool.{Bool, true, false, cond}
use mathlib.Core.List.{List, [], ◌∷◌, map}
use Prim.Native.Nat.{ℕ, ◌*◌}
use native.Mathlib.Omega.{arith}
use lib.ListN.{length, get_or, length-append}
use lib.Dec.{eqb}
use borrow.Author.Tests.{eqb-true, ne_eqb}
use Rattle.theory_sharing.specs.Ops.{Ops}
use Rattle.theory_sharing.specs.Sites.{of}
use Rattle.theory_sharing.specs.Circuit.{Circuit, Draws, Errors, no_errors, wires}
use Rattle.theory_sharing.specs.Steps.{Wire}
use Rattle.theory_sharing.specs.Run.{after, made, transcript}
use Rattle.theory_sharing.specs.Tapes.{read}
use Rattle.theory_sharing.specs.Line.{at_output, errors}
use Rattle.theory_sharing.specs.Store.{store, fill}
use Rattle.theory_sharing.proofs.RunLaws.{after_length, sent_length, made_le, outputs_length}
use Rattle.theory_sharing.proofs.StoreLaws.{store_length, side_length, fill_length}
use Rattle.theory_sharing.proofs.ViewLaws.{view_length}
use Rattle.theory_sharing.proofs.RetapeLaws.{new_length}
use Rattle.theory_sharing.proofs.TapeLaws.{tapes_length}
use Rattle.theory_calls.specs.File.{site_of}
use Rattle.theory_calls.specs.Answer.{refused, After}
use Rattle.theory_calls.specs.Checks.{line_want, Verdict, accepted, refuses, verdict}
use Rattle.theory_calls.specs.Calls.{Call, Open, GateAt, OwnerAt, OutputAt, CheckOf, TrafficOf, PlainOf, RunOf, ViewOf, RetapeOf, Listing, does, Accepts, at_wire, both_plain_of, work_room_of}
use Rattle.theory_calls.specs.Statements.{circuit_with, Family, Fitting}
use Rattle.theory_calls.proofs.FamilyLaws.{Lawful, group, draws_ok}
use Rattle.theory_calls.proofs.Refusals.{Passes}
use Rattle.theory_calls.proofs.RowLaws.{sizes_clear}
use Rattle.theory_calls.proofs.CallLaws.{accepts_passes, accepts_does, does_good, does_refused, verdict_refused, verdict_accepts}
use Rattle.theory_calls.proofs.RunCall.{quiet_run, stopped_run, quiet_or_stopped}
use Rattle.theory_calls.proofs.RetapeCall.{retape_does}
use Rattle.theory_calls.proofs.ListingCall.{listing_short}
use Rattle.theory_calls.proofs.Accepted.{run_ok_of, view_ok_of, retape_ok, refused_13}

abbrev sizes : List (List ℕ) → List ℕ
sizes ls = map length ls

two : {a b c d : ℕ} → a ≡ c → b ≡ d → ◌≡◌ {A = List ℕ} (a ∷ b ∷ []) (c ∷ d ∷ [])
two p q = λ i. p i ∷ q i ∷ []

three : {a b c d e f : ℕ} → a ≡ d → b ≡ e → c ≡ f → ◌≡◌ {A = List ℕ} (a ∷ b ∷ c ∷ []) (d ∷ e ∷ f ∷ [])
three p q r = λ i. p i ∷ q i ∷ r i ∷ []

store_long : (R : Ops) (C : Circuit) (x : ℕ → ℕ) (T : Draws) (E : Errors) → length (store (after R C x T E C.gates)) ≡ 6 * wires C
store_long R C x T E = store_length (after R C x T E C.gates) ∙ (let k = after_length R C x T E C.gates in omega arith)

-- a line's length is where the last opening ends
line_end : (C : Circuit) → at_output C C.outs ≡ line_want C
unfolding at_output
line_end C = refl

plain_ok : (F : Family) (f x vs : List ℕ) → Accepts (PlainOf F f x vs) → length vs ≡ wires (circuit_with F f)
unfolding Passes PlainOf
plain_ok F f x vs a =
    let h = accepts_passes (PlainOf F f x vs) a in
    sizes_clear (length vs ∷ []) (wires (circuit_with F f) ∷ []) 1 h.1.1.1.1.1.1.1.0 0 (omega arith)

module _ (F : Family) (law : Lawful F) where
  pub both_length : (C : Circuit) (x y : List ℕ) → length (both_plain_of F C x y) ≡ 2 * wires C
  unfolding both_plain_of
  both_length C x y = length-append (F.plain C x) (F.plain C y) ∙ (let a = law.values_many C x in let b = law.values_many C y in omega arith)

  room_length : (C : Circuit) (x t y : List ℕ) (s : ℕ) → length (work_room_of F C x t y s) ≡ 4 * wires C
  unfolding work_room_of
  room_length C x t y s =
      length-append (both_plain_of F C x y) _
      ∙ (let a = both_length C x y in
      let b = side_length (λ (w : Wire). of w (site_of s)) (after F.ops C (at_wire x) (read C t) no_errors C.gates) in
      let c = after_length F.ops C (at_wire x) (read C t) no_errors C.gates in omega arith)

  -- what accepted calls on a family leave, as long as it was
  pub plain_lengths : (f x vs : List ℕ) → Accepts (PlainOf F f x vs) → sizes (PlainOf F f x vs).good.lent ≡ sizes (PlainOf F f x vs).buffers
  unfolding PlainOf
  plain_lengths f x vs a = ap (λ (n : ℕ). n ∷ []) (law.values_many (circuit_with F f) x ∙ sym (plain_ok F f x vs a))

  pub run_lengths : (f x t l outs tr st : List ℕ) → Fitting F x → Fitting F t → Fitting F l → let c = RunOf F f x t l outs tr st in
      Accepts c → sizes c.good.lent ≡ sizes c.buffers
  unfolding RunOf at_output transcript
  run_lengths f x t l outs tr st fx ft fl a =
      let C = circuit_with F f in
      let D : Draws = read C t in
      let E : Errors = errors C l in
      let k = run_ok_of F law f x t l outs tr st fx ft fl a in
      let told : length (fill tr (transcript F.ops C (at_wire x) D E)) ≡ length tr =
      let m = made_le F.ops C (at_wire x) D E in
      let w = sent_length F.ops C (at_wire x) D E (made F.ops C (at_wire x) D E) in
      let e = line_end C in let h = k.tr_long in fill_length tr _ (omega arith) in
      let kept = store_long F.ops C (at_wire x) D E ∙ sym k.st_long in
      ap (λ (z : After). sizes z.lent) (sym (accepts_does (RunOf F f x t l outs tr st) a))
      ∙ quiet_or_stopped F f x t l outs tr st a
      (λ e. ap (λ (z : After). sizes z.lent) (quiet_run F f x t l outs tr st a e) ∙ three (outputs_length F.ops C (at_wire x) D E C.outs ∙ sym k.outs_long) told kept)
      (λ h. ap (λ (z : After). sizes z.lent) (stopped_run F f x t l outs tr st a h) ∙ three refl told kept)

  pub view_lengths : (f x t : List ℕ) (s : ℕ) (v st : List ℕ) → Fitting F x → Fitting F t → let c = ViewOf F f x t s v st in
      Accepts c → sizes c.good.lent ≡ sizes c.buffers
  unfolding ViewOf
  view_lengths f x t s v st fx ft a =
      let k = view_ok_of F law f x t s v st fx ft a in
      two (view_length (group F law) (site_of s) (circuit_with F f) (at_wire x) t (k.in_t.long ∙ sym (tapes_length (circuit_with F f))) (draws_ok F law (circuit_with F f) t k.in_t.small) ∙ sym k.v_long)
      (store_long F.ops (circuit_with F f) (at_wire x) (read (circuit_with F f) t) no_errors ∙ sym k.st_long)

  pub retape_lengths : (f x t y : List ℕ) (s : ℕ) (nt wr : List ℕ) → Fitting F x → Fitting F t → Fitting F y → let c = RetapeOf F f x t y s nt wr in
      Accepts c → sizes c.good.lent ≡ sizes c.buffers
  unfolding RetapeOf
  retape_lengths f x t y s nt wr fx ft fy a =
      let k = retape_ok F law f x t y s nt wr fx ft fy a in
      let C = circuit_with F f in
      let c = RetapeOf F f x t y s nt wr in
      let new : length (get_or c.good.lent 0 []) ≡ length nt
      = ap (λ (z : After). length (get_or z.lent 0 [])) (sym (accepts_does c a))
      ∙ ap length (retape_does F f x t y s nt wr a) ∙ new_length (group F law) (site_of s) C (at_wire x) (at_wire y) t ∙ tapes_length C ∙ sym k.given.nt_long in
      two new (room_length C x t y s ∙ sym k.given.wr_long)

  -- at 13 a work room of 4W bytes is filled to 2W
  pub room_13 : (f x t y : List ℕ) (s : ℕ) (nt wr : List ℕ) (p : ℕ) → Fitting F x → Fitting F t → Fitting F y → (does (RetapeOf F f x t y s nt wr)).answer ≡ refused 13 p
      → sizes (nt ∷ fill wr (both_plain_of F (circuit_with F f) x y) ∷ []) ≡ sizes (nt ∷ wr ∷ [])
  room_13 f x t y s nt wr p fx ft fy e =
      let k = (refused_13 F law f x t y s nt wr fx ft fy p e).given.wr_long in
      let n = both_length (circuit_with F f) x y in
      two refl (fill_length wr (both_plain_of F (circuit_with F f) x y) (omega arith))

-- 00: "Lent buffers are then unchanged, except a work room at refusal 13"
pub record Tidy (c : Call) : Type 0 where
  pub unchanged : (N : ℕ) → ¬ (N ≡ 13) → c.at_refusal.lent N c.buffers ≡ c.buffers
  pub as_long : sizes (does c).lent ≡ sizes c.buffers

by_verdict : (c : Call) → (Accepts c → sizes c.good.lent ≡ sizes c.buffers)
    → ((n p : ℕ) → (does c).answer ≡ refused n p → sizes (c.at_refusal.lent n c.buffers) ≡ sizes c.buffers) → sizes (does c).lent ≡ sizes c.buffers
by_verdict c good bad = by_cases (verdict c.checks) refl
  where
    by_cases : (v : Verdict) → verdict c.checks ≡ v → sizes (does c).lent ≡ sizes c.buffers
    by_cases accepted e = ap (λ (z : After). sizes z.lent) (does_good c e) ∙ good (verdict_accepts c e)
    by_cases (refuses n p) e = ap (λ (z : After). sizes z.lent) (does_refused c n p e) ∙ bad n p (verdict_refused c n p e)

-- a call that changes nothing at any refusal
pub untouched : (c : Call) → ((n : ℕ) → c.at_refusal.lent n c.buffers ≡ c.buffers) → (Accepts c → sizes c.good.lent ≡ sizes c.buffers) → Tidy c
untouched c u good = record { unchanged = λ n h. u n; as_long = by_verdict c good (λ n p e. ap sizes (u n)) }

pub open_tidy : (f : List ℕ) → Tidy (Open f)
unfolding Open
open_tidy f = untouched (Open f) (λ n. refl) (λ a. refl)

pub gate_tidy : (f : List ℕ) (n : ℕ) → Tidy (GateAt f n)
unfolding GateAt
gate_tidy f n = untouched (GateAt f n) (λ n. refl) (λ a. refl)

pub owner_tidy : (f : List ℕ) (n : ℕ) → Tidy (OwnerAt f n)
unfolding OwnerAt
owner_tidy f n = untouched (OwnerAt f n) (λ n. refl) (λ a. refl)

pub output_tidy : (f : List ℕ) (n : ℕ) → Tidy (OutputAt f n)
unfolding OutputAt
output_tidy f n = untouched (OutputAt f n) (λ n. refl) (λ a. refl)

pub listing_tidy : (j b : List ℕ) → Tidy (Listing j b)
unfolding Listing
listing_tidy j b = untouched (Listing j b) (λ n. refl) (λ a. ap (λ (n : ℕ). n ∷ []) (fill_length b _ (listing_short j b a)))

module _ (F : Family) where
  pub check_tidy : (f : List ℕ) → Tidy (CheckOf F f)
  unfolding CheckOf
  check_tidy f = untouched (CheckOf F f) (λ n. refl) (λ a. refl)

  pub traffic_tidy : (f : List ℕ) → Tidy (TrafficOf F f)
  unfolding TrafficOf
  traffic_tidy f = untouched (TrafficOf F f) (λ n. refl) (λ a. refl)

module _ (F : Family) (law : Lawful F) where
  pub plain_tidy : (f x vs : List ℕ) → Tidy (PlainOf F f x vs)
  unfolding PlainOf
  plain_tidy f x vs = untouched (PlainOf F f x vs) (λ n. refl) (plain_lengths F law f x vs)

  pub run_tidy : (f x t l outs tr st : List ℕ) → Fitting F x → Fitting F t → Fitting F l → Tidy (RunOf F f x t l outs tr st)
  unfolding RunOf
  run_tidy f x t l outs tr st fx ft fl = untouched (RunOf F f x t l outs tr st) (λ n. refl) (run_lengths F law f x t l outs tr st fx ft fl)

  pub view_tidy : (f x t : List ℕ) (s : ℕ) (v st : List ℕ) → Fitting F x → Fitting F t → Tidy (ViewOf F f x t s v st)
  unfolding ViewOf
  view_tidy f x t s v st fx ft = untouched (ViewOf F f x t s v st) (λ n. refl) (view_lengths F law f x t s v st fx ft)

  module _ (f x t y : List ℕ) (s : ℕ) (nt wr : List ℕ) (fx : Fitting F x) (ft : Fitting F t) (fy : Fitting F y) where
    abbrev re_taping : Call
    re_taping = RetapeOf F f x t y s nt wr

    laid : (n p : ℕ) → (does re_taping).answer ≡ refused n p → (b : Bool) → eqb n 13 ≡ b
        → sizes (cond b (nt ∷ fill wr (both_plain_of F (circuit_with F f) x y) ∷ []) (nt ∷ wr ∷ [])) ≡ sizes (nt ∷ wr ∷ [])
    laid n p e true q = room_13 F law f x t y s nt wr p fx ft fy (e ∙ ap (λ (m : ℕ). refused m p) (eqb-true n 13 q))
    laid n p e false q = refl

    pub retape_tidy : Tidy re_taping
    unfolding RetapeOf
    retape_tidy = record {
      unchanged = λ n h. ap (λ (b : Bool). cond b (nt ∷ fill wr (both_plain_of F (circuit_with F f) x y) ∷ []) (nt ∷ wr ∷ [])) (ne_eqb n 13 h);
      as_long = by_verdict re_taping (retape_lengths F law f x t y s nt wr fx ft fy) (λ n p e. laid n p e (eqb n 13) refl);
    }
