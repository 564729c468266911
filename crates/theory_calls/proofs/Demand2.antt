-- Demand 2 about whole calls, for a family: the run on an undisturbed line and on any. At bits: theory_demands/proofs/Demands.antt.
-- Assumes nothing.
use mathlib.Core.Path.{◌≡◌, refl, sym, ap, ap₂, ◌∙◌, subst}
use mathlib.Core.Bool.{not}
use mathlib.Core.Logic.{◌↔◌, ◌⊎◌, inl, inr}
use mathlib.Core.List.{List, [], map}
use Prim.Native.Nat.{ℕ, suc, ◌+◌, ◌*◌, ◌<◌, ◌≤◌}
use native.Mathlib.Omega.{arith}
use lib.ListN.{length, get_or, take, drop}
use lib.Seq.{take_at}
use lib.Dec.{eqb}
use Rattle.theory_sharing.specs.Sites.{Site, next, sites_before, of}
use Rattle.theory_sharing.specs.Circuit.{Circuit, Draws, Errors, wires, all_ands}
use Rattle.theory_sharing.specs.Published.{Parts, no_parts, total, parts, sent_bits}
use Rattle.theory_sharing.specs.Steps.{Wire, hold, copies, named, opened}
use Rattle.theory_sharing.specs.Run.{after, output, made, opens_delivered, transcript, objects, copies_at, opened_at}
use Rattle.theory_sharing.specs.Order.{routes}
use Rattle.theory_sharing.specs.Senders.{sends}
use Rattle.theory_sharing.specs.Tapes.{read}
use Rattle.theory_sharing.specs.Line.{at_output, errors}
use Rattle.theory_sharing.specs.Store.{store, fill}
use Rattle.theory_sharing.proofs.SiteLaws.{by_site}
use Rattle.theory_sharing.proofs.Parts.{AllDraws, total_at}
use Rattle.theory_sharing.proofs.Clean.{look_hold, held}
use Rattle.theory_sharing.proofs.RunLaws as RL
use Rattle.theory_sharing.proofs.OrderLaws.{routes_length}
use Rattle.theory_sharing.proofs.SenderLaws.{delivered_is_sent}
use Rattle.theory_sharing.proofs.StoreLaws.{fill_rest, fill_read, store_at, fill_all}
use Rattle.theory_calls.specs.Answer.{good, abort}
use Rattle.theory_calls.specs.Checks.{tapes_want, line_want}
use Rattle.theory_calls.specs.Calls.{Call, CheckOf, RunOf, does, Accepts, buffer, at_wire}
use Rattle.theory_calls.specs.Statements.{circuit_with, Family, Fitting, Numbers, Clean, copies_of, Alike, StopsAt, opened_plain}
use Rattle.theory_calls.proofs.FamilyLaws.{Lawful, group, numbers_ok, draws_ok}
use Rattle.theory_calls.proofs.Accepted.{RunOkOf, run_ok_of, ok_run, check_sound}
use Rattle.theory_calls.proofs.RunCall as RC

pub accepted_circuits_run : (F : Family) (law : Lawful F) (f x t l outs tr st : List ℕ) → Accepts (CheckOf F f)
    → Numbers F x (circuit_with F f).ins → Numbers F t (tapes_want (circuit_with F f)) → Numbers F l (line_want (circuit_with F f))
    → length outs ≡ 3 * (circuit_with F f).outs → length tr ≡ line_want (circuit_with F f) → length st ≡ 6 * wires (circuit_with F f)
    → Accepts (RunOf F f x t l outs tr st)
accepted_circuits_run F law f x t l outs tr st a bx bt bl ho ht hs =
    ok_run F law f x t l outs tr st (record { sound = check_sound F f a; in_x = bx; in_t = bt; in_l = bl; outs_long = ho; tr_long = ht; st_long = hs })

module _ (F : Family) (law : Lawful F) (f x t l outs tr st : List ℕ) (fx : Fitting F x) (ft : Fitting F t) (fl : Fitting F l)
    (a : Accepts (RunOf F f x t l outs tr st)) where
  abbrev the_run : Call
  the_run = RunOf F f x t l outs tr st

  abbrev C : Circuit
  C = circuit_with F f

  abbrev D : Draws
  D = read C t

  abbrev E : Errors
  E = errors C l

  abbrev published : List Parts
  published = parts F.ops C (at_wire x) D C.gates

  ran_ok : RunOkOf F f x t l outs tr st
  ran_ok = run_ok_of F law f x t l outs tr st fx ft fl a

  good_draws : AllDraws (group F law).laws.Ok D
  good_draws = draws_ok F law C t ran_ok.in_t.small

  pub clean_opens_plain : Clean l → ((does the_run).answer ≡ good []) × (buffer 0 the_run ≡ opened_plain F C x C.outs)
  clean_opens_plain h = (RC.clean_quiet F law f x t l outs tr st fx ft fl a h, RC.clean_outputs F law f x t l outs tr st fx ft fl a h)

  pub clean_store_is_published : Clean l → buffer 2 the_run ≡ store (map hold published)
  clean_store_is_published = RC.clean_store F law f x t l outs tr st fx ft fl a

  published_length : length (map hold published) ≡ wires C
  published_length =
      ap length (sym (held (group F law) C (at_wire x) D good_draws C.gates)) ∙ RL.after_length F.ops C (at_wire x) D _ C.gates

  held_first : (s : Site) (P : Parts) → (of (hold P) s).0 ≡ of P s
  held_first s P = by_site (λ s. (of (hold P) s).0 ≡ of P s) refl refl refl s

  held_second : (s : Site) (P : Parts) → (of (hold P) s).1 ≡ of P (next s)
  held_second s P = by_site (λ s. (of (hold P) s).1 ≡ of P (next s)) refl refl refl s

  pub clean_pairs_are_parts : Clean l → (s : Site) (w : ℕ) → w < wires C
      → (get_or (buffer 2 the_run) (2 * wires C * sites_before s + 2 * w) 0 ≡ of (get_or published w no_parts) s)
      × (get_or (buffer 2 the_run) (2 * wires C * sites_before s + (2 * w + 1)) 0 ≡ of (get_or published w no_parts) (next s))
  clean_pairs_are_parts h s w k =
      let p = store_at (map hold published) (wires C) published_length s w k in (
        ap (λ (z : List ℕ). get_or z (2 * wires C * sites_before s + 2 * w) 0) (clean_store_is_published h) ∙ p.0
            ∙ ap (λ (v : Wire). (of v s).0) (look_hold published w) ∙ held_first s (get_or published w no_parts),
        ap (λ (z : List ℕ). get_or z (2 * wires C * sites_before s + (2 * w + 1)) 0) (clean_store_is_published h) ∙ p.1
            ∙ ap (λ (v : Wire). (of v s).1) (look_hold published w) ∙ held_second s (get_or published w no_parts),
      )

  pub parts_sum_to_plain : (w : ℕ) → total F.ops (get_or published w no_parts) ≡ get_or (F.plain C x) w 0
  parts_sum_to_plain w =
      total_at (group F law) C (at_wire x) D (numbers_ok F law x ran_ok.in_x.small) w ∙ ap (λ (vs : List ℕ). get_or vs w 0) (sym (law.values_are C x ran_ok.in_x.small))

  pub clean_transcript_is_published : Clean l → buffer 1 the_run ≡ sent_bits F.ops C (at_wire x) D C.outs
  clean_transcript_is_published = RC.clean_transcript F law f x t l outs tr st fx ft fl a

  pub stops_at_the_first_unlike_copies : (o : ℕ) → ((m : ℕ) × ((does the_run).answer ≡ abort o m)) ↔ StopsAt F f x t l o
  stops_at_the_first_unlike_copies o = (λ h. (RC.abort_is F f x t l outs tr st a o h.0 h.1).0, λ h. (objects F.ops C (at_wire x) D E o, RC.stops_is F f x t l outs tr st a o h))

  pub names_exactly_those_sites : (o m : ℕ) → (does the_run).answer ≡ abort o m
      → (m < 8) × ((s : Site) → named s m ≡ not (eqb (copies_of F f x t l o s).0 (copies_of F f x t l o s).1))
  unfolding objects
  names_exactly_those_sites o m e =
      let q = (RC.abort_is F f x t l outs tr st a o m e).1 in (
        subst (λ (z : ℕ). z < 8) (sym q) (RL.objecting_small (copies_at F.ops C (at_wire x) D E o)),
        λ s. ap (named s) q ∙ RL.named_is (copies_at F.ops C (at_wire x) D E o) s,
      )

  pub hands_over_no_outputs : (o m : ℕ) → (does the_run).answer ≡ abort o m → buffer 0 the_run ≡ outs
  hands_over_no_outputs = RC.abort_outputs F f x t l outs tr st a

  pub stops_nowhere_else : ((does the_run).answer ≡ good []) ↔ ((o : ℕ) → o < C.outs → Alike F f x t l o)
  stops_nowhere_else = (RC.good_alike F f x t l outs tr st a, RC.all_alike F f x t l outs tr st a)

  good_reaches_every_output : (does the_run).answer ≡ good [] → made F.ops C (at_wire x) D E ≡ C.outs
  good_reaches_every_output = RC.good_made F f x t l outs tr st a

  abort_reaches_its_output : (o m : ℕ) → (does the_run).answer ≡ abort o m → made F.ops C (at_wire x) D E ≡ suc o
  abort_reaches_its_output = RC.abort_made F f x t l outs tr st a

  pub copies_are_delivered : (o : ℕ) → (((does the_run).answer ≡ good []) × (o < C.outs)) ⊎ ((p : ℕ) × (m : ℕ) × ((does the_run).answer ≡ abort p m) × (o ≤ p))
      → (s : Site) → of (copies (take 6 (drop (at_output C o) (buffer 1 the_run)))) s ≡ copies_of F f x t l o s
  copies_are_delivered o h s = ap (λ z. of z s) (RC.six_delivered F f x t l outs tr st a o (reached h))
    where
      reached : (((does the_run).answer ≡ good []) × (o < C.outs)) ⊎ ((p : ℕ) × (m : ℕ) × ((does the_run).answer ≡ abort p m) × (o ≤ p)) → o < made F.ops C (at_wire x) D E
      reached (inl g) = let q : o < C.outs = g.1 in let e = good_reaches_every_output g.0 in omega arith
      reached (inr g) = let q : o ≤ g.0 = g.3 in let e = abort_reaches_its_output g.0 g.1 g.2 in omega arith

  -- of the bytes that are written, at each place of the line
  byte_sent : (k : ℕ) → k < at_output C (made F.ops C (at_wire x) D E)
      → (k < length (routes C C.outs)) × (get_or (buffer 1 the_run) k 0 ≡ F.ops.add (get_or (sends F.ops C (at_wire x) D E C.outs) k 0) (get_or l k 0))
  unfolding transcript at_output
  byte_sent k h =
      let n : ℕ = made F.ops C (at_wire x) D E in
      let m : n ≤ C.outs = RL.made_le F.ops C (at_wire x) D E in
      let w : length (transcript F.ops C (at_wire x) D E) ≡ at_output C n = RC.written_transcript F f x t l outs tr st a in
      let r : length (routes C C.outs) ≡ at_output C C.outs = routes_length C C.outs in (
        omega arith,
        ap (λ (z : List ℕ). get_or z k 0) (RC.run_transcript F f x t l outs tr st a) ∙ fill_read tr _ k (omega arith)
            ∙ delivered_is_sent F.ops C (at_wire x) D l n C.outs m k h,
      )

  pub each_delivered_bit_is_its_senders : (k : ℕ)
      → (((does the_run).answer ≡ good []) × (k < 4 * C.ins + 12 * all_ands C + 6 * C.outs))
      ⊎ ((p : ℕ) × (m : ℕ) × ((does the_run).answer ≡ abort p m) × (k < 4 * C.ins + 12 * all_ands C + 6 * suc p))
      → (k < length (routes C C.outs)) × (get_or (buffer 1 the_run) k 0 ≡ F.ops.add (get_or (sends F.ops C (at_wire x) D E C.outs) k 0) (get_or l k 0))
  unfolding at_output
  each_delivered_bit_is_its_senders k (inl g) =
      byte_sent k (let q : k < at_output C C.outs = g.1 in let e = good_reaches_every_output g.0 in omega arith)
  each_delivered_bit_is_its_senders k (inr g) =
      byte_sent k (let q : k < at_output C (suc g.0) = g.3 in let e = abort_reaches_its_output g.0 g.1 g.2 in omega arith)

  pub abort_keeps_the_rest : (o m : ℕ) → (does the_run).answer ≡ abort o m
      → let n = 4 * C.ins + 12 * all_ands C + 6 * suc o in
      (take n (buffer 1 the_run) ≡ opens_delivered F.ops C (at_wire x) D E (suc o)) × (drop n (buffer 1 the_run) ≡ drop n tr)
  unfolding transcript fill at_output
  abort_keeps_the_rest o m e =
      let T : List ℕ = opens_delivered F.ops C (at_wire x) D E (suc o) in
      let n : length T ≡ at_output C (suc o) = RL.sent_length F.ops C (at_wire x) D E (suc o) in
      let b : buffer 1 the_run ≡ fill tr T = RC.run_transcript F f x t l outs tr st a ∙ ap (λ (k : ℕ). fill tr (opens_delivered F.ops C (at_wire x) D E k)) (abort_reaches_its_output o m e) in (
        ap (take (at_output C (suc o))) b ∙ take_at T _ (at_output C (suc o)) n,
        ap₂ drop (sym n) b ∙ fill_rest tr T ∙ ap (λ (k : ℕ). drop k tr) n,
      )

  pub good_transcript_is_whole : (does the_run).answer ≡ good []
      → (buffer 1 the_run ≡ transcript F.ops C (at_wire x) D E) × (length (buffer 1 the_run) ≡ 4 * C.ins + 12 * all_ands C + 6 * C.outs)
  unfolding at_output
  good_transcript_is_whole e =
      let k = ran_ok.tr_long in
      let n : length (transcript F.ops C (at_wire x) D E) ≡ line_want C = RC.written_transcript F f x t l outs tr st a ∙ ap (at_output C) (good_reaches_every_output e) in
      let b : buffer 1 the_run ≡ transcript F.ops C (at_wire x) D E = RC.run_transcript F f x t l outs tr st a ∙ fill_all tr _ (n ∙ sym k) in
      (b, ap length b ∙ n)

  pub store_is_complete : buffer 2 the_run ≡ store (after F.ops C (at_wire x) D E C.gates)
  store_is_complete = RC.run_store F f x t l outs tr st a

  pub good_run_writes_what_was_opened : (does the_run).answer ≡ good []
      → (length (buffer 0 the_run) ≡ 3 * C.outs)
      × ((o : ℕ) → o < C.outs → (s : Site) → get_or (buffer 0 the_run) (3 * o + sites_before s) 0 ≡ of (opened F.ops (copies_at F.ops C (at_wire x) D E o) (output F.ops C (at_wire x) D E o)) s)
  unfolding opened_at
  good_run_writes_what_was_opened e =
      let b = RC.good_outputs F f x t l outs tr st a e in (
        ap length b ∙ RL.outputs_length F.ops C (at_wire x) D E C.outs,
        λ o h s. ap (λ (z : List ℕ). get_or z (3 * o + sites_before s) 0) b ∙ RL.outputs_at F.ops C (at_wire x) D E o C.outs h s,
      )
