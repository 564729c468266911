-- The three demands of 00, a theorem for each sentence, about the whole calls of theory_calls/specs/Calls.antt. Nothing else is here. What is said
-- of bits in demands 2 and 3 holds of every family of numbers with the laws (theory_calls/proofs, Demand2.antt to Figures.antt, under these names).
-- `does c` is the answer of call c, what it returns, and every lent buffer afterwards; `buffer k c` is lent buffer k afterwards;
-- `Accepts c` says that its answer is no refusal. Assumes nothing.
use mathlib.Core.Path.{◌≡◌}
use mathlib.Core.Bool.{not}
use mathlib.Core.Logic.{◌↔◌, ◌⊎◌}
use mathlib.Core.List.{List, [], ◌∷◌, ◌++◌, map}
use Prim.Native.Nat.{ℕ, suc, ◌+◌, ◌*◌, ◌<◌, ◌≤◌}
use lib.ListN.{length, get_or, take, drop}
use lib.Dec.{eqb}
use lib.Bits.{bit_xor}
use Rattle.theory_sharing.specs.Ops.{bits}
use Rattle.theory_sharing.specs.Sites.{Site, next, sites_before, of}
use Rattle.theory_sharing.specs.Circuit.{Circuit, wires, all_ands, all_owned}
use Rattle.theory_sharing.specs.Published.{Parts, no_parts, total, parts, sent_bits}
use Rattle.theory_sharing.specs.Steps.{hold, copies, named, opened}
use Rattle.theory_sharing.specs.Run.{after, output, copies_at, opens_delivered, transcript}
use Rattle.theory_sharing.specs.Order.{routes, pick, count}
use Rattle.theory_sharing.specs.Senders.{sends}
use Rattle.theory_sharing.specs.Tapes.{cut, read}
use Rattle.theory_sharing.specs.Line.{at_output, errors}
use Rattle.theory_sharing.specs.Store.{store, fill}
use Rattle.theory_sharing.specs.View.{own_ins}
use Rattle.theory_sharing.specs.Traffic.{input_adds, gate_adds, output_adds, sum, comparing, add_up, table_total, no_table}
use Rattle.theory_calls.specs.File.{circuit, site_of}
use Rattle.theory_calls.specs.Plain.{plain, plain_out}
use Rattle.theory_calls.specs.Answer.{good, abort, refused}
use Rattle.theory_calls.specs.Checks.{Holds}
use Rattle.theory_calls.specs.Refusal.{check, FirstRefusal, InOneOrder}
use Rattle.theory_calls.specs.Listing.{good_text}
use Rattle.theory_calls.specs.Calls.{Call, Open, Check, Traffic, Run, View, Retape, Listing, does, Accepts, buffer, at_wire, job_file, job_inputs}
use Rattle.theory_calls.specs.Statements.{bit_family, Bits, Clean, copies_of, Alike, StopsAt, Keeps, opened_plain, plain_outs, part_of, entry_of}
use Rattle.theory_calls.proofs.FamilyLaws.{bit_lawful, bits_fit}
use Rattle.theory_calls.proofs as laws
use Rattle.theory_demands.specs.Public.{OnFile, fixed_order, Public}
use Rattle.theory_demands.proofs.PublicLaws.{ordered, tidy}

-- DEMAND 1. "Every public call checks all it is given. A refusal is a number and a place, given in one fixed order, when its condition holds
-- and at no other time."
pub refused_exactly : (c : Call) (N P : ℕ) → ((does c).answer ≡ refused N P) ↔ FirstRefusal c.checks N P
refused_exactly = laws.Demand1.refused_exactly

pub accepted_exactly : (c : Call) → Accepts c ↔ ((k P : ℕ) → ¬ Holds (check c.checks k).row P)
accepted_exactly = laws.Demand1.accepted_exactly

-- "in one fixed order": each check of a call on a circuit file, or on a job with one, gives one number, and they stand as in the one order,
pub checks_stand_in_one_order : (c : Call) → OnFile c → InOneOrder fixed_order c.checks
checks_stand_in_one_order = ordered

-- so that what two such calls both check, they check in the same order.
pub one_order_for_all_calls : (c d : Call) → OnFile c → OnFile d → let cs = c.checks in let ds = d.checks in
    (j k j' k' : ℕ) → j < length cs → k < length cs → j' < length ds → k' < length ds
    → (check cs j).number 0 ≡ (check ds j').number 0 → (check cs k).number 0 ≡ (check ds k').number 0 → (j < k) ↔ (j' < k')
one_order_for_all_calls c d oc od = laws.Orders.order_agrees fixed_order c.checks d.checks (ordered c oc) (ordered d od)

-- "Lent buffers are then unchanged, except a work room at refusal 13, whose bytes are laid down."
pub refusal_changes_no_buffer : (c : Call) → Public c → (N P : ℕ) → (does c).answer ≡ refused N P → ¬ (N ≡ 13) → (does c).lent ≡ c.buffers
refusal_changes_no_buffer c o = laws.Demand1.changes_no_buffer c (tidy c o).unchanged

pub refusal_13_lays_down_plain_values : (f x t y : List ℕ) (s : ℕ) (nt wr : List ℕ) (P : ℕ) → let c = Retape f x t y s nt wr in
    (does c).answer ≡ refused 13 P
    → (buffer 0 c ≡ nt)
    × (take (2 * wires (circuit f)) (buffer 1 c) ≡ plain (circuit f) x ++ plain (circuit f) y)
    × (drop (2 * wires (circuit f)) (buffer 1 c) ≡ drop (2 * wires (circuit f)) wr)
refusal_13_lays_down_plain_values = laws.Demand1.refusal_13_lays_down_plain_values bit_family bit_lawful

-- Whatever the answer, no lent buffer changes its length.
pub lent_buffers_keep_their_lengths : (c : Call) → Public c → map length (does c).lent ≡ map length c.buffers
lent_buffers_keep_their_lengths c o = (tidy c o).as_long

-- 01: "so a file has at most 20,000 bytes"; line and transcript have "at most 42,496": of every file that passes 1 to 3,
pub accepted_files_are_small : (f : List ℕ) → Accepts (Open f) → (length f ≤ 20000) × (4 * (circuit f).ins + 12 * all_ands (circuit f) + 6 * (circuit f).outs ≤ 42496)
accepted_files_are_small = laws.Demand1.accepted_files_are_small bit_family

-- and so of every one that passes 1 to 6.
pub what_is_checked_opens : (f : List ℕ) → Accepts (Check f) → Accepts (Open f)
what_is_checked_opens = laws.Demand1.what_is_checked_opens bit_family

-- 01: "With a refusal the table is all zeros."
pub refused_traffic_is_zero : (f : List ℕ) (N P : ℕ) → (does (Traffic f)).answer ≡ refused N P → (does (Traffic f)).returned ≡ no_table
refused_traffic_is_zero = laws.Demand1.refused_traffic_is_zero bit_family

-- DEMAND 2. "each accepted circuit": it runs on every inputs, tapes and line of bits that have the right lengths, in buffers that have theirs.
pub accepted_circuits_run : (f x t l outs tr st : List ℕ) → Accepts (Check f)
    → Bits x (circuit f).ins → Bits t (2 * (circuit f).ins + 6 * all_ands (circuit f)) → Bits l (4 * (circuit f).ins + 12 * all_ands (circuit f) + 6 * (circuit f).outs)
    → length outs ≡ 3 * (circuit f).outs → length tr ≡ 4 * (circuit f).ins + 12 * all_ands (circuit f) + 6 * (circuit f).outs → length st ≡ 6 * wires (circuit f)
    → Accepts (Run f x t l outs tr st)
accepted_circuits_run = laws.Demand2.accepted_circuits_run bit_family bit_lawful

-- The undisturbed line. "On an undisturbed line each accepted circuit opens at all three sites to its plain Boolean value"
module _ (f x t l outs tr st : List ℕ) (accepted : Accepts (Run f x t l outs tr st)) where
  abbrev the_run : Call
  the_run = Run f x t l outs tr st

  abbrev C : Circuit
  C = circuit f

  -- the published parts of every wire
  abbrev published : List Parts
  published = parts bits C (at_wire x) (read C t) C.gates

  pub clean_opens_plain : Clean l → ((does the_run).answer ≡ good []) × (buffer 0 the_run ≡ opened_plain bit_family C x C.outs)
  clean_opens_plain = laws.Demand2.clean_opens_plain bit_family bit_lawful f x t l outs tr st (bits_fit x) (bits_fit t) (bits_fit l) accepted

  -- "and every share .. is what the published 2-of-3 replicated sharing gives for those tapes": the store holds the published parts,
  pub clean_store_is_published : Clean l → buffer 2 the_run ≡ store (map hold published)
  clean_store_is_published = laws.Demand2.clean_store_is_published bit_family bit_lawful f x t l outs tr st (bits_fit x) (bits_fit t) (bits_fit l) accepted

  -- site s having parts s and s + 1 of wire w, so that both holders of a part hold the same,
  pub clean_pairs_are_parts : Clean l → (s : Site) (w : ℕ) → w < wires C
      → (get_or (buffer 2 the_run) (2 * wires C * sites_before s + 2 * w) 0 ≡ of (get_or published w no_parts) s)
      × (get_or (buffer 2 the_run) (2 * wires C * sites_before s + (2 * w + 1)) 0 ≡ of (get_or published w no_parts) (next s))
  clean_pairs_are_parts = laws.Demand2.clean_pairs_are_parts bit_family bit_lawful f x t l outs tr st (bits_fit x) (bits_fit t) (bits_fit l) accepted

  -- and the three parts of a wire add up to its plain value.
  pub parts_sum_to_plain : (w : ℕ) → total bits (get_or published w no_parts) ≡ get_or (plain C x) w 0
  parts_sum_to_plain = laws.Demand2.parts_sum_to_plain bit_family bit_lawful f x t l outs tr st (bits_fit x) (bits_fit t) (bits_fit l) accepted

  -- "and every bit sent"
  pub clean_transcript_is_published : Clean l → buffer 1 the_run ≡ sent_bits bits C (at_wire x) (read C t) C.outs
  clean_transcript_is_published = laws.Demand2.clean_transcript_is_published bit_family bit_lawful f x t l outs tr st (bits_fit x) (bits_fit t) (bits_fit l) accepted

  -- DEMAND 2, any line. "With bits changed on the way, the run stops at the first output where some site gets two unlike copies"
  pub stops_at_the_first_unlike_copies : (o : ℕ) → ((m : ℕ) × ((does the_run).answer ≡ abort o m)) ↔ StopsAt bit_family f x t l o
  stops_at_the_first_unlike_copies = laws.Demand2.stops_at_the_first_unlike_copies bit_family bit_lawful f x t l outs tr st (bits_fit x) (bits_fit t) (bits_fit l) accepted

  -- "names those sites"
  pub names_exactly_those_sites : (o m : ℕ) → (does the_run).answer ≡ abort o m
      → (m < 8) × ((s : Site) → named s m ≡ not (eqb (copies_of bit_family f x t l o s).0 (copies_of bit_family f x t l o s).1))
  names_exactly_those_sites = laws.Demand2.names_exactly_those_sites bit_family bit_lawful f x t l outs tr st (bits_fit x) (bits_fit t) (bits_fit l) accepted

  -- "and hands over no outputs"
  pub hands_over_no_outputs : (o m : ℕ) → (does the_run).answer ≡ abort o m → buffer 0 the_run ≡ outs
  hands_over_no_outputs = laws.Demand2.hands_over_no_outputs bit_family bit_lawful f x t l outs tr st (bits_fit x) (bits_fit t) (bits_fit l) accepted

  -- "It stops nowhere else."
  pub stops_nowhere_else : ((does the_run).answer ≡ good []) ↔ ((o : ℕ) → o < C.outs → Alike bit_family f x t l o)
  stops_nowhere_else = laws.Demand2.stops_nowhere_else bit_family bit_lawful f x t l outs tr st (bits_fit x) (bits_fit t) (bits_fit l) accepted

  -- the copies are the delivered bits at their places in the transcript, for every output that the run reaches: all of a good run, at an abort
  -- those through the output that it gives
  pub copies_are_delivered : (o : ℕ) → (((does the_run).answer ≡ good []) × (o < C.outs)) ⊎ ((p : ℕ) × (m : ℕ) × ((does the_run).answer ≡ abort p m) × (o ≤ p))
      → (s : Site) → of (copies (take 6 (drop (at_output C o) (buffer 1 the_run)))) s ≡ copies_of bit_family f x t l o s
  copies_are_delivered = laws.Demand2.copies_are_delivered bit_family bit_lawful f x t l outs tr st (bits_fit x) (bits_fit t) (bits_fit l) accepted

  -- 01: "The line is one byte per sent bit, xored onto it. The transcript is the delivered bits in this order.": route k is entry k of routes, and
  -- byte k is what its sender sends, from its own pair or its own deal, xored with byte k of the line; every byte of a good run, at an abort those
  -- through that opening's six bits. `sends` goes over the routes, step by step: by its definition its entry k is made for entry k of them
  pub each_delivered_bit_is_its_senders : (k : ℕ)
      → (((does the_run).answer ≡ good []) × (k < 4 * C.ins + 12 * all_ands C + 6 * C.outs))
      ⊎ ((p : ℕ) × (m : ℕ) × ((does the_run).answer ≡ abort p m) × (k < 4 * C.ins + 12 * all_ands C + 6 * suc p))
      → (k < length (routes C C.outs)) × (get_or (buffer 1 the_run) k 0 ≡ bit_xor (get_or (sends bits C (at_wire x) (read C t) (errors C l) C.outs) k 0) (get_or l k 0))
  each_delivered_bit_is_its_senders = laws.Demand2.each_delivered_bit_is_its_senders bit_family bit_lawful f x t l outs tr st (bits_fit x) (bits_fit t) (bits_fit l) accepted

  -- 01: "the transcript holds everything through that opening's six bits and its rest is unchanged"
  pub abort_keeps_the_rest : (o m : ℕ) → (does the_run).answer ≡ abort o m
      → let n = 4 * C.ins + 12 * all_ands C + 6 * suc o in
      (take n (buffer 1 the_run) ≡ opens_delivered bits C (at_wire x) (read C t) (errors C l) (suc o)) × (drop n (buffer 1 the_run) ≡ drop n tr)
  abort_keeps_the_rest = laws.Demand2.abort_keeps_the_rest bit_family bit_lawful f x t l outs tr st (bits_fit x) (bits_fit t) (bits_fit l) accepted

  -- "the store is complete", at an abort as in a good run: every site's pair of every wire
  pub store_is_complete : buffer 2 the_run ≡ store (after bits C (at_wire x) (read C t) (errors C l) C.gates)
  store_is_complete = laws.Demand2.store_is_complete bit_family bit_lawful f x t l outs tr st (bits_fit x) (bits_fit t) (bits_fit l) accepted

  -- "A good run writes 3O bytes, for each output what site 1, 2 and 3 opened.", on any line
  pub good_run_writes_what_was_opened : (does the_run).answer ≡ good []
      → (length (buffer 0 the_run) ≡ 3 * C.outs)
      × ((o : ℕ) → o < C.outs → (s : Site)
      → get_or (buffer 0 the_run) (3 * o + sites_before s) 0
      ≡ of (opened bits (copies_at bits C (at_wire x) (read C t) (errors C l) o) (output bits C (at_wire x) (read C t) (errors C l) o)) s)
  good_run_writes_what_was_opened = laws.Demand2.good_run_writes_what_was_opened bit_family bit_lawful f x t l outs tr st (bits_fit x) (bits_fit t) (bits_fit l) accepted

  -- LENGTHS. 01: transcript and line "have 4I+12A+6O bytes": a good run's transcript is whole
  pub good_transcript_is_whole : (does the_run).answer ≡ good []
      → (buffer 1 the_run ≡ transcript bits C (at_wire x) (read C t) (errors C l)) × (length (buffer 1 the_run) ≡ 4 * C.ins + 12 * all_ands C + 6 * C.outs)
  good_transcript_is_whole = laws.Demand2.good_transcript_is_whole bit_family bit_lawful f x t l outs tr st (bits_fit x) (bits_fit t) (bits_fit l) accepted

-- DEMAND 3. "Take an undisturbed run, one site, and other inputs to the same circuit that keep that site's own bits and all opened bits."
-- The first view is View f x t s v st; re_taping is asked for second inputs y.
module _ (f x t y : List ℕ) (s : ℕ) (nt wr : List ℕ) where
  abbrev re_taping : Call
  re_taping = Retape f x t y s nt wr

  abbrev new : List ℕ
  new = buffer 0 re_taping

  -- with such inputs, and buffers of the right lengths, re_taping is accepted,
  pub kept_bits_are_accepted : (v st : List ℕ) → Accepts (View f x t s v st) → Bits y (circuit f).ins
      → length nt ≡ 2 * (circuit f).ins + 6 * all_ands (circuit f) → length wr ≡ 4 * wires (circuit f) → Keeps bit_family (site_of s) (circuit f) x y
      → Accepts re_taping
  kept_bits_are_accepted = laws.Demand3.kept_bits_are_accepted bit_family bit_lawful f x t y s nt wr (bits_fit x) (bits_fit t) (bits_fit y)

  -- and only with such,
  pub accepted_keeps_own_and_opened_bits : Accepts re_taping → Keeps bit_family (site_of s) (circuit f) x y
  accepted_keeps_own_and_opened_bits = laws.Demand3.accepted_keeps_own_and_opened_bits bit_family bit_lawful f x t y s nt wr (bits_fit x) (bits_fit t) (bits_fit y)

  -- "Exactly one set of tapes gives that site the same view: own bits and tape, bits received, bits opened. The program returns it."
  -- A second call is lent buffers of its own, whatever they hold.
  pub new_tapes_give_the_same_view : Accepts re_taping → (v st : List ℕ) → Accepts (View f x t s v st)
      → (v' st' : List ℕ) → length v' ≡ length v → length st' ≡ length st
      → Accepts (View f y new s v' st') × (buffer 0 (View f y new s v' st') ≡ buffer 0 (View f x t s v st))
  new_tapes_give_the_same_view = laws.Demand3.new_tapes_give_the_same_view bit_family bit_lawful f x t y s nt wr (bits_fit x) (bits_fit t) (bits_fit y)

  pub no_other_tapes_do : Accepts re_taping → (v st : List ℕ) → Accepts (View f x t s v st) → (u v' st' : List ℕ) → Accepts (View f y u s v' st')
      → buffer 0 (View f y u s v' st') ≡ buffer 0 (View f x t s v st) → u ≡ new
  no_other_tapes_do a v st b u v' st' = laws.Demand3.no_other_tapes_do bit_family bit_lawful f x t y s nt wr (bits_fit x) (bits_fit t) (bits_fit y) a v st b u v' st' (bits_fit u)

  -- "Going back returns the first tapes"
  pub going_back_returns_the_first_tapes : Accepts re_taping → (nt' wr' : List ℕ) → length nt' ≡ length nt → length wr' ≡ length wr
      → let back = Retape f y new x s nt' wr' in Accepts back × (buffer 0 back ≡ t)
  going_back_returns_the_first_tapes = laws.Demand3.going_back_returns_the_first_tapes bit_family bit_lawful f x t y s nt wr (bits_fit x) (bits_fit t) (bits_fit y)

  -- "going by way of a third such set of inputs returns what going straight does": if two of the three calls are accepted, so is the other
  pub by_way_of_a_third : Accepts re_taping → (z nt' wr' : List ℕ) → Accepts (Retape f x t z s nt' wr')
      → (nt'' wr'' : List ℕ) → length nt'' ≡ length nt → length wr'' ≡ length wr
      → let way = Retape f y new z s nt'' wr'' in Accepts way × (buffer 0 way ≡ buffer 0 (Retape f x t z s nt' wr'))
  by_way_of_a_third a z nt' wr' = laws.Demand3.by_way_of_a_third bit_family bit_lawful f x t y s nt wr (bits_fit x) (bits_fit t) (bits_fit y) a z nt' wr' (bits_fit z)

  pub straight_is_accepted_too : Accepts re_taping → (z nt' wr' : List ℕ) → Accepts (Retape f y new z s nt' wr')
      → (nt'' wr'' : List ℕ) → length nt'' ≡ length nt → length wr'' ≡ length wr → Accepts (Retape f x t z s nt'' wr'')
  straight_is_accepted_too a z nt' wr' = laws.Demand3.straight_is_accepted_too bit_family bit_lawful f x t y s nt wr (bits_fit x) (bits_fit t) (bits_fit y) a z nt' wr' (bits_fit z)

  -- "Where own or opened bits change, no such tapes exist and it says so."
  pub where_13_no_tapes_exist : (P : ℕ) → (does re_taping).answer ≡ refused 13 P
      → (v st u v' st' : List ℕ) → Accepts (View f x t s v st) → Accepts (View f y u s v' st')
      → ¬ (buffer 0 (View f y u s v' st') ≡ buffer 0 (View f x t s v st))
  where_13_no_tapes_exist P e v st u v' st' = laws.Demand3.where_13_no_tapes_exist bit_family bit_lawful f x t y s nt wr (bits_fit x) (bits_fit t) (bits_fit y) P e v st u v' st' (bits_fit u)

  pub changed_bits_are_refused_with_13 : (v st : List ℕ) → Accepts (View f x t s v st) → Bits y (circuit f).ins
      → length nt ≡ 2 * (circuit f).ins + 6 * all_ands (circuit f) → length wr ≡ 4 * wires (circuit f) → ¬ Keeps bit_family (site_of s) (circuit f) x y
      → (P : ℕ) × ((does re_taping).answer ≡ refused 13 P)
  changed_bits_are_refused_with_13 = laws.Demand3.changed_bits_are_refused_with_13 bit_family bit_lawful f x t y s nt wr (bits_fit x) (bits_fit t) (bits_fit y)

  -- 01: "a work room of 4W bytes: plain values of all wires under the first inputs, then under the second, then the site's pairs (2W)":
  -- those of an undisturbed run on the first inputs and tapes,
  pub work_room_has_the_first_runs_pairs : Accepts re_taping → (l outs tr st : List ℕ) → Accepts (Run f x t l outs tr st) → Clean l
      → buffer 1 re_taping ≡ plain (circuit f) x ++ plain (circuit f) y ++ part_of (site_of s) (circuit f) (buffer 2 (Run f x t l outs tr st))
  work_room_has_the_first_runs_pairs = laws.Demand3.work_room_has_the_first_runs_pairs bit_family bit_lawful f x t y s nt wr (bits_fit x) (bits_fit t) (bits_fit y)

  -- and as well of one on the second inputs and the new tapes.
  pub work_room_has_the_second_runs_pairs : Accepts re_taping → (l outs tr st : List ℕ) → Accepts (Run f y new l outs tr st) → Clean l
      → buffer 1 re_taping ≡ plain (circuit f) x ++ plain (circuit f) y ++ part_of (site_of s) (circuit f) (buffer 2 (Run f y new l outs tr st))
  work_room_has_the_second_runs_pairs = laws.Demand3.work_room_has_the_second_runs_pairs bit_family bit_lawful f x t y s nt wr (bits_fit x) (bits_fit t) (bits_fit y)

  -- 01: new tapes have 2I+6A bits
  pub new_tapes_length : Accepts re_taping → length new ≡ 2 * (circuit f).ins + 6 * all_ands (circuit f)
  new_tapes_length = laws.Demand3.new_tapes_length bit_family bit_lawful f x t y s nt wr (bits_fit x) (bits_fit t) (bits_fit y)

-- The view and the run are of one thing: on a clean line the view's store "holding afterwards what a clean run's store holds", its
-- delivered bits are those of the run's transcript that reach the site, and its opened bits are the plain values.
module _ (f x t l : List ℕ) (s : ℕ) (outs tr st v vst : List ℕ) (ran : Accepts (Run f x t l outs tr st)) (seen : Accepts (View f x t s v vst)) (clean : Clean l) where
  pub view_store_is_a_clean_runs : buffer 1 (View f x t s v vst) ≡ buffer 2 (Run f x t l outs tr st)
  view_store_is_a_clean_runs = laws.ViewOfRun.view_store_is_a_clean_runs bit_family bit_lawful f x t l s outs tr st v vst (bits_fit x) (bits_fit t) (bits_fit l) ran seen clean

  pub view_is_of_a_clean_run : buffer 0 (View f x t s v vst)
      ≡ own_ins (site_of s) (circuit f) (at_wire x) (circuit f).ins ++ of (cut (circuit f) t) (site_of s)
      ++ pick (site_of s) (routes (circuit f) (circuit f).outs) (buffer 1 (Run f x t l outs tr st)) ++ plain_outs bit_family (circuit f) x (circuit f).outs
  view_is_of_a_clean_run = laws.ViewOfRun.view_is_of_a_clean_run bit_family bit_lawful f x t l s outs tr st v vst (bits_fit x) (bits_fit t) (bits_fit l) ran seen clean

-- 01: the listing's bits are the plain values: the text in front in its buffer, whose length it answers
pub listing_shows_plain_values : (j b : List ℕ) → Accepts (Listing j b) → let said = good_text (circuit (job_file j)) (plain_out (circuit (job_file j)) (job_inputs j)) in
    ((does (Listing j b)).answer ≡ good (length said ∷ [])) × (buffer 0 (Listing j b) ≡ fill b said)
listing_shows_plain_values = laws.Figures.listing_plain

-- 01: "line two the traffic total": the total in that text is the sum of the table that a traffic call returns
pub listing_shows_the_traffic_total : (j b : List ℕ) → Accepts (Listing j b)
    → Accepts (Traffic (job_file j)) × (table_total (circuit (job_file j)) ≡ add_up (does (Traffic (job_file j))).returned)
listing_shows_the_traffic_total = laws.Figures.listing_total

-- 01: a view's "length is 2I+Is+6A+3O"
pub view_length : (f x t : List ℕ) (s : ℕ) (v st : List ℕ) → Accepts (View f x t s v st)
    → length (buffer 0 (View f x t s v st)) ≡ 2 * (circuit f).ins + all_owned (circuit f) (site_of s) + 6 * all_ands (circuit f) + 3 * (circuit f).outs
view_length f x t s v st = laws.Demand3.view_length bit_family bit_lawful f x t s v st (bits_fit x) (bits_fit t)

-- TRAFFIC. 01: "each entry equals the sum over the circuit's steps"
module _ (f : List ℕ) (accepted : Accepts (Traffic f)) where
  abbrev T : List (List ℕ)
  T = (does (Traffic f)).returned

  abbrev K : Circuit
  K = circuit f

  pub each_entry_is_the_sum_over_the_steps : (a b : Site)
      → entry_of T a b
      ≡ sum (λ i. input_adds (K.owner i) a b) K.ins + sum (λ g. gate_adds (K.gate g) a b) K.gates + sum (λ o. output_adds a b) K.outs
  each_entry_is_the_sum_over_the_steps = laws.Figures.each_entry_is_the_sum_over_the_steps bit_family f accepted

  -- "The diagonal is 0, the total 4I+12A+3O."
  pub diagonal_is_zero : (a : Site) → entry_of T a a ≡ 0
  diagonal_is_zero = laws.Figures.diagonal_is_zero bit_family f accepted

  pub traffic_total : add_up T ≡ 4 * K.ins + 12 * all_ands K + 3 * K.outs
  traffic_total = laws.Figures.traffic_total bit_family f accepted

  -- an entry is the number of bits sent from a to b, but for the comparing copies: "the comparing copy is left out of the figure"
  pub entry_counts_sent_bits : (a b : Site) → count a b (routes K K.outs) ≡ entry_of T a b + comparing a b * K.outs
  entry_counts_sent_bits = laws.Figures.entry_counts_sent_bits bit_family f accepted
