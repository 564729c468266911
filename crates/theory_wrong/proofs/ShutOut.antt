-- The wrong engines of specs/Wrong.antt do not meet the promises, whatever the lent buffers held.
--     refusing_everything_fails    with any number and any place, at every run that is accepted;  ..-on-K1: K1 is one, with buffers of the right lengths
--     refusing_everything_with_fails    so with each refusal of the code;  ..-on-K1
--     writing_nothing_on_K1        it meets the promise on K1 exactly where the buffers held K1's results before
--     writing_nothing_fails        so whatever they held, it fails on K1 or on inputs 1 0;  ..-on-one-byte: on K1, where they held one byte throughout
--     fixed_bit_fails_on_K1, ..-on-1-0    a bit that is not 1 fails on K1, one that is not 0 on inputs 1 0
--     copied_values_open_right     on a clean line all that it opens is right
--     copying_fails_on_K1          with the plainest choice of parts and bits: it opens the right bits, even its store is right, and the bits sent are not
--     copying_fails                with any parts and bits that are made from the circuit and its plain values: on K1 or on other tapes
--     made_up_table_fails          on K's file or on that file with another owner
-- Assumes nothing.
use mathlib.Core.Path.{◌≡◌, refl, sym, ap, ◌∙◌}
use mathlib.Core.Logic.{◌↔◌}
use mathlib.Core.List.{List, [], ◌∷◌}
use Prim.Native.Nat.{ℕ}
use native.Mathlib.Omega.{arith}
use lib.ListN.{length, get_or, replicate, set}
use Rattle.theory_sharing.specs.Sites.{is}
use Rattle.theory_sharing.specs.Circuit.{dealing, ands, owned}
use Rattle.theory_sharing.specs.Order.{if_deals}
use Rattle.theory_sharing.specs.Published.{Parts}
use Rattle.theory_sharing.specs.Steps.{delivered, in_wire}
use Rattle.theory_sharing.specs.First.{first}
use Rattle.theory_sharing.specs.Run.{ins_after, ins_delivered}
use Rattle.theory_sharing.specs.Tapes.{tape_length, draws}
use Rattle.theory_sharing.specs.Line.{at_input, errors}
use Rattle.theory_sharing.specs.Store.{side, store, fill}
use Rattle.theory_sharing.specs.Traffic.{input_adds, gate_adds, output_adds, sum, entry, traffic_table}
use Rattle.theory_calls.specs.File.{le16, le32, size, owner_at, kind_at, first_at, second_at, output_at, site_of, gate_of}
use Rattle.theory_calls.specs.Plain.{bit, byte, plain_gate, plain_inputs, plain_values, plain}
use Rattle.theory_calls.specs.Answer.{After}
use Rattle.theory_calls.specs.Checks.{tested, row_owner, good_gate, row_gate_of, row_output, fault, verdict}
use Rattle.theory_calls.specs.Calls.{Traffic, TrafficOf, settle, does, Accepts, buffer}
use Rattle.theory_calls.specs.Statements.{Clean, opened_plain}
use Rattle.theory_calls.proofs.CallLaws.{good_accepts}
use Rattle.std.specs.Prelude.{Ok}
use Rattle.check_refusal.specs.declared.Refusal.{Refusal}
use Rattle.check_refusal.specs.Number.{number_of as number_in, place_of as place_in}
use Rattle.run.specs.declared.Ran.TheVariants.{Good}
use Rattle.run.specs.Answers.{run_answer, run_after}
use Rattle.theory_demands.specs.Marked.{K_file, K_tapes, K_line, K_store}
use Rattle.theory_demands.proofs.Demands.{clean_opens_plain}
use Rattle.theory_wrong.specs.Engine.{Lent, MeetsOn, OnK, OnK1, NumberMeetsOn, NumberOnK1, K1_outputs, K1_transcript, other_tapes, Long, TableMeetsOn}
use Rattle.theory_wrong.specs.Wrong.{asked, refuses_everything, refuses_everything_with, writes_nothing, opens_a_fixed_bit, FromPlain, gates_laid, gates_sent, copies_plain_values, bare, bare_bits, makes_up_a_table}
use Rattle.theory_wrong.proofs.Right.{K1_right, K1_only, opens_zeros, first_gate_bit}

one_not_zero : ¬ ◌≡◌ {A = ℕ} 1 0
one_not_zero e = omega arith

-- 01: "Demand 2 shuts out an engine that refuses everything,"
pub refusing_everything_fails : (n p : ℕ) (file inputs tapes line : List ℕ) (b : Lent) → Accepts (asked file inputs tapes line b)
    → ¬ NumberMeetsOn (refuses_everything n p) file inputs tapes line b
unfolding Accepts
refusing_everything_fails n p file inputs tapes line b a m = a n p (sym (ap (λ (z : After). z.answer) m))

pub refusing_everything_fails_on_K1 : (n p : ℕ) (b : Lent) → Long b → ¬ NumberOnK1 (refuses_everything n p) b
unfolding run_answer
refusing_everything_fails_on_K1 n p b h =
    refusing_everything_fails n p _ _ _ _ b (good_accepts _ [] (sym (ap (λ (z : After). z.answer) (K1_right b h))))

-- in numbers a refusal of the code is one of these
pub refusing_everything_with_fails : (e : Refusal) (file inputs tapes line : List ℕ) (b : Lent) → Accepts (asked file inputs tapes line b)
    → ¬ MeetsOn (refuses_everything_with e) file inputs tapes line b
unfolding run_answer
refusing_everything_with_fails e file inputs tapes line b a m = refusing_everything_fails (number_in e) (place_in e) file inputs tapes line b a m

pub refusing_everything_with_fails_on_K1 : (e : Refusal) (b : Lent) → Long b → ¬ OnK1 (refuses_everything_with e) b
unfolding run_answer
refusing_everything_with_fails_on_K1 e b h m = refusing_everything_fails_on_K1 (number_in e) (place_in e) b h m

-- "one that writes nothing,"
pub writing_nothing_on_K1 : (b : Lent) → OnK1 writes_nothing b ↔ ((b.outputs ≡ K1_outputs) × (b.transcript ≡ K1_transcript) × (b.store ≡ K_store))
writing_nothing_on_K1 b = (
  K1_only b _ _ _,
  λ e. (λ i. run_after (Ok Good) (e.0 i) (e.1 i) (e.2 i))
      ∙ K1_right b (record { outputs_long = ap length e.0; transcript_long = ap length e.1; store_long = ap length e.2 }),
)

pub writing_nothing_fails : (b : Lent) → ¬ (OnK1 writes_nothing b × OnK writes_nothing (1 ∷ 0 ∷ []) K_tapes b)
writing_nothing_fails b m = one_not_zero (ap (λ (l : List ℕ). get_or l 0 0) (sym (K1_only b _ _ _ m.0).0 ∙ opens_zeros b _ _ _ m.1))

pub writing_nothing_fails_on_one_byte : (v : ℕ) → ¬ OnK1 writes_nothing (record { outputs = replicate 3 v; transcript = replicate 26 v; store = replicate 18 v })
writing_nothing_fails_on_one_byte v m =
    let e : replicate 18 v ≡ K_store = (K1_only _ _ _ _ m).2 in
    one_not_zero (sym (ap (λ (l : List ℕ). get_or l 1 0) e) ∙ ap (λ (l : List ℕ). get_or l 0 0) e)

-- "one that opens a fixed bit,"
pub fixed_bit_fails_on_K1 : (v : ℕ) → ¬ (v ≡ 1) → (b : Lent) → ¬ OnK1 (opens_a_fixed_bit v) b
unfolding le16 le32
fixed_bit_fails_on_K1 v n b m = n (ap (λ (l : List ℕ). get_or l 0 0) (K1_only b _ _ _ m).0)

pub fixed_bit_fails_on_1_0 : (v : ℕ) → ¬ (v ≡ 0) → (b : Lent) → ¬ OnK (opens_a_fixed_bit v) (1 ∷ 0 ∷ []) K_tapes b
unfolding le16 le32
fixed_bit_fails_on_1_0 v n b m = n (ap (λ (l : List ℕ). get_or l 0 0) (opens_zeros b _ _ _ m))

-- "and one that shares the inputs and then copies plain values.", whatever parts and bits it makes of the circuit and its plain values
module _ (lays : FromPlain Parts) (sends : FromPlain (List ℕ)) where
  pub copied_values_open_right : (file inputs tapes line : List ℕ) (b : Lent) → Accepts (asked file inputs tapes line b) → Clean line
      → (copies_plain_values lays sends file inputs tapes line b).1.outputs ≡ buffer 0 (asked file inputs tapes line b)
  copied_values_open_right file inputs tapes line b a c = sym (clean_opens_plain file inputs tapes line b.outputs b.transcript b.store a c).1

  -- on K's tapes and on the others the inputs are shared alike, and so it sends the same bits
  pub copying_fails : (b : Lent) → ¬ (OnK1 (copies_plain_values lays sends) b × OnK (copies_plain_values lays sends) (1 ∷ 1 ∷ []) other_tapes b)
  unfolding is dealing ands owned ins_after ins_delivered tape_length draws le16 le32 owner_at kind_at site_of gate_of
  copying_fails b m =
      one_not_zero (sym (ap (λ (l : List ℕ). get_or l 8 0) (K1_only b _ _ _ m.0).1) ∙ first_gate_bit b _ _ _ m.1)

-- what it leaves on K1
copied_on_K1 : (b : Lent) → let z = (copies_plain_values bare bare_bits K_file (1 ∷ 1 ∷ []) K_tapes (K_line []) b).1 in
    (z.outputs ≡ K1_outputs) × (get_or z.transcript 8 0 ≡ 0) × (z.store ≡ K_store)
unfolding is dealing ands owned if_deals delivered in_wire ins_after ins_delivered tape_length draws at_input errors side store fill le16 le32 owner_at kind_at first_at second_at output_at site_of gate_of bit byte plain_gate plain_inputs plain_values plain opened_plain gates_laid gates_sent
copied_on_K1 b = (refl, refl, refl)

-- by chance the parts of K1's gate are 1, 0, 0 on K's tapes too, so that only the bits sent tell
pub copying_fails_on_K1 : (b : Lent) → let z = (copies_plain_values bare bare_bits K_file (1 ∷ 1 ∷ []) K_tapes (K_line []) b).1 in
    (z.outputs ≡ K1_outputs) × (z.store ≡ K_store) × (¬ OnK1 (copies_plain_values bare bare_bits) b)
copying_fails_on_K1 b = (
  (copied_on_K1 b).0,
  (copied_on_K1 b).2,
  λ m. one_not_zero (sym (ap (λ (l : List ℕ). get_or l 8 0) (K1_only b _ _ _ m).1) ∙ (copied_on_K1 b).1),
)

-- what site 1 sends to site 2, by K's file and by that file with input 0 owned by site 2
one_to_two : (get_or (get_or (does (Traffic K_file)).returned 0 []) 1 0 ≡ 4) × (get_or (get_or (does (Traffic (set K_file 32 2))).returned 0 []) 1 0 ≡ 2)
unfolding is dealing first input_adds gate_adds output_adds sum entry traffic_table le16 le32 size owner_at kind_at first_at second_at output_at site_of gate_of tested row_owner good_gate row_gate_of row_output fault verdict settle does TrafficOf
one_to_two = (refl, refl)

-- "shut out a made-up traffic table"
pub made_up_table_fails : (table : ℕ → ℕ → ℕ → List (List ℕ)) → ¬ (TableMeetsOn (makes_up_a_table table) K_file × TableMeetsOn (makes_up_a_table table) (set K_file 32 2))
unfolding le16 le32
made_up_table_fails table m =
    let e = sym one_to_two.0 ∙ ap (λ (t : List (List ℕ)). get_or (get_or t 0 []) 1 0) (sym m.0.0 ∙ m.1.0) ∙ one_to_two.1 in omega arith
