-- What the calls on a file answer where it was written, within 01's limits.
--     check_told              the whole check: its three counts;  check_accepts: it is accepted
--     gate_told, owner_told, output_told    the reader: what was written, by number
--     plain_told              plain values: the good answer, and the values of all wires
--     plain_outs_length, plain_outs_at    an output's plain value by its number;  opened_thrice: what a clean run opens is each of them three times
-- Assumes nothing.
use mathlib.Core.Path.{◌≡◌, refl, sym, ap, ◌∙◌}
use mathlib.Core.Bool.{Bool, true, false}
use mathlib.Core.List.{List, [], ◌∷◌, ◌++◌, flat_map}
use Prim.Native.Nat.{ℕ, zero, suc, ◌+◌, ◌<◌, ◌≤◌}
use native.Mathlib.Omega.{arith}
use lib.ListN.{length, get_or, length-append, get_or-append}
use lib.Seq.{get_or_at}
use lib.Dec.{ltb}
use borrow.Author.Tests.{lt-ltb, ltb-true, ltb-false}
use Rattle.theory_sharing.specs.Circuit.{Circuit, wires}
use Rattle.theory_calls.specs.Answer.{good, After}
use Rattle.theory_calls.specs.Checks.{row_asked, refusal, header_checks, file_checks, inputs_check, buffers_check}
use Rattle.theory_calls.specs.Calls.{GateAt, OwnerAt, OutputAt, CheckOf, PlainOf, does, Accepts, buffer}
use Rattle.theory_calls.specs.Statements.{Family, circuit_with, Numbers, out_of, plain_outs, opened_plain}
use Rattle.theory_calls.proofs.FamilyLaws.{Lawful}
use Rattle.theory_calls.proofs.Refusals.{Clears, Passes, accepted_passes}
use Rattle.theory_calls.proofs.RowLaws.{clear_numbers, clear_sizes}
use Rattle.theory_calls.proofs.Accepted.{joined}
use Rattle.theory_calls.proofs.CallLaws.{passes_accepts, verdict_accepts, accepts_does}
use Rattle.theory_files.specs.Written.{Numbers3, file_of, Within}
use Rattle.theory_files.proofs.ReadBack.{inputs_read, gates_read, outputs_read, owner_read, kind_read, first_read, second_read, output_read}
use Rattle.theory_files.proofs.Opens.{header_passes, Fail, places_clear}
use Rattle.theory_files.proofs.Whole.{Fair, file_accepted}

asked_clear : (n count : ℕ) → n < count → Clears (row_asked n count)
unfolding Fail
asked_clear n count l = places_clear (suc count) _ (rw (lt-ltb n count l), tt)

-- the reader opens the file, and asks for a number below its count
module _ (os : List ℕ) (gs : List Numbers3) (ws : List ℕ) (w : Within (length os) (length gs) (length ws)) (k : ℕ) where
  abbrev written : List ℕ
  written = file_of os gs ws

  asked_passes : (N count : ℕ) → k < count → Passes (header_checks written ++ (refusal N (row_asked k count) ∷ []))
  unfolding Passes
  asked_passes N count l = joined (header_checks written) (refusal N (row_asked k count) ∷ []) (header_passes os gs ws w) (asked_clear k count l, tt)

  pub gate_told : k < length gs → let g = get_or gs k (0, 0, 0) in (does (GateAt written k)).answer ≡ good (g.0 ∷ g.1 ∷ g.2 ∷ [])
  unfolding GateAt
  gate_told l =
      ap (λ (z : After). z.answer) (accepts_does (GateAt written k) (passes_accepts (GateAt written k) (asked_passes 5 _ (let e = gates_read os gs ws in omega arith))))
      ∙ rw (inputs_read os gs ws, kind_read os gs ws k l, first_read os gs ws k l, second_read os gs ws k l)

  pub owner_told : k < length os → (does (OwnerAt written k)).answer ≡ good (get_or os k 0 ∷ [])
  unfolding OwnerAt
  owner_told l =
      ap (λ (z : After). z.answer) (accepts_does (OwnerAt written k) (passes_accepts (OwnerAt written k) (asked_passes 4 _ (let e = inputs_read os gs ws in omega arith))))
      ∙ rw (owner_read os gs ws k l)

  pub output_told : k < length ws → (does (OutputAt written k)).answer ≡ good (get_or ws k 0 ∷ [])
  unfolding OutputAt
  output_told l =
      ap (λ (z : After). z.answer) (accepts_does (OutputAt written k) (passes_accepts (OutputAt written k) (asked_passes 6 _ (let e = outputs_read os gs ws in omega arith))))
      ∙ rw (inputs_read os gs ws, gates_read os gs ws, output_read os gs ws k)

pub one_size : (a b : ℕ) → a ≡ b → (k : ℕ) → k < 1 → get_or (a ∷ []) k 0 ≡ get_or (b ∷ []) k 0
one_size a b e zero h = e
one_size a b e (suc k) h = absurd (omega arith)

module _ (F : Family) (os : List ℕ) (gs : List Numbers3) (ws : List ℕ) (h : Fair F os gs ws) where
  abbrev f : List ℕ
  f = file_of os gs ws

  pub check_accepts : Accepts (CheckOf F f)
  unfolding CheckOf
  check_accepts = verdict_accepts (CheckOf F f) (file_accepted F os gs ws h)

  pub check_told : (does (CheckOf F f)).answer ≡ good (length os ∷ length gs ∷ length ws ∷ [])
  unfolding CheckOf
  check_told = ap (λ (z : After). z.answer) (accepts_does (CheckOf F f) check_accepts) ∙ rw (inputs_read os gs ws, gates_read os gs ws, outputs_read os gs ws)

  pub plain_told : Lawful F → (xs values : List ℕ) → Numbers F xs (length os) → length values ≡ length os + length gs
      → ((does (PlainOf F f xs values)).answer ≡ good []) × (buffer 0 (PlainOf F f xs values) ≡ F.plain (circuit_with F f) xs)
  unfolding PlainOf Passes
  plain_told law xs values bits long =
      let given : Numbers F xs (circuit_with F f).ins = rw (inputs_read os gs ws) bits in
      let wide : length values ≡ wires (circuit_with F f) = let a = inputs_read os gs ws in let b = gates_read os gs ws in omega arith in
      let sized = clear_sizes (length values ∷ []) (wires (circuit_with F f) ∷ []) 1 (one_size (length values) _ wide) in
      let front = accepted_passes (file_checks F f) (file_accepted F os gs ws h) in
      let rest = inputs_check F (circuit_with F f) xs ∷ buffers_check (values ∷ []) (wires (circuit_with F f) ∷ []) ∷ [] in
      let p = joined (file_checks F f) rest front (clear_numbers F law xs _ given, (sized, tt)) in
      let d = accepts_does (PlainOf F f xs values) (passes_accepts (PlainOf F f xs values) p) in
      (ap (λ (z : After). z.answer) d, ap (λ (z : After). get_or z.lent 0 []) d)

-- outputs' plain values, one after the other
thrice_more : (vs : List ℕ) (v : ℕ) → flat_map (λ (u : ℕ). u ∷ u ∷ u ∷ []) (vs ++ (v ∷ [])) ≡ flat_map (λ (u : ℕ). u ∷ u ∷ u ∷ []) vs ++ (v ∷ v ∷ v ∷ [])
unfolding flat_map
thrice_more [] v = refl
thrice_more (u ∷ vs) v = ap (λ (l : List ℕ). u ∷ u ∷ u ∷ l) (thrice_more vs v)

module _ (F : Family) (C : Circuit) (xs : List ℕ) where
  pub plain_outs_length : (n : ℕ) → length (plain_outs F C xs n) ≡ n
  unfolding plain_outs
  plain_outs_length zero = refl
  plain_outs_length (suc n) = length-append (plain_outs F C xs n) _ ∙ (let e = plain_outs_length n in omega arith)

  pub plain_outs_at : (n o : ℕ) → o < n → get_or (plain_outs F C xs n) o 0 ≡ out_of F C xs o
  unfolding plain_outs
  plain_outs_at zero o l = absurd (omega arith)
  plain_outs_at (suc n) o l = go (ltb o n) refl (plain_outs_at n o)
    where
      go : (b : Bool) → ltb o n ≡ b → (o < n → get_or (plain_outs F C xs n) o 0 ≡ out_of F C xs o) → get_or (plain_outs F C xs n ++ (out_of F C xs n ∷ [])) o 0 ≡ out_of F C xs o
      go true e ih =
          let q : o < n = ltb-true o n e in
          let k = plain_outs_length n in
          get_or-append (plain_outs F C xs n) _ 0 o (omega arith) ∙ ih q
      go false e ih =
          let q : n ≤ o = ltb-false o n e in
          let k = plain_outs_length n in
          let same : o ≡ n = omega arith in
          get_or_at (plain_outs F C xs n) (out_of F C xs n) [] 0 o (omega arith) ∙ ap (out_of F C xs) (sym same)

  pub opened_thrice : (n : ℕ) → opened_plain F C xs n ≡ flat_map (λ (v : ℕ). v ∷ v ∷ v ∷ []) (plain_outs F C xs n)
  unfolding opened_plain plain_outs flat_map
  opened_thrice zero = refl
  opened_thrice (suc n) =
      let v = out_of F C xs n in
      ap (λ (l : List ℕ). l ++ (v ∷ v ∷ v ∷ [])) (opened_thrice n) ∙ sym (thrice_more (plain_outs F C xs n) v)
