-- 01's table of refusals, each line as a condition on what it tests, and the first that holds in a call's order.
--     Row              one line of the table: its places are those below span, and bad p says that its condition holds at place p
--     at_places        a row with few places, each with its test
--     listed_row       "wrong length, else .. | wanted length, else index";  numbers_row: of a family's numbers
--     Refusal          a line with the number that it gives at each place;  refusal N: the same number at all places
--     header_checks, file_checks    1 to 3, and 1 to 6, of a circuit file;  inputs_check .. job_check: 7 to 14
--     Holds r P        the condition of a line holds at place P
--     Verdict, verdict the first refusal in an order, or none
-- Tests are written the good way round, and negated: a limit reads as the document says it.
use Rattle.std.specs.Prelude.{◌≡◌, Bool, true, false, not, ◌&&◌, ◌||◌, cond, List, [], ◌∷◌, ◌++◌, map, ℕ, suc, ◌+◌, ◌*◌, ◌-◌, ◌<◌, length, get_or, leb, ltb, eqb}
use Rattle.theory_sharing.specs.Sites.{is}
use Rattle.theory_sharing.specs.Circuit.{Circuit, all_ands}
use Rattle.theory_sharing.specs.First.{first}
use Rattle.theory_calls.specs.File.{le32, inputs_of, gates_of, outputs_of, gates_start, outputs_start, size, owner_at, kind_at, first_at, second_at, output_at, site_of}
use Rattle.theory_calls.specs.Family.{Family, out_of}
unfoldable pub use Rattle.theory_calls.specs.Family.{good_gate}

pub record Row : Type 0 where
  pub span : ℕ
  pub bad : ℕ → Bool

unfoldable pub tested : List (ℕ × Bool) → ℕ → Bool
tested [] p = false
tested (t ∷ ts) p = (eqb p t.0 && t.1) || tested ts p

abbrev pub at_places : ℕ → List (ℕ × Bool) → Row
at_places n ts = record { span = n; bad = tested ts }

abbrev pub no_row : Row
no_row = at_places 0 []

-- 1: "file under 32 bytes | 0"
abbrev pub row_short : List ℕ → Row
row_short f = at_places 1 ((0, not (leb 32 (length f))) ∷ [])

-- 2: "I, G or O too large, tested so | 0, 1 or 2"; "I is at most 1,024, G at most 3,072, O at most 256"
abbrev pub limits_row : ℕ → ℕ → ℕ → Row
limits_row i g o = at_places 3 ((0, not (leb i 1024)) ∷ (1, not (leb g 3072)) ∷ (2, not (leb o 256)) ∷ [])

abbrev pub row_large : List ℕ → Row
row_large f = limits_row (inputs_of f) (gates_of f) (outputs_of f)

-- 3: "field 0, 16, 20, 24 or 28 not as above, tested so, or slice length unlike field 0 (tested with it) | the field's offset"
abbrev pub row_field : List ℕ → Row
row_field f =
    let i = inputs_of f in
    let n = gates_of f in
    at_places 29
    ((0, not (eqb (le32 f 0) (size i n (outputs_of f)) && eqb (length f) (le32 f 0)))
    ∷ (16, not (eqb (le32 f 16) 32))
    ∷ (20, not (eqb (le32 f 20) (gates_start i)))
    ∷ (24, not (eqb (le32 f 24) (outputs_start i n)))
    ∷ (28, not (eqb (le32 f 28) 0)) ∷ [])

-- "A gate, owner or output number not below its count gets 5, 4 or 6, place that count."
abbrev pub row_asked : ℕ → ℕ → Row
row_asked n count = at_places (suc count) ((count, not (ltb n count)) ∷ [])

-- 4: "an owner not 1 to 3 | input number"
abbrev pub one_to_three : ℕ → Bool
one_to_three o = leb 1 o && leb o 3

unfoldable pub row_owner : List ℕ → Row
row_owner f = record { span = inputs_of f; bad = λ k. not (one_to_three (owner_at f k)) }

-- 5: "unknown kind, operand not a lower wire, or NOT with second not 0 | gate number"
unfoldable pub row_gate_of : Family → List ℕ → Row
row_gate_of F f =
    let i = inputs_of f in
    record { span = gates_of f; bad = λ k. not (F.good_kind (kind_at f i k) (first_at f i k) (second_at f i k) (i + k)) }

-- 6: "output wire not below W | output number"
unfoldable pub row_output : List ℕ → Row
row_output f =
    let i = inputs_of f in
    let n = gates_of f in
    record { span = outputs_of f; bad = λ k. not (ltb (output_at f i n k) (i + n)) }

-- 7, 8, 9, 12: "wrong length, else a byte above 1 | wanted length, else index"
-- by the test that each number has to pass
abbrev pub listed_row : (ℕ → Bool) → List ℕ → ℕ → Row
listed_row fine l want = record { span = suc want; bad = λ p. cond (eqb (length l) want) (ltb p want && not (fine (get_or l p 0))) (eqb p want) }

abbrev pub numbers_row : Family → List ℕ → ℕ → Row
numbers_row F l want = listed_row F.fine l want

abbrev pub tapes_want : Circuit → ℕ
tapes_want C = 2 * C.ins + 6 * all_ands C

abbrev pub line_want : Circuit → ℕ
line_want C = 4 * C.ins + 12 * all_ands C + 6 * C.outs

-- 10: "a result buffer not exactly its length | buffer number"
-- by the buffers' lengths and those that are wanted, both by number
abbrev pub row_buffer : List ℕ → List ℕ → Row
row_buffer lengths wanted = record { span = length wanted; bad = λ p. not (eqb (get_or lengths p 0) (get_or wanted p 0)) }

-- 11: "site not 1 to 3 | 0"
abbrev pub row_site : ℕ → Row
row_site s = at_places 1 ((0, not (one_to_three s)) ∷ [])

-- 13: "re-taping: an own input differs, else an opened bit differs | input wire, else I + output number"
-- of circuit C, for site s, from inputs x to inputs y
abbrev pub row_differs_of : Family → Circuit → ℕ → List ℕ → List ℕ → Row
row_differs_of F C s x y =
    record {
      span = C.ins + C.outs;
      bad = λ p. cond (ltb p C.ins)
          (is (site_of s) (C.owner p) && not (eqb (get_or x p 0) (get_or y p 0)))
          (not (eqb (out_of F C x (p - C.ins)) (out_of F C y (p - C.ins))));
    }

-- 14: "place 0 for under 16 or over 41,520 bytes or a wrong length; 4 if the circuit offset isn't 16; 8 if the inputs offset is under 16 or
-- beyond the end; 12 if the tapes offset is below the inputs offset or beyond the end"
abbrev pub row_job : List ℕ → Row
row_job j =
    let n = length j in
    at_places 13
    ((0, not (leb 16 n && leb n 41520 && eqb (le32 j 0) n))
    ∷ (4, not (eqb (le32 j 4) 16))
    ∷ (8, not (leb 16 (le32 j 8) && leb (le32 j 8) n))
    ∷ (12, not (leb (le32 j 8) (le32 j 12) && leb (le32 j 12) n)) ∷ [])

-- "A refusal is a number and a place": a line of the table with the number that it gives at each of its places
pub record Refusal : Type 0 where
  pub number : ℕ → ℕ
  pub row : Row

-- a line that gives one number at all places, as each of 01's does
abbrev pub refusal : ℕ → Row → Refusal
refusal n r = record { number = λ p. n; row = r }

-- what is not in an order: it holds nowhere
abbrev pub no_check : Refusal
no_check = refusal 0 no_row

-- "It is opened by checks 1 to 3"
abbrev pub header_checks : List ℕ → List Refusal
header_checks f = refusal 1 (row_short f) ∷ refusal 2 (row_large f) ∷ refusal 3 (row_field f) ∷ []

-- a whole circuit: 1 to 6
abbrev pub file_checks : Family → List ℕ → List Refusal
file_checks F f = header_checks f ++ (refusal 4 (row_owner f) ∷ refusal 5 (row_gate_of F f) ∷ refusal 6 (row_output f) ∷ [])

-- the other lines with their numbers: what is given, against the circuit
abbrev pub inputs_check : Family → Circuit → List ℕ → Refusal
inputs_check F C x = refusal 7 (numbers_row F x C.ins)

abbrev pub tapes_check : Family → Circuit → List ℕ → Refusal
tapes_check F C t = refusal 8 (numbers_row F t (tapes_want C))

abbrev pub line_check : Family → Circuit → List ℕ → Refusal
line_check F C l = refusal 9 (numbers_row F l (line_want C))

abbrev pub buffers_check : List (List ℕ) → List ℕ → Refusal
buffers_check lent wanted = refusal 10 (row_buffer (map length lent) wanted)

abbrev pub site_check : ℕ → Refusal
site_check s = refusal 11 (row_site s)

abbrev pub second_check : Family → Circuit → List ℕ → Refusal
second_check F C y = refusal 12 (numbers_row F y C.ins)

abbrev pub differs_check : Family → Circuit → ℕ → List ℕ → List ℕ → Refusal
differs_check F C s x y = refusal 13 (row_differs_of F C s x y)

abbrev pub job_check : List ℕ → Refusal
job_check j = refusal 14 (row_job j)

unfoldable pub Holds : Row → ℕ → Type 0
Holds r p = (p < r.span) × (r.bad p ≡ true)

pub data Verdict : Type 0 where
  accepted : Verdict
  refuses : ℕ → ℕ → Verdict

-- 01: "the first fault by index inside each"
unfoldable pub fault : Row → ℕ
fault r = first r.bad r.span

-- the first refusal of an order: a call's order is the list of its checks
unfoldable pub verdict : List Refusal → Verdict
verdict [] = accepted
verdict (c ∷ cs) = cond (ltb (fault c.row) c.row.span) (refuses (c.number (fault c.row)) (fault c.row)) (verdict cs)
