-- What a call is.
--     Call             a call, on all that it is given: the fields are read from top to bottom
--     does             the whole call;  Accepts: it refuses nothing;  buffer: what it leaves in a buffer
--     changes_nothing, gives_back, but_at    what calls do at a refusal
--     tells, fills, gives                    good calls that only tell numbers, only fill their buffers, only return something;  answers: an answer alone
-- A call is a definition into Call, in a file or a crate of its own; what is proved of all calls holds of it.
use Rattle.std.specs.Prelude.{◌≡◌, cond, List, [], ℕ, get_or, eqb}
use Rattle.theory_calls.specs.Answer.{Answer, refused, Outcome, done, said, Left, After}
use Rattle.theory_calls.specs.Checks.{Refusal, Verdict, accepted, refuses, verdict}

-- What a refusal leaves: what is returned beside number and place, and what is lent, by what it was.
pub record AtRefusal : Type 0 where
  pub returned : ℕ → ℕ → List (List ℕ)
  pub lent : ℕ → List (List ℕ) → List (List ℕ)

pub record Call : Type 0 where
  pub checks : List Refusal  -- what it refuses, in its order
  pub buffers : List (List ℕ)  -- the result buffers that it is lent, by number, with their bytes before the call
  pub good : Left Outcome  -- where nothing is refused: good or an abort, what is returned, the buffers afterwards
  pub at_refusal : AtRefusal  -- where something is

abbrev pub unrefused : Left Outcome → After
unrefused l = record { answer = said l.answer; returned = l.returned; lent = l.lent }

unfoldable pub settle : Call → Verdict → After
settle c accepted = unrefused c.good
settle c (refuses n p) = record { answer = refused n p; returned = c.at_refusal.returned n p; lent = c.at_refusal.lent n c.buffers }

unfoldable pub does : Call → After
does c = settle c (verdict c.checks)

-- a call that refuses nothing
unfoldable pub Accepts : Call → Type 0
Accepts c = (N P : ℕ) → ¬ ((does c).answer ≡ refused N P)

-- buffer k as a call leaves it
abbrev pub buffer : ℕ → Call → List ℕ
buffer k c = get_or (does c).lent k []

-- 01: "A refusal changes no buffer"; one that gives something back; "but 13 .."
abbrev pub changes_nothing : AtRefusal
changes_nothing = record { returned = λ n p. []; lent = λ n before. before }

abbrev pub gives_back : (ℕ → ℕ → List (List ℕ)) → AtRefusal
gives_back r = record { returned = r; lent = λ n before. before }

abbrev pub but_at : ℕ → List (List ℕ) → AtRefusal
but_at m l = record { returned = λ n p. []; lent = λ n before. cond (eqb n m) l before }

-- a good call that only tells numbers, only fills its buffers, only returns something
abbrev pub tells : List ℕ → Left Outcome
tells vs = record { answer = done vs; returned = []; lent = [] }

abbrev pub fills : List (List ℕ) → Left Outcome
fills l = record { answer = done []; returned = []; lent = l }

abbrev pub gives : List (List ℕ) → Left Outcome
gives r = record { answer = done []; returned = r; lent = [] }

-- an answer alone
abbrev pub answers : Answer → After
answers a = record { answer = a; returned = []; lent = [] }
