-- 01's number and place for each case of a refusal. Promises go through these.
use Rattle.std.specs.Prelude.{cond, ℕ, eqb}
use Rattle.check_refusal.specs.declared.Refusal.{Refusal}
use Rattle.check_refusal.specs.declared.Refusal.TheVariants.{Short, Limit, Header, Owner, Gate, Output, Inputs, Tapes, Line, Buffer, Site, Second, Differs, Job, TextLine, GateWord, TextWire}
use Rattle.theory_calls.specs.Answer.{Answer, refused}

abbrev pub number_of : Refusal → ℕ
number_of Short = 1
number_of (Limit p) = 2
number_of (Header p) = 3
number_of (Owner p) = 4
number_of (Gate p) = 5
number_of (Output p) = 6
number_of (Inputs p) = 7
number_of (Tapes p) = 8
number_of (Line p) = 9
number_of (Buffer p) = 10
number_of Site = 11
number_of (Second p) = 12
number_of (Differs p) = 13
number_of (Job p) = 14
number_of (TextLine p) = 15
number_of (GateWord p) = 16
number_of (TextWire p) = 17

abbrev pub place_of : Refusal → ℕ
place_of Short = 0
place_of (Limit p) = p
place_of (Header p) = p
place_of (Owner p) = p
place_of (Gate p) = p
place_of (Output p) = p
place_of (Inputs p) = p
place_of (Tapes p) = p
place_of (Line p) = p
place_of (Buffer p) = p
place_of Site = 0
place_of (Second p) = p
place_of (Differs p) = p
place_of (Job p) = p
place_of (TextLine p) = p
place_of (GateWord p) = p
place_of (TextWire p) = p

-- "A refusal is a number and a place"
abbrev pub refused_by : Refusal → Answer
refused_by e = refused (number_of e) (place_of e)

-- the refusal that has a number and a place: proofs/RefusalLaws.antt says that there is no other
abbrev pub refusal_with : ℕ → ℕ → Refusal
refusal_with n p =
    cond (eqb n 1) Short
    (cond (eqb n 2) (Limit p)
    (cond (eqb n 3) (Header p)
    (cond (eqb n 4) (Owner p)
    (cond (eqb n 5) (Gate p)
    (cond (eqb n 6) (Output p)
    (cond (eqb n 7) (Inputs p)
    (cond (eqb n 8) (Tapes p)
    (cond (eqb n 9) (Line p)
    (cond (eqb n 10) (Buffer p)
    (cond (eqb n 11) Site
    (cond (eqb n 12) (Second p)
    (cond (eqb n 13) (Differs p)
    (cond (eqb n 14) (Job p)
    (cond (eqb n 15) (TextLine p)
    (cond (eqb n 16) (GateWord p) (TextWire p))))))))))))))))
