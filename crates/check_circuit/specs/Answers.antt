-- 01's number and values for each case of an answer. Promises go through these.
--     done_answer       of a call that only fills its buffers
--     circuit_answer    of the check that gives a circuit: what the check's own answer stands for
use Rattle.std.specs.Prelude.{List, [], ℕ, Result, Ok, Err}
use Rattle.theory_calls.specs.Answer.{Answer, good, After}
use Rattle.check_refusal.specs.declared.Refusal.{Refusal}
use Rattle.check_refusal.specs.Number.{refused_by}
use Rattle.file_header.specs.Answers.{header_answer}
use Rattle.file_reader.specs.declared.Circuit.{Circuit}

unfoldable pub done_answer : Result (Unit {0}) Refusal → Answer
done_answer (Ok u) = good []
done_answer (Err e) = refused_by e

-- the answer with the buffers as the call left them
abbrev pub done_after : Result (Unit {0}) Refusal → List (List ℕ) → After
done_after r bufs = record { answer = done_answer r; returned = []; lent = bufs }

abbrev pub circuit_answer : Result Circuit Refusal → Answer
circuit_answer (Ok c) = header_answer (Ok c.counts)
circuit_answer (Err e) = header_answer (Err e)
