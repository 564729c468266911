-- What the checks behind the last line say, by what code knows. No public contract cites these.
--     outs_entered    whether every output wire has an entry
--     given_checks    4 and 2;  rest_verdict: all of them
use Rattle.std.specs.Prelude.{Bool, not, cond, ◌||◌, List, [], ◌∷◌, ℕ, ◌-◌, eqb}
use Rattle.theory_calls.specs.Checks.{Refusal, refusal, limits_row, Verdict, refuses, verdict}
use Rattle.bristol_text.specs.Heard.{count_up}
use Rattle.bristol_text.specs.Call.{row_values}
use Rattle.bristol_wires.specs.declared.Text.{Text}
use Rattle.bristol_laws.specs.Matches.{all_entered}

abbrev pub outs_entered : List ℕ → Text → Bool
outs_entered m t = all_entered m t.ins (count_up (t.wires - t.outs) t.outs)

abbrev pub given_checks : Text → List ℕ → List Refusal
given_checks t os = refusal 4 (row_values os t.values) ∷ refusal 2 (limits_row t.ins t.made t.outs) ∷ []

unfoldable pub rest_verdict : ℕ → Text → List ℕ → List ℕ → Verdict
rest_verdict n t m os =
    cond (not (eqb t.stage 3) || not (eqb t.left 0)) (refuses 15 n)
    (cond (not (outs_entered m t)) (refuses 17 n) (verdict (given_checks t os)))
