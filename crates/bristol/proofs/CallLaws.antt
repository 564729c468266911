-- The call, as its function meets it.
--     room_wrong       10
--     line_refused     the first faulty line
--     rest_refused     what is refused behind the last line
--     filed            the file
-- Assumes nothing.
use mathlib.Core.Path.{◌≡◌, refl, sym, ap, ap₂, ◌∙◌, subst}
use mathlib.Core.Bool.{Bool, true, false, not, cond, ◌&&◌, ◌||◌}
use mathlib.Core.List.{List, [], ◌∷◌}
use Prim.Native.Nat.{ℕ, suc, ◌-◌, ◌≤◌}
use native.Mathlib.Omega.{arith}
use lib.ListN.{length, replicate}
use lib.Dec.{eqb}
use borrow.Author.Tests.{eq-eqb, ne_eqb, eqb-true}
use Rattle.std.proofs.Common.{Result, Ok, Err}
use Rattle.check_refusal.specs.declared.Refusal.{Refusal as Refused}
use Rattle.check_refusal.specs.declared.Refusal.TheVariants.{Buffer}
use Rattle.check_refusal.specs.Number.{number_of, place_of}
use Rattle.check_refusal.specs.Found.{found}
use Rattle.theory_sharing.specs.First.{first}
use Rattle.theory_sharing.specs.Store.{fill}
use Rattle.theory_calls.specs.File.{size}
use Rattle.theory_calls.specs.Answer.{good}
use Rattle.theory_calls.specs.Checks.{Refusal, refusal, at_places, limits_row, fault, accepted, refuses, verdict}
use Rattle.theory_calls.specs.Call.{Call, settle, does}
use Rattle.theory_calls.proofs.Limits.{and_first}
use Rattle.theory_calls.proofs.Places.{Rising, refuse_at, place_verdict}
use Rattle.bristol_text.specs.Words.{lines}
use Rattle.bristol_text.specs.Lines.{are, numbers, total}
use Rattle.bristol_text.specs.Heard.{Heard, heard, out_wires, all_written, complete, count_up}
use Rattle.bristol_text.specs.Renamed.{renamed, text_file}
use Rattle.bristol_text.specs.Call.{lines_check, row_values, text_limits, text_checks, FromBristol}
use Rattle.bristol_text.specs.Good.{Good}
use Rattle.bristol_text.proofs.GoodText.{accepted_good}
use Rattle.bristol_text.proofs.Sane.{Sane}
use Rattle.bristol_words.specs.Mirror.{words_at}
use Rattle.bristol_wires.specs.declared.Text.{Text}
use Rattle.bristol_wires.specs.declared.Numbering.{Numbering}
use Rattle.bristol_wires.specs.Mirror.{nothing_read}
use Rattle.bristol_wires.specs.Pass.{Passed, pass_from}
use Rattle.bristol_pass.specs.declared.Pass.{Pass}
use Rattle.bristol_pass.specs.Mirror.{told_pass, Stopped}
use Rattle.bristol_laws.specs.Matches.{Fine, Matches}
use Rattle.bristol_laws.proofs.FaultLaws.{complete_is, all_written_is, capped_leb}
use Rattle.bristol_laws.proofs.Hears.{made_is}
use Rattle.bristol_laws.proofs.PassLaws.{pass_stops, pass_ends}
use Rattle.bristol_laws.proofs.FileLaws.{file_same, size_same}
use Rattle.bristol_checks.specs.Mirror.{rest_verdict}
use Rattle.bristol_file.specs.Mirror.{listed, behind_first, widths_of, Seated, Few, file_by}
use Rattle.bristol.specs.Answers.{filed_answer, filed_after}

-- a place behind all others, tested alone
last_place : (N n : ℕ) (b : Bool) (cs : List Refusal) → verdict (refusal N (at_places (suc n) ((n, b) ∷ [])) ∷ cs) ≡ cond b (refuses N n) (verdict cs)
unfolding Rising refuse_at
last_place N n b cs = place_verdict N (suc n) ((n, b) ∷ []) cs (omega arith, omega arith, tt)

neither : (a b : Bool) → (not a || not b) ≡ not (a && b)
neither true b = refl
neither false b = refl

module _ (text owners room : List ℕ) where
  abbrev called : Call
  called = FromBristol text owners room

  pub room_wrong : (length room ≡ 20000 → ⊥) → filed_after (Err (Buffer 0)) room ≡ does called
  unfolding does settle verdict fault first FromBristol filed_answer
  room_wrong h = rw (ne_eqb (length room) 20000 h)

  room_right : length room ≡ 20000 → does called ≡ settle called (verdict (text_checks (lines text) owners))
  unfolding does verdict fault first FromBristol
  room_right h = rw (eq-eqb (length room) 20000 h)

  module _ (long : length room ≡ 20000) where
    refused_so : (d : Refused) → verdict (text_checks (lines text) owners) ≡ refuses (number_of d) (place_of d) → filed_after (Err d) room ≡ does called
    unfolding settle filed_answer FromBristol
    refused_so d e = sym (room_right long ∙ ap (settle called) e)

    accepted_so : verdict (text_checks (lines text) owners) ≡ accepted → (k : ℕ) (after : List ℕ)
        → after ≡ fill room (text_file text owners) → k ≡ length (text_file text owners) → filed_after (Ok k) after ≡ does called
    unfolding settle filed_answer FromBristol
    accepted_so e k after q l =
        (λ i. record { answer = good (l i ∷ []); returned = []; lent = q i ∷ [] }) ∙ sym (room_right long ∙ ap (settle called) e)

    module _ (new : Numbering) (clear : new.map ≡ replicate 8192 0) (wide : length new.gates ≡ 18432) (unread : new.text ≡ nothing_read) where
      abbrev ls : List (List ℕ)
      ls = lines text

      -- the pass as the code starts it
      abbrev Q : Passed
      Q = pass_from 0 new.text (words_at text 0) new.map new.gates ls

      abbrev P : Passed
      P = pass_from 0 nothing_read (words_at text 0) (replicate 8192 0) new.gates ls

      passed : Q ≡ P
      passed = rw (clear, unread)

      pub line_refused : (d : Refused) → Stopped d Q → filed_after (Err d) room ≡ does called
      unfolding text_checks
      line_refused d s =
          let q : Stopped d P = rw passed at s in
          refused_so d (pass_stops ls (words_at text 0) new.gates wide q.faulty _ ∙ ap₂ refuses (sym q.number) (sym q.place))

      module _ (p : Pass) (b : Numbering) (told : told_pass text p b ≡ Q) where
        ended : (P.line ≡ length ls) × Matches (heard ls) P.text P.words P.map P.gates × Sane (heard ls)
            × ((cs : List Refusal) → verdict (lines_check ls ∷ cs) ≡ verdict cs)
        ended = pass_ends ls (words_at text 0) new.gates wide (sym (ap (λ (z : Passed). z.fault) (told ∙ passed)))

        abbrev h : Heard
        h = heard ls

        abbrev t : Text
        t = b.text

        match : Matches h t (words_at text p.seat) b.map b.gates
        match = subst (λ (z : Passed). Matches h z.text z.words z.map z.gates) (sym (told ∙ passed)) ended.1

        line_is : p.lines ≡ length ls
        line_is = ap (λ (z : Passed). z.line) (told ∙ passed) ∙ ended.0

        pub outs_fit : t.outs ≤ t.wires
        outs_fit = let a = match.outs in let b = match.wires in let c = ended.2.outs_fit in omega (arith, a, b, c)

        -- 4 and 2
        given_same : (refusal 4 (row_values owners t.values) ∷ refusal 2 (limits_row t.ins t.made t.outs) ∷ [])
            ≡ (refusal 4 (row_values owners (length h.ins)) ∷ refusal 2 (text_limits h) ∷ [])
        given_same = rw (match.values, match.ins, match.made, match.outs, capped_leb (length (renamed h).gates))

        rest_is : rest_verdict p.lines t b.map owners ≡ verdict (text_checks ls owners)
        unfolding rest_verdict text_checks
        rest_is =
            let whole : (not (eqb t.stage 3) || not (eqb t.left 0)) ≡ not (complete h) = neither (eqb t.stage 3) (eqb t.left 0) ∙ ap not (complete_is h t _ b.map b.gates match) in
            let outs : all_written h (count_up (t.wires - t.outs) t.outs) ≡ all_written h (out_wires h) = rw (match.wires, match.outs) in
            let wrote = all_written_is h t _ b.map b.gates match (count_up (t.wires - t.outs) t.outs) ∙ outs in
            rw (whole, wrote, line_is, given_same)
            (sym (ended.3 _ ∙ last_place 15 (length ls) _ _ ∙ ap (cond (not (complete h)) (refuses 15 (length ls))) (last_place 17 (length ls) _ _)))

        module _ (r : Result Unit Refused) (e : found r ≡ rest_verdict p.lines t b.map owners) where
          pub rest_refused : (d : Refused) → r ≡ Err d → filed_after (Err d) room ≡ does called
          rest_refused d q = refused_so d (sym (e ∙ rest_is) ∙ ap found q)

          module _ (none : accepted ≡ rest_verdict p.lines t b.map owners) where
            allowed : verdict (text_checks ls owners) ≡ accepted
            allowed = sym (none ∙ rest_is)

            sound : Good ls owners
            sound = accepted_good ls owners allowed

            few : Fine h
            few = (sound.within.few_inputs, sound.within.few_gates)

            pub limits : Few t
            limits =
                let i = match.ins in
                let g = made_is h t _ b.map b.gates match few in
                let o = match.outs in
                let w = sound.within in
                let a = w.few_inputs in let b = w.few_gates in let c = w.few_outputs in
                record { ins = omega (arith, i, a); gates = omega (arith, g, b); outs = omega (arith, o, c); highest = outs_fit }

            line_words : numbers (words_at text p.seat) ≡ are (length h.ins ∷ h.ins)
            line_words =
                let k : eqb h.stage 3 ≡ true = and_first (eqb h.stage 3) _ sound.whole in
                let s : h.stage ≡ 3 = eqb-true _ _ k in
                match.inputs_line (omega (arith, s))

            widths_are : widths_of text p.seat ≡ h.ins
            unfolding listed behind_first
            widths_are = ap (λ z. behind_first (listed z)) line_words

            pub seated : Seated text p.seat owners t
            seated = record {
              all = line_words ∙ ap₂ (λ (n : ℕ) (xs : List ℕ). are (n ∷ xs)) (sym sound.an_owner_each) (sym widths_are);
              many = ap length widths_are ∙ sym sound.an_owner_each;
              sum = ap total widths_are ∙ sym match.ins;
            }

            file_is : file_by text p.seat owners t b.map b.gates ≡ text_file text owners
            unfolding file_by
            file_is = rw widths_are (file_same h t _ b.map b.gates match few owners sound.an_owner_each sound.outs_written)

            pub filed : (after : List ℕ) (k : ℕ) → after ≡ fill room (file_by text p.seat owners t b.map b.gates) → k ≡ size t.ins t.made t.outs
                → filed_after (Ok k) after ≡ does called
            filed after k q l =
                accepted_so allowed k after (q ∙ ap (fill room) file_is) (l ∙ size_same h t _ b.map b.gates match few owners sound.an_owner_each)
