-- Wrong programs told by what they answer: those of run, view and re-taping. What a row is: WrongReads.antt.
--     unlike_draws        K's tapes with site 2's draws for the gate exchanged: 1011, 0110, 10
--     wrong_runs          the rows
use Rattle.std.specs.Prelude.{List, [], ◌∷◌, ◌++◌, ℕ, replicate, set}
use Rattle.theory_calls.specs.Answer.{abort, refused}
use Rattle.theory_calls.specs.Calls.{Run, View}
use Rattle.theory_demands.specs.Marked.{K_file, K_tapes, K_line, K_run, K_retape, K_store, untouched, stopped_with, good_with}
use Rattle.theory_wrong.specs.WrongReads.{Wrong, gated, owned_by, two_outputs}

abbrev pub unlike_draws : List ℕ
unlike_draws = 1 ∷ 0 ∷ 1 ∷ 1 ∷ 0 ∷ 1 ∷ 1 ∷ 0 ∷ 1 ∷ 0 ∷ []

-- OR runs as AND, without the flips.
-- run_passes: `and_gate(tapes, line, store, transcript, n, a, b, w, o, pos)` → `and_gate(tapes, line, store, transcript, n, a, b, w, 0, pos)`
abbrev pub or_as_and : Wrong
or_as_and = record {
  call = Run (gated 4 0 1) (1 ∷ 0 ∷ []) K_tapes (K_line []) (untouched 3) (untouched 26) (untouched 18);
  gives = good_with ((0 ∷ 0 ∷ 0 ∷ []) ∷ (1 ∷ 0 ∷ 0 ∷ 0 ∷ 0 ∷ 1 ∷ 1 ∷ 1 ∷ 1 ∷ 1 ∷ 1 ∷ 1 ∷ 0 ∷ 1 ∷ 1 ∷ 0 ∷ 1 ∷ 0 ∷ 0 ∷ 1 ∷ 1 ∷ 1 ∷ 1 ∷ 0 ∷ 0 ∷ 1 ∷ []) ∷ (0 ∷ 1 ∷ 1 ∷ 1 ∷ 1 ∷ 1 ∷ 1 ∷ 0 ∷ 1 ∷ 0 ∷ 1 ∷ 0 ∷ 0 ∷ 0 ∷ 0 ∷ 1 ∷ 0 ∷ 1 ∷ []) ∷ []);
}

-- An input of site 2 takes its draws from site 3's tape.
-- run_passes: `2 => pos.t2,` → `2 => pos.t3,`
abbrev pub two_draws_of_another_tape : Wrong
two_draws_of_another_tape = record {
  call = K_run [];
  gives = good_with ((1 ∷ 1 ∷ 1 ∷ []) ∷ (1 ∷ 0 ∷ 0 ∷ 0 ∷ 1 ∷ 0 ∷ 0 ∷ 0 ∷ 1 ∷ 1 ∷ 1 ∷ 0 ∷ 0 ∷ 1 ∷ 1 ∷ 0 ∷ 1 ∷ 0 ∷ 0 ∷ 1 ∷ 0 ∷ 1 ∷ 1 ∷ 0 ∷ 0 ∷ 0 ∷ []) ∷ (0 ∷ 1 ∷ 0 ∷ 0 ∷ 0 ∷ 1 ∷ 1 ∷ 0 ∷ 0 ∷ 1 ∷ 1 ∷ 0 ∷ 0 ∷ 0 ∷ 1 ∷ 0 ∷ 0 ∷ 0 ∷ []) ∷ []);
}

-- A site objects, and the answer names another output than the first with unlike copies.
-- run_openings: `output: k,` → `output: 0,`
abbrev pub abort_with_another_output : Wrong
abort_with_another_output = record {
  call = Run two_outputs (1 ∷ 1 ∷ []) (1 ∷ 0 ∷ 1 ∷ 1 ∷ []) (set (replicate 20 0) 14 1) (untouched 6) (untouched 20) (untouched 12);
  gives = stopped_with (abort 0 2) (untouched 6 ∷ (1 ∷ 0 ∷ 0 ∷ 0 ∷ 1 ∷ 1 ∷ 1 ∷ 1 ∷ 0 ∷ 1 ∷ 1 ∷ 0 ∷ 0 ∷ 0 ∷ 0 ∷ 1 ∷ 1 ∷ 1 ∷ 1 ∷ 1 ∷ []) ∷ (0 ∷ 1 ∷ 1 ∷ 1 ∷ 1 ∷ 0 ∷ 1 ∷ 1 ∷ 0 ∷ 0 ∷ 1 ∷ 1 ∷ []) ∷ []);
}

-- Site 1 opens with a bit that was sent to another site.
-- run_openings: `tr[p + 3]` → `tr[p + 2]`
abbrev pub opens_with_another_copy : Wrong
opens_with_another_copy = record {
  call = K_run (23 ∷ 24 ∷ []);
  gives = good_with ((1 ∷ 1 ∷ 1 ∷ []) ∷ (1 ∷ 0 ∷ 0 ∷ 0 ∷ 0 ∷ 1 ∷ 1 ∷ 0 ∷ 1 ∷ 1 ∷ 1 ∷ 1 ∷ 0 ∷ 1 ∷ 1 ∷ 1 ∷ 1 ∷ 0 ∷ 0 ∷ 1 ∷ 1 ∷ 0 ∷ 0 ∷ 1 ∷ 1 ∷ 1 ∷ []) ∷ K_store ∷ []);
}

-- Outputs are handed over though a site objected at one of them.
-- run_openings: `return Some(Stop { output: k, sites });` → `return None;`
abbrev pub outputs_before_a_later_abort : Wrong
outputs_before_a_later_abort = record {
  call = K_run (20 ∷ []);
  gives = good_with ((1 ∷ 0 ∷ 1 ∷ []) ∷ (1 ∷ 0 ∷ 0 ∷ 0 ∷ 0 ∷ 1 ∷ 1 ∷ 0 ∷ 1 ∷ 1 ∷ 1 ∷ 1 ∷ 0 ∷ 1 ∷ 1 ∷ 1 ∷ 1 ∷ 0 ∷ 0 ∷ 1 ∷ 0 ∷ 0 ∷ 0 ∷ 0 ∷ 0 ∷ 1 ∷ []) ∷ K_store ∷ []);
}

-- NOT flips part 1 at one of its two holders only.
-- run_steps: `flip_step(&mut store[4 * n..6 * n], a, w, Two { x: 0, y: 1 });` → `flip_step(&mut store[4 * n..6 * n], a, w, Two { x: 0, y: 0 });`
abbrev pub not_at_one_holder : Wrong
not_at_one_holder = record {
  call = Run (gated 3 0 0) (1 ∷ 1 ∷ []) (1 ∷ 0 ∷ 1 ∷ 1 ∷ []) (replicate 14 0) (untouched 3) (untouched 14) (untouched 18);
  gives = stopped_with (abort 0 2) (untouched 3 ∷ (1 ∷ 0 ∷ 0 ∷ 0 ∷ 1 ∷ 1 ∷ 1 ∷ 1 ∷ 1 ∷ 1 ∷ 1 ∷ 0 ∷ 0 ∷ 0 ∷ []) ∷ (0 ∷ 1 ∷ 1 ∷ 1 ∷ 1 ∷ 1 ∷ 1 ∷ 0 ∷ 1 ∷ 1 ∷ 1 ∷ 0 ∷ 0 ∷ 0 ∷ 1 ∷ 1 ∷ 0 ∷ 0 ∷ []) ∷ []);
}

-- Site 2's view shows site 3's tape.
-- view: `Site::Two => pos.t2,` → `Site::Two => pos.t3,`
abbrev pub another_sites_tape : Wrong
another_sites_tape = record {
  call = View (owned_by 1 3) (1 ∷ 1 ∷ []) unlike_draws 2 (untouched 13) (untouched 18);
  gives = good_with ((1 ∷ 0 ∷ 1 ∷ 0 ∷ 0 ∷ 0 ∷ 1 ∷ 1 ∷ 0 ∷ 1 ∷ 1 ∷ 1 ∷ 1 ∷ []) ∷ K_store ∷ []);
}

-- The site is not looked at: a view of site 4 is given as site 3's.
-- view: `let seat = Site::try_from(site)?;` → `let seat = Site::try_from(site).unwrap_or(Site::Three);`
abbrev pub site_four : Wrong
site_four = record {
  call = View K_file (1 ∷ 1 ∷ []) K_tapes 4 (untouched 13) (untouched 18);
  gives = good_with ((1 ∷ 0 ∷ 0 ∷ 0 ∷ 0 ∷ 1 ∷ 1 ∷ 1 ∷ 0 ∷ 1 ∷ 0 ∷ 0 ∷ 1 ∷ []) ∷ K_store ∷ []);
}

-- Site 1 sees the two bits that site 2 sends it in another order than they were delivered in.
-- view_gates: `a: m.s2.c,` → `a: m.s2.d,`
-- view_gates: `b: m.s2.d,` → `b: m.s2.c,`
abbrev pub two_delivered_bits_exchanged : Wrong
two_delivered_bits_exchanged = record {
  call = View K_file (1 ∷ 1 ∷ []) unlike_draws 1 (untouched 14) (untouched 18);
  gives = good_with ((1 ∷ 1 ∷ 0 ∷ 1 ∷ 1 ∷ 1 ∷ 0 ∷ 1 ∷ 0 ∷ 1 ∷ 0 ∷ 1 ∷ 1 ∷ 1 ∷ []) ∷ (0 ∷ 1 ∷ 1 ∷ 0 ∷ 0 ∷ 0 ∷ 1 ∷ 0 ∷ 0 ∷ 0 ∷ 0 ∷ 1 ∷ 0 ∷ 0 ∷ 0 ∷ 1 ∷ 1 ∷ 0 ∷ []) ∷ []);
}

-- In place of the first copy of the part that it lacks, site 1 sees a part that it holds.
-- view_parts: `x: h.p2.y,` → `x: h.p2.x,`
abbrev pub a_held_part_as_a_copy : Wrong
a_held_part_as_a_copy = record {
  call = View K_file (1 ∷ 1 ∷ []) unlike_draws 1 (untouched 14) (untouched 18);
  gives = good_with ((1 ∷ 1 ∷ 0 ∷ 1 ∷ 1 ∷ 1 ∷ 0 ∷ 0 ∷ 1 ∷ 1 ∷ 0 ∷ 0 ∷ 1 ∷ 0 ∷ []) ∷ (0 ∷ 1 ∷ 1 ∷ 0 ∷ 0 ∷ 0 ∷ 1 ∷ 0 ∷ 0 ∷ 0 ∷ 0 ∷ 1 ∷ 0 ∷ 0 ∷ 0 ∷ 1 ∷ 1 ∷ 0 ∷ []) ∷ []);
}

-- At an AND or OR the next site's draws change places: the second is moved, not the first.
-- retape_pairs: `put_draws(moved, at.next, m.first, m.second);` → `put_draws(moved, at.next, m.second, m.first);`
abbrev pub second_draw_moved : Wrong
second_draw_moved = record {
  call = K_retape 3 (1 ∷ 0 ∷ []) (0 ∷ 1 ∷ []);
  gives = good_with ((0 ∷ 0 ∷ 1 ∷ 0 ∷ 0 ∷ 1 ∷ 0 ∷ 1 ∷ 1 ∷ 0 ∷ []) ∷ (1 ∷ 0 ∷ 0 ∷ 0 ∷ 1 ∷ 0 ∷ 0 ∷ 0 ∷ 0 ∷ 1 ∷ 0 ∷ 1 ∷ []) ∷ []);
}

-- Plain values under the second inputs stand first.
-- retape_tapes: `plain::values_pass(c, inputs, &mut room[0..n]);` → `plain::values_pass(c, second, &mut room[0..n]);`
-- retape_tapes: `plain::values_pass(c, second, &mut room[n..2 * n]);` → `plain::values_pass(c, inputs, &mut room[n..2 * n]);`
abbrev pub halves_exchanged : Wrong
halves_exchanged = record {
  call = K_retape 3 (1 ∷ 0 ∷ []) (0 ∷ 1 ∷ []);
  gives = good_with ((0 ∷ 0 ∷ 0 ∷ 1 ∷ 0 ∷ 1 ∷ 0 ∷ 1 ∷ 1 ∷ 0 ∷ []) ∷ (0 ∷ 1 ∷ 0 ∷ 1 ∷ 0 ∷ 0 ∷ 0 ∷ 0 ∷ 0 ∷ 1 ∷ 0 ∷ 0 ∷ []) ∷ []);
}

-- The tape of the site before is made anew, not the next one's.
-- retape_tapes: `let n = tape_of(after, one, two, all);` → `let n = tape_of(before, one, two, all);`
abbrev pub tape_of_the_other_neighbour : Wrong
tape_of_the_other_neighbour = record {
  call = K_retape 3 (1 ∷ 0 ∷ []) (0 ∷ 1 ∷ []);
  gives = good_with ((1 ∷ 0 ∷ 1 ∷ 1 ∷ 1 ∷ 1 ∷ 1 ∷ 1 ∷ 1 ∷ 0 ∷ []) ∷ (1 ∷ 0 ∷ 0 ∷ 0 ∷ 1 ∷ 0 ∷ 1 ∷ 0 ∷ 0 ∷ 1 ∷ 1 ∷ 1 ∷ []) ∷ []);
}

-- An opened bit that differs is not refused.
-- retape_differs: `Some(c.counts.inputs + output)` → `None`
abbrev pub opened_bit_missed : Wrong
opened_bit_missed = record {
  call = K_retape 3 (1 ∷ 1 ∷ []) (1 ∷ 0 ∷ []);
  gives = good_with ((1 ∷ 0 ∷ 1 ∷ 1 ∷ 0 ∷ 1 ∷ 0 ∷ 1 ∷ 1 ∷ 0 ∷ []) ∷ (1 ∷ 1 ∷ 1 ∷ 1 ∷ 0 ∷ 0 ∷ 0 ∷ 0 ∷ 0 ∷ 1 ∷ 0 ∷ 1 ∷ []) ∷ []);
}

-- An input of another site that differs is refused.
-- retape_differs: `file_counts::owns(c, site, k) && inputs[k] != second[k]` → `inputs[k] != second[k]`
abbrev pub refused_where_tapes_exist : Wrong
refused_where_tapes_exist = record {
  call = K_retape 3 (1 ∷ 0 ∷ []) (0 ∷ 1 ∷ []);
  gives = stopped_with (refused 13 0) (untouched 10 ∷ ((1 ∷ 0 ∷ 0 ∷ 0 ∷ 1 ∷ 0 ∷ []) ++ untouched 6) ∷ []);
}

abbrev pub wrong_runs : List Wrong
wrong_runs =
    or_as_and
    ∷ two_draws_of_another_tape
    ∷ abort_with_another_output
    ∷ opens_with_another_copy
    ∷ outputs_before_a_later_abort
    ∷ not_at_one_holder
    ∷ another_sites_tape
    ∷ site_four
    ∷ two_delivered_bits_exchanged
    ∷ a_held_part_as_a_copy
    ∷ second_draw_moved
    ∷ halves_exchanged
    ∷ tape_of_the_other_neighbour
    ∷ opened_bit_missed
    ∷ refused_where_tapes_exist
    ∷ []
