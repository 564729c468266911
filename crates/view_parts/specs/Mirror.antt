-- What the functions that write a view's parts compute. No public contract cites these: laws tie them to sharing's views.
--     copies_of_site           of an opening's six bits the two that reach the site
--     opened_bit               what it opens there
--     copies_on, copies_all    the delivered bits after an opening, and after the first k
--     opened_on, opened_all    the opened bits, likewise
--     all_seen, totals_seen    the document's delivered bits and opened bits, whole
use Rattle.std.specs.Prelude.{List, ℕ, ◌+◌, ◌*◌, set}
use Rattle.theory_sharing.specs.Ops.{bits}
use Rattle.theory_sharing.specs.Sites.{Site, s1, s2, s3}
use Rattle.theory_sharing.specs.Tapes.{read}
use Rattle.theory_sharing.proofs.Seen.{all_got, seen_totals}
use Rattle.theory_calls.specs.File.{circuit}
use Rattle.theory_calls.specs.Calls.{at_wire}
use Rattle.run_messages.specs.Mirror.{two}
use Rattle.run_steps.specs.Mirror.{held_at}
use Rattle.run_messages.specs.declared.Two.{Two}
use Rattle.run_messages.specs.declared.Held.{Held}
use Rattle.view_inputs.specs.Mirror.{pair_of_site, put_two}
use Rattle.file_parts.specs.Loop.{up_to}

unfoldable pub copies_of_site : Site → Held → Two
copies_of_site s1 h = two h.p2.y h.p3.x
copies_of_site s2 h = two h.p1.x h.p3.y
copies_of_site s3 h = two h.p1.y h.p2.x

unfoldable pub opened_bit : Site → Held → ℕ
opened_bit s h = bits.add (bits.add (pair_of_site s h).x (pair_of_site s h).y) (copies_of_site s h).x

module _ (s : Site) (file store : List ℕ) (n at : ℕ) where
  unfoldable pub copies_on : ℕ → List ℕ → List ℕ
  copies_on k l = put_two (at + 2 * k) (copies_of_site s (held_at n ((circuit file).out k) store)) l

  abbrev pub copies_all : List ℕ → ℕ → List ℕ
  copies_all l k = up_to copies_on l k

module _ (s : Site) (file store : List ℕ) (n : ℕ) where
  unfoldable pub opened_on : ℕ → List ℕ → List ℕ
  opened_on k l = set l k (opened_bit s (held_at n ((circuit file).out k) store))

  abbrev pub opened_all : List ℕ → ℕ → List ℕ
  opened_all l k = up_to opened_on l k

abbrev pub all_seen : Site → List ℕ → List ℕ → List ℕ → List ℕ
all_seen s f xs tapes = all_got bits s (circuit f) (at_wire xs) (read (circuit f) tapes) (circuit f).outs

abbrev pub totals_seen : Site → List ℕ → List ℕ → List ℕ → List ℕ
totals_seen s f xs tapes = seen_totals bits s (circuit f) (at_wire xs) (read (circuit f) tapes) (circuit f).outs
