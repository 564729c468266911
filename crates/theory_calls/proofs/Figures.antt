-- The traffic call for a family, and what the listing shows. At bits: theory_demands/proofs/Demands.antt.
-- Assumes nothing.
use mathlib.Core.Path.{◌≡◌, refl, sym, ap, ◌∙◌, fun_ext}
use mathlib.Core.List.{List, [], ◌∷◌}
use Prim.Native.Nat.{ℕ, ◌+◌, ◌*◌}
use lib.ListN.{length, get_or}
use Rattle.theory_sharing.specs.Store.{fill}
use Rattle.theory_sharing.specs.Sites.{Site, s1, s2, s3, Trio}
use Rattle.theory_sharing.specs.Circuit.{all_ands}
use Rattle.theory_sharing.specs.Order.{routes, count}
use Rattle.theory_sharing.specs.Traffic.{input_adds, gate_adds, output_adds, sum, comparing, entry, traffic_table, add_up, table_total}
use Rattle.theory_sharing.proofs.SiteLaws.{by_site}
use Rattle.theory_sharing.proofs.TrafficLaws.{table_total_is, no_diagonal, entry_counts}
use Rattle.theory_calls.specs.File.{circuit}
use Rattle.theory_calls.specs.Plain.{plain_out}
use Rattle.theory_calls.specs.Answer.{good, After}
use Rattle.theory_calls.specs.Calls.{Traffic, TrafficOf, Listing, does, Accepts, buffer, job_file, job_inputs, job_tapes, job_text}
use Rattle.theory_calls.specs.Statements.{circuit_with, Family, bit_family, entry_of}
use Rattle.theory_calls.proofs.Refusals.{Passes}
use Rattle.theory_calls.proofs.CallLaws.{passes_accepts, accepts_does}
use Rattle.theory_calls.proofs.Accepted.{listing_ok}
use Rattle.theory_calls.specs.Listing.{good_text}
use Rattle.theory_calls.proofs.RunCall as RC

module _ (F : Family) (f : List ℕ) (a : Accepts (TrafficOf F f)) where
  table_is : (does (TrafficOf F f)).returned ≡ traffic_table (circuit_with F f)
  unfolding TrafficOf
  table_is = ap (λ (z : After). z.returned) (accepts_does (TrafficOf F f) a)

  entry_is : (p q : Site) → entry_of (traffic_table (circuit_with F f)) p q ≡ entry (circuit_with F f) p q
  unfolding traffic_table
  entry_is s1 q = by_site (λ q. entry_of (traffic_table (circuit_with F f)) s1 q ≡ entry (circuit_with F f) s1 q) refl refl refl q
  entry_is s2 q = by_site (λ q. entry_of (traffic_table (circuit_with F f)) s2 q ≡ entry (circuit_with F f) s2 q) refl refl refl q
  entry_is s3 q = by_site (λ q. entry_of (traffic_table (circuit_with F f)) s3 q ≡ entry (circuit_with F f) s3 q) refl refl refl q

  in_table : (p q : Site) → entry_of (does (TrafficOf F f)).returned p q ≡ entry (circuit_with F f) p q
  in_table p q = ap (λ (t : List (List ℕ)). entry_of t p q) table_is ∙ entry_is p q

  pub each_entry_is_the_sum_over_the_steps : (p q : Site)
      → entry_of (does (TrafficOf F f)).returned p q
      ≡ sum (λ i. input_adds ((circuit_with F f).owner i) p q) (circuit_with F f).ins + sum (λ g. gate_adds ((circuit_with F f).gate g) p q) (circuit_with F f).gates
      + sum (λ o. output_adds p q) (circuit_with F f).outs
  unfolding entry
  each_entry_is_the_sum_over_the_steps p q = in_table p q

  pub diagonal_is_zero : (p : Site) → entry_of (does (TrafficOf F f)).returned p p ≡ 0
  diagonal_is_zero p = in_table p p ∙ no_diagonal (circuit_with F f) p

  pub traffic_total : add_up (does (TrafficOf F f)).returned ≡ 4 * (circuit_with F f).ins + 12 * all_ands (circuit_with F f) + 3 * (circuit_with F f).outs
  traffic_total = ap add_up table_is ∙ table_total_is (circuit_with F f)

  pub entry_counts_sent_bits : (p q : Site) → count p q (routes (circuit_with F f) (circuit_with F f).outs) ≡ entry_of (does (TrafficOf F f)).returned p q + comparing p q * (circuit_with F f).outs
  entry_counts_sent_bits p q = entry_counts (circuit_with F f) p q ∙ ap (λ (z : ℕ). z + comparing p q * (circuit_with F f).outs) (sym (in_table p q))

pub listing_plain : (j b : List ℕ) → Accepts (Listing j b) → let said = good_text (circuit (job_file j)) (plain_out (circuit (job_file j)) (job_inputs j)) in
    ((does (Listing j b)).answer ≡ good (length said ∷ [])) × (buffer 0 (Listing j b) ≡ fill b said)
unfolding Listing
listing_plain j b a =
    let e : job_text j ≡ good_text (circuit (job_file j)) (plain_out (circuit (job_file j)) (job_inputs j)) =
    ap (good_text (circuit (job_file j)))
    (fun_ext (λ o. ap (λ (u : Trio ℕ). u.at1) (RC.opens_plain (circuit (job_file j)) (job_inputs j) (job_tapes j) (listing_ok j b a).in_x.small o))) in
    let d = accepts_does (Listing j b) a in
    (ap (λ (z : After). z.answer) d ∙ ap (λ (l : List ℕ). good (length l ∷ [])) e, ap (λ (z : After). get_or z.lent 0 []) d ∙ ap (fill b) e)

-- the listing's line two
pub listing_total : (j b : List ℕ) → Accepts (Listing j b)
    → Accepts (Traffic (job_file j)) × (table_total (circuit (job_file j)) ≡ add_up (does (Traffic (job_file j))).returned)
unfolding Passes TrafficOf
listing_total j b a =
    let k = (listing_ok j b a).sound in
    let u : Accepts (Traffic (job_file j)) = passes_accepts (Traffic (job_file j)) (k.c1, (k.c2, (k.c3, (k.c4, (k.c5, (k.c6, tt)))))) in
    (u, sym (ap add_up (table_is bit_family (job_file j) u)))
