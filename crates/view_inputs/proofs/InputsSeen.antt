-- The pass over the inputs, as one site sees it, is the document's.
--     on_none                    a clean line adds nothing
--     pairs_are, mine_of         the pairs of an input; the site's is what it gets
--     see_is                     it gets it unless it is its own
--     in_step                    one input: from the document's state to the next
use mathlib.Core.Path.{◌≡◌, refl, sym, ap, ◌∙◌}
use mathlib.Core.Bool.{Bool, true, false, cond}
use mathlib.Core.List.{List, [], ◌∷◌, ◌++◌, append-nil}
use Prim.Native.Nat.{ℕ, suc, ◌+◌, ◌≤◌, ◌<◌}
use native.Mathlib.Omega.{arith}
use lib.ListN.{length, length-append}
use Rattle.theory_sharing.specs.Ops.{bits}
use Rattle.theory_sharing.specs.Sites.{Site, s1, s2, s3, is}
use Rattle.theory_sharing.specs.Circuit.{Circuit, Draws, none, no_errors}
use Rattle.theory_sharing.specs.Published.{Deal, deal, dealt}
use Rattle.theory_sharing.specs.Steps.{Pair, hold}
use Rattle.theory_sharing.specs.Retape.{mine}
use Rattle.theory_sharing.specs.Tapes.{read}
use Rattle.theory_sharing.specs.Store.{fill}
use Rattle.theory_sharing.proofs.Seen.{got, ins_got}
use Rattle.theory_calls.specs.File.{site_of}
use Rattle.file_parts.proofs.SiteLaws.{by_number}
use Rattle.run_messages.specs.Mirror.{two, four, deal_at, on_line, in_pairs}
use Rattle.run_steps.specs.Mirror.{put_held}
use Rattle.run_messages.specs.declared.Two.{Two}
use Rattle.run_messages.specs.declared.Four.{Four}
use Rattle.run_steps.specs.declared.Pos.{Pos}
use Rattle.run_passes.specs.Mirror.{St, st, own_place, in_pos}
use Rattle.run_laws.specs.Link.{sent_of, held_of}
use Rattle.run_laws.specs.Places.{as_is, stored}
use Rattle.run_laws.specs.Loops.{in_places, in_place}
use Rattle.run_laws.proofs.GateReads.{bits_zero}
use Rattle.run_laws.proofs.FillLaws.{fill_two}
use Rattle.run_laws.proofs.PassesAtPlaces.{st_eq}
use Rattle.run_laws.proofs.StoredLaws.{input_stored}
use Rattle.run_passes.proofs.PassLaws.{in_pos_is, one_more}
use Rattle.run_laws.proofs.DrawLaws.{in_place_suc, deal_is}
use Rattle.view_inputs.specs.Mirror.{pair_of_site, put_two, see_two, past_two, with_at, input_seen, ins_seen}

-- ---- a clean line
pub on_none : (m : Four) → on_line bits none m ≡ m
unfolding on_line
on_none m = λ i. four (bits_zero m.a i) (bits_zero m.b i) (bits_zero m.c i) (bits_zero m.d i)

-- ---- an input
module _ (D : Deal) where
  pub pairs_are : (owner : ℕ) → in_pairs owner (sent_of D) (sent_of D) ≡ held_of (hold (dealt (site_of owner) D))
  unfolding in_pairs
  pairs_are = by_number (λ s. held_of (hold (dealt s D)))

  pub mine_of : (s t : Site) → pair_of_site s (held_of (hold (dealt t D))) ≡ two (mine s (dealt t D)).0 (mine s (dealt t D)).1
  unfolding pair_of_site
  mine_of s1 t = refl
  mine_of s2 t = refl
  mine_of s3 t = refl

-- what reaches the site is what is written, and moves its place on
module _ (old done : List ℕ) (p : Pair) where
  see_by : (b : Bool) (at : ℕ) → length done ≡ at → at + cond b 0 2 ≤ length old
      → (see_two b at (two p.0 p.1) (fill old done) ≡ fill old (done ++ cond b [] (p.0 ∷ p.1 ∷ []))) × (past_two b at ≡ length (done ++ cond b [] (p.0 ∷ p.1 ∷ [])))
  unfolding see_two past_two put_two
  see_by true at l r = (ap (fill old) (sym (append-nil done)), sym l ∙ ap length (sym (append-nil done)))
  see_by false at l r = (fill_two old done at p.0 p.1 l r, let z = length-append done (p.0 ∷ p.1 ∷ []) in omega arith)

  pub see_is : (s t : Site) (at : ℕ) → length done ≡ at → at + cond (is s t) 0 2 ≤ length old
      → (see_two (is s t) at (two p.0 p.1) (fill old done) ≡ fill old (done ++ got s t p)) × (past_two (is s t) at ≡ length (done ++ got s t p))
  unfolding got
  see_is s t at l r = see_by (is s t) at l r

-- ---- the states
module _ (s : Site) (C : Circuit) (x : ℕ → ℕ) (tapes : List ℕ) (n : ℕ) (l old : List ℕ) where
  abbrev T : Draws
  T = read C tapes

  abbrev ins : ℕ → St
  ins i = ins_seen s C x T n l old i

  abbrev dealt_at : ℕ → Deal
  dealt_at i = deal bits (x i) (T.in1 i) (T.in2 i)

  abbrev had : ℕ → List ℕ
  had i = ins_got bits s C x T i

  -- one input
  pub in_step : (i owner : ℕ) → i < C.ins → C.owner i ≡ site_of owner
      → length (had i) + cond (is s (C.owner i)) 0 2 ≤ length old → input_seen s tapes n i (x i) owner (is s (C.owner i)) (ins i) ≡ ins (suc i)
  unfolding input_seen ins_seen ins_got own_place in_places
  in_step i owner h q r =
      let S : ℕ → List ℕ = stored C x T no_errors n as_is l in
      let D : Deal = dealt_at i in
      let t : Site = C.owner i in
      let own : Bool = is s t in
      let K : deal_at bits tapes (own_place owner (in_place C i)) (x i) ≡ sent_of D = deal_is C x tapes i owner h q in
      let A : put_held n i (in_pairs owner (sent_of D) (sent_of D)) (S i) ≡ S (suc i)
      = ap (λ (m : Four). put_held n i (in_pairs owner (sent_of D) m) (S i)) (sym (on_none (sent_of D))) ∙ input_stored C x T no_errors n as_is l i owner h q D refl in
      let B : pair_of_site s (in_pairs owner (sent_of D) (sent_of D)) ≡ two (mine s (dealt t D)).0 (mine s (dealt t D)).1
      = ap (pair_of_site s) (pairs_are D owner ∙ ap (λ (z : Site). held_of (hold (dealt z D))) (sym q)) ∙ mine_of D s t in
      let seen = see_is old (had i) (mine s (dealt t D)) s t (length (had i)) refl r in
      let here : Pos = with_at (in_place C i) (length (had i)) in
      let P : with_at (in_pos owner here) (past_two own (length (had i))) ≡ with_at (in_place C (suc i)) (length (had i ++ got s t (mine s (dealt t D))))
      = ap (λ (z : Pos). with_at z (past_two own (length (had i)))) (in_pos_is owner here ∙ ap (one_more here) (sym q)) ∙ (λ j. with_at (in_place_suc C i j) (seen.1 j)) in
      (λ j. st (put_held n i (in_pairs owner (K j) (K j)) (S i)) (see_two own (length (had i)) (pair_of_site s (in_pairs owner (K j) (K j))) (fill old (had i)))
      (with_at (in_pos owner here) (past_two own (length (had i)))))
      ∙ st_eq A (ap (λ (z : Two). see_two own (length (had i)) z (fill old (had i))) B ∙ seen.0) P
