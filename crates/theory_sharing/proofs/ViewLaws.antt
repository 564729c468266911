-- A site's view, as specs/View.antt says it, is what it sees of the published parts; its length; what it shows.
--     view_is          the two forms are one, for tapes of the right length
--     view_length      2I + Is + 6A + 3O
--     own_many, totals_many    how many own inputs and opened values there are
--     shown            equal views have equal own inputs and equal opened values
-- Assumes nothing.
use mathlib.Core.Path.{◌≡◌, refl, sym, ap, ap₂, ◌∙◌}
use mathlib.Core.Bool.{cond}
use mathlib.Core.Logic.{⊎_elim}
use mathlib.Core.List.{List, [], ◌∷◌, ◌++◌, append_assoc}
use Prim.Native.Nat.{ℕ, zero, suc, ◌+◌, ◌*◌, ◌<◌}
use native.Mathlib.Omega.{arith}
use native.Mathlib.Nat.{eq-or-lt_of_le, le_of_suc-le-suc}
use lib.ListN.{length, get_or, length-append}
use Rattle.theory_sharing.specs.Ops.{Ops}
use Rattle.theory_sharing.specs.Sites.{Site, s1, s2, s3, of, is, if_own}
use Rattle.theory_sharing.specs.Circuit.{Circuit, Draws, no_errors, owned, all_owned, all_ands}
use Rattle.theory_sharing.specs.Values.{values}
use Rattle.theory_sharing.specs.Published.{total, out_parts}
use Rattle.theory_sharing.specs.Order.{routes, pick}
use Rattle.theory_sharing.specs.Run.{opens_delivered, transcript}
use Rattle.theory_sharing.specs.Tapes.{tapes_sum, read, tape}
use Rattle.theory_sharing.specs.View.{own_ins, seen_outs, view_from}
use Rattle.theory_sharing.proofs.Group.{Group}
use Rattle.theory_sharing.proofs.SiteLaws.{Seen, itself, behind, before, seen, is_itself, is_behind, is_before, own_itself, own_behind, own_before}
use Rattle.theory_sharing.proofs.Parts.{AllDraws, total_at}
use Rattle.theory_sharing.proofs.Clean.{no_objection, opened_total, thrice}
use Rattle.theory_sharing.proofs.RunLaws.{stop_none, quiet_made}
use Rattle.theory_sharing.proofs.OrderLaws.{reaches, got_length}
use Rattle.theory_sharing.proofs.TapeLaws.{read_tape, gates_length}
use Rattle.theory_sharing.proofs.Seen.{all_got, seen_totals, seen_view}
use Rattle.theory_sharing.proofs.Unique.{split, split_end, own_length, own_agree}

pub of_thrice : (v : ℕ) (s : Site) → of (thrice v) s ≡ v
of_thrice v s1 = refl
of_thrice v s2 = refl
of_thrice v s3 = refl

module _ (G : Group) (s : Site) (C : Circuit) (x : ℕ → ℕ) where
  open G use {ops as R}
  open G.laws use {Ok}

  -- on a clean line the whole transcript is that of all openings
  pub clean_transcript : (T : Draws) → AllDraws Ok T → transcript R C x T no_errors ≡ opens_delivered R C x T no_errors C.outs
  unfolding transcript
  clean_transcript T ok =
      ap (opens_delivered R C x T no_errors) (quiet_made R C x T no_errors (stop_none R C x T no_errors (λ p h. no_objection G C x T ok p)))

  outs_are : (T : Draws) → AllDraws Ok T → (n : ℕ) → seen_outs R s C x T n ≡ seen_totals R s C x T n
  unfolding seen_outs seen_totals
  outs_are T ok zero = refl
  outs_are T ok (suc o) =
      ap₂ (λ l v. l ++ (v ∷ [])) (outs_are T ok o) (ap (λ t. of t s) (opened_total G C x T ok o) ∙ of_thrice (total R (out_parts R C x T o)) s)

  pub view_is : (t : List ℕ) → length t ≡ tapes_sum C → AllDraws Ok (read C t) → view_from R s C x t ≡ seen_view R s C x (read C t)
  unfolding view_from seen_view
  view_is t h ok =
      ap₂ ◌++◌ (ap₂ (λ a b. own_ins s C x C.ins ++ a ++ b) (sym (read_tape C t h s))
      (ap (pick s (routes C C.outs)) (clean_transcript (read C t) ok) ∙ reaches G s C x (read C t) ok C.outs))
      (outs_are (read C t) ok C.outs)

own_one : (s t : Site) → Seen s t → (a : ℕ) → length (if_own s t (a ∷ [])) ≡ cond (is s t) 1 0
own_one s t itself a = ap length (own_itself s _) ∙ ap (λ c. cond c 1 0) (sym (is_itself s))
own_one s t behind a = ap length (own_behind s _) ∙ ap (λ c. cond c 1 0) (sym (is_behind s))
own_one s t before a = ap length (own_before s _) ∙ ap (λ c. cond c 1 0) (sym (is_before s))

pub own_many : (s : Site) (C : Circuit) (x : ℕ → ℕ) (i : ℕ) → length (own_ins s C x i) ≡ owned C.owner s i
unfolding own_ins owned
own_many s C x zero = refl
own_many s C x (suc i) = length-append (own_ins s C x i) _ ∙ ap₂ ◌+◌ (own_many s C x i) (own_one s (C.owner i) (seen s (C.owner i)) (x i))

pub totals_many : (R : Ops) (s : Site) (C : Circuit) (x : ℕ → ℕ) (T : Draws) (n : ℕ) → length (seen_totals R s C x T n) ≡ n
unfolding seen_totals
totals_many R s C x T zero = refl
totals_many R s C x T (suc n) = length-append (seen_totals R s C x T n) _ ∙ (let k = totals_many R s C x T n in omega arith)

pub seen_length : (R : Ops) (s : Site) (C : Circuit) (x : ℕ → ℕ) (T : Draws)
    → length (seen_view R s C x T) ≡ 2 * C.ins + all_owned C s + 6 * all_ands C + 3 * C.outs
unfolding seen_view
seen_length R s C x T =
    let a = own_many s C x C.ins in
    let b = gates_length C T s C.gates in
    let c = got_length R s C x T C.outs in
    let d = totals_many R s C x T C.outs in
    let l1 = length-append (own_ins s C x C.ins) (tape C T s C.gates) in
    let l2 = length-append (own_ins s C x C.ins ++ tape C T s C.gates) (all_got R s C x T C.outs) in
    let l3 = length-append (own_ins s C x C.ins ++ tape C T s C.gates ++ all_got R s C x T C.outs) (seen_totals R s C x T C.outs) in
    omega arith

pub view_length : (G : Group) (s : Site) (C : Circuit) (x : ℕ → ℕ) (t : List ℕ) → length t ≡ tapes_sum C → AllDraws G.laws.Ok (read C t)
    → length (view_from G.ops s C x t) ≡ 2 * C.ins + all_owned C s + 6 * all_ands C + 3 * C.outs
view_length G s C x t h ok = ap length (view_is G s C x t h ok) ∙ seen_length G.ops s C x (read C t)

module _ (G : Group) (s : Site) (C : Circuit) (x y : ℕ → ℕ) (T U : Draws) where
  open G use {ops as R}
  open G.laws use {Ok}

  own_shown : (n : ℕ) → own_ins s C y n ≡ own_ins s C x n → (i : ℕ) → i < n → C.owner i ≡ s → y i ≡ x i
  unfolding own_ins
  own_shown zero e i h o = absurd (omega arith)
  own_shown (suc n) e i h o =
      let q = split_end (own_ins s C y n) (own_ins s C x n) (if_own s (C.owner n) (y n ∷ [])) (if_own s (C.owner n) (x n ∷ []))
      (own_length s (C.owner n) (seen s (C.owner n)) _ _ refl) e in
      ⊎_elim
      (λ k. let l : y n ∷ [] ≡ x n ∷ [] = own_agree s (C.owner n) _ _ (ap C.owner (sym k) ∙ o) q.1 in
      ap y k ∙ (let m : y n ≡ x n = cc in m) ∙ sym (ap x k))
      (λ k. own_shown n q.0 i k o) (eq-or-lt_of_le (le_of_suc-le-suc h))

  abbrev out : (ℕ → ℕ) → Draws → ℕ → ℕ
  out x T o = total R (out_parts R C x T o)

  outs_shown : (n : ℕ) → seen_totals R s C y U n ≡ seen_totals R s C x T n → (o : ℕ) → o < n → out y U o ≡ out x T o
  unfolding seen_totals
  outs_shown zero e o h = absurd (omega arith)
  outs_shown (suc n) e o h =
      let q = split_end (seen_totals R s C y U n) (seen_totals R s C x T n) (out y U n ∷ []) (out x T n ∷ []) refl e in
      ⊎_elim (λ k. let l : out y U n ∷ [] ≡ out x T n ∷ [] = q.1 in
      ap (out y U) k ∙ (let m : out y U n ≡ out x T n = cc in m) ∙ sym (ap (out x T) k))
      (λ k. outs_shown n q.0 o k) (eq-or-lt_of_le (le_of_suc-le-suc h))

  pub record Shown : Type 0 where
    pub own : (i : ℕ) → i < C.ins → C.owner i ≡ s → y i ≡ x i
    pub opens : (o : ℕ) → o < C.outs → get_or (values R C y C.gates) (C.out o) 0 ≡ get_or (values R C x C.gates) (C.out o) 0

  pub shown : ((i : ℕ) → Ok (x i)) → ((i : ℕ) → Ok (y i)) → seen_view R s C y U ≡ seen_view R s C x T → Shown
  unfolding seen_view
  shown okx oky e =
      let c1 = split_end (own_ins s C y C.ins ++ tape C U s C.gates ++ all_got R s C y U C.outs)
      (own_ins s C x C.ins ++ tape C T s C.gates ++ all_got R s C x T C.outs)
      (seen_totals R s C y U C.outs) (seen_totals R s C x T C.outs) (totals_many R s C y U C.outs ∙ sym (totals_many R s C x T C.outs)) e in
      let c2 = split (own_ins s C y C.ins) (own_ins s C x C.ins)
      (tape C U s C.gates ++ all_got R s C y U C.outs) (tape C T s C.gates ++ all_got R s C x T C.outs)
      (own_many s C y C.ins ∙ sym (own_many s C x C.ins))
      (sym (append_assoc (own_ins s C y C.ins) _ _) ∙ c1.0 ∙ append_assoc (own_ins s C x C.ins) _ _) in
      record {
        own = own_shown C.ins c2.0;
        opens = λ o h. sym (total_at G C y U oky (C.out o)) ∙ outs_shown C.outs c1.1 o h ∙ total_at G C x T okx (C.out o);
      }
