-- View and re-taping as whole calls.
--     view_does, retape_does     what accepted calls do
--     alike                      inputs that keep a site's own and the opened bits, as the sharing says it
--     new_numbers                 the new tapes are lent back as they came: 2I + 6A numbers of the family
--     keeps_back, keeps_through  keeping own and opened bits goes back and by way of a third
-- Assumes nothing.
use mathlib.Core.Path.{◌≡◌, refl, sym, ap, ◌∙◌}
use mathlib.Core.Bool.{Bool, true, false}
use mathlib.Core.List.{List, []}
use Prim.Native.Nat.{ℕ, ◌≤◌}
use native.Mathlib.Omega.{arith}
use lib.ListN.{get_or, get_or-eq_default}
use lib.Dec.{ltb}
use borrow.Author.Tests.{ltb-true, ltb-false}
use Rattle.theory_sharing.specs.Sites.{Site}
use Rattle.theory_sharing.specs.Circuit.{Circuit}
use Rattle.theory_sharing.specs.Tapes.{read}
use Rattle.theory_sharing.specs.View.{view_from}
use Rattle.theory_sharing.specs.Retape.{new_tapes}
use Rattle.theory_sharing.proofs.Group.{Group}
use Rattle.theory_sharing.proofs.RetapeLaws as L
use Rattle.theory_sharing.proofs.TapeLaws.{tapes_length}
use Rattle.theory_sharing.proofs.ViewLaws.{Shown}
use Rattle.theory_calls.specs.File.{site_of}
use Rattle.theory_calls.specs.Answer.{After}
use Rattle.theory_calls.specs.Checks.{tapes_want}
use Rattle.theory_calls.specs.Calls.{ViewOf, RetapeOf, does, Accepts, at_wire}
use Rattle.theory_calls.proofs.FamilyLaws.{Lawful, group, numbers_ok, draws_ok}
use Rattle.theory_calls.specs.Statements.{circuit_with, Family, Numbers, Keeps}
use Rattle.theory_calls.proofs.CallLaws.{accepts_does}

pub view_does : (F : Family) (f x t : List ℕ) (s : ℕ) (v st : List ℕ) → Accepts (ViewOf F f x t s v st)
    → get_or (does (ViewOf F f x t s v st)).lent 0 [] ≡ view_from F.ops (site_of s) (circuit_with F f) (at_wire x) t
unfolding ViewOf
view_does F f x t s v st a = ap (λ (z : After). get_or z.lent 0 []) (accepts_does (ViewOf F f x t s v st) a)

pub retape_does : (F : Family) (f x t y : List ℕ) (s : ℕ) (nt wr : List ℕ) → Accepts (RetapeOf F f x t y s nt wr)
    → get_or (does (RetapeOf F f x t y s nt wr)).lent 0 [] ≡ new_tapes F.ops (site_of s) (circuit_with F f) (at_wire x) (at_wire y) t
unfolding RetapeOf
retape_does F f x t y s nt wr a = ap (λ (z : After). get_or z.lent 0 []) (accepts_does (RetapeOf F f x t y s nt wr) a)

pub keeps_back : (F : Family) (s : Site) (C : Circuit) (x y : List ℕ) → Keeps F s C x y → Keeps F s C y x
keeps_back F s C x y k = record { own = λ i h e. sym (k.own i h e); opens = λ o h. sym (k.opens o h) }

pub keeps_through : (F : Family) (s : Site) (C : Circuit) (x y z : List ℕ) → Keeps F s C x y → Keeps F s C y z → Keeps F s C x z
keeps_through F s C x y z j k = record { own = λ i h e. k.own i h e ∙ j.own i h e; opens = λ o h. k.opens o h ∙ j.opens o h }

module _ (F : Family) (law : Lawful F) (s : Site) (C : Circuit) where
  abbrev G : Group
  G = group F law

  -- tapes of the right length, as the laws of re-taping ask for them
  pub taped : (t : List ℕ) → Numbers F t (tapes_want C) → L.Taped G s C t
  taped t b = record { long = b.long ∙ sym (tapes_length C); good = draws_ok F law C t b.small }

  -- beyond the last input both are 0
  own_all : (x y : List ℕ) → Numbers F x C.ins → Numbers F y C.ins → Keeps F s C x y → (i : ℕ) → C.owner i ≡ s → at_wire y i ≡ at_wire x i
  own_all x y bx by k i e = go (ltb i C.ins) refl
    where
      go : (b : Bool) → ltb i C.ins ≡ b → at_wire y i ≡ at_wire x i
      go true q = k.own i (ltb-true _ _ q) e
      go false q =
          let h : C.ins ≤ i = ltb-false _ _ q in
          let lx = bx.long in let ly = by.long in
          get_or-eq_default y 0 (omega arith) ∙ sym (get_or-eq_default x 0 (omega arith))

  pub alike : (x y : List ℕ) → Numbers F x C.ins → Numbers F y C.ins → Keeps F s C x y → L.Kept G s C (at_wire x) (at_wire y)
  alike x y bx by k = record {
    ok_x = numbers_ok F law x bx.small;
    ok_y = numbers_ok F law y by.small;
    own = own_all x y bx by k;
    opens = λ o h.
        ap (λ (vs : List ℕ). get_or vs (C.out o) 0) (sym (law.values_are C y by.small)) ∙ k.opens o h
        ∙ ap (λ (vs : List ℕ). get_or vs (C.out o) 0) (law.values_are C x bx.small);
  }

  pub new_numbers : (x y t : List ℕ) → Numbers F x C.ins → Numbers F y C.ins → Numbers F t (tapes_want C)
      → Numbers F (new_tapes F.ops s C (at_wire x) (at_wire y) t) (tapes_want C)
  new_numbers x y t bx by bt = record {
    long = L.new_length G s C (at_wire x) (at_wire y) t ∙ tapes_length C;
    small = L.new_in G law.closed s C (at_wire x) (at_wire y) t bx.small by.small bt.small;
  }

  -- equal views: own and opened numbers are kept
  pub view_keeps : (x y t u : List ℕ) → Numbers F x C.ins → Numbers F y C.ins → Numbers F t (tapes_want C) → Numbers F u (tapes_want C)
      → view_from F.ops s C (at_wire y) u ≡ view_from F.ops s C (at_wire x) t → Keeps F s C x y
  view_keeps x y t u bx by bt bu e =
      let h : Shown G s C (at_wire x) (at_wire y) (read C t) (read C u) =
      L.view_shows G s C t u (taped t bt) (taped u bu) (numbers_ok F law x bx.small) (numbers_ok F law y by.small) e in
      record {
        own = h.own;
        opens = λ o q.
            ap (λ (vs : List ℕ). get_or vs (C.out o) 0) (law.values_are C y by.small) ∙ h.opens o q
            ∙ sym (ap (λ (vs : List ℕ). get_or vs (C.out o) 0) (law.values_are C x bx.small));
      }
