-- A line's fault is 15, 16 or 17, and the call is refused by the first.
--     fault_numbers, fault_at_numbers    where it is none it is 0: of a line behind others, and of a text's line by its number
--     room_first, line_first             the refusals by its first check, the room's, and by its second, the lines'
-- Assumes nothing.
use mathlib.Core.Path.{◌≡◌, refl, sym, ap, ◌∙◌, subst}
use mathlib.Core.Bool.{Bool, true, false, cond, not, ◌&&◌}
use mathlib.Core.Logic.{◌↔◌}
use mathlib.Core.List.{List, [], ◌∷◌}
use Prim.Native.Nat.{ℕ, zero, suc, ◌<◌, ◌≤◌}
use native.Mathlib.Omega.{arith}
use lib.ListN.{length, get_or, take}
use lib.Dec.{ltb, eqb}
use borrow.Author.Tests.{eqb-true, eqb-false, ne_eqb, not-true}
use Rattle.theory_calls.specs.Checks.{Refusal, Holds, row_buffer}
use Rattle.theory_calls.specs.Refusal.{check, FirstRefusal}
use Rattle.bristol_text.specs.Words.{lines}
use Rattle.bristol_text.specs.Lines.{Line, blank, bad, counts, widths, other_word, xor_gate, and_gate, inv_gate, eqw_gate}
use Rattle.bristol_text.specs.Heard.{Heard, heard, says, written, line_fault}
use Rattle.bristol_text.specs.Call.{fault_at, lines_check, text_checks, room_bytes, FromBristol}

abbrev Numbered : ℕ → Type 0
Numbered n = ¬ (n ≡ 0) → (15 ≤ n) × (n ≤ 17)

sixteen : (b : Bool) → Numbered (cond b 16 15)
sixteen true = omega arith
sixteen false = omega arith

seventeen : (b c : Bool) → Numbered (cond b (cond c 0 17) 15)
seventeen true true = omega arith
seventeen true false = omega arith
seventeen false c = omega arith

pub fault_numbers : (h : Heard) (l : Line) → ¬ (line_fault h l ≡ 0) → (15 ≤ line_fault h l) × (line_fault h l ≤ 17)
unfolding line_fault
fault_numbers h blank = omega arith
fault_numbers h bad = omega arith
fault_numbers h (counts g w) = omega arith
fault_numbers h (widths ws) = omega arith
fault_numbers h other_word = sixteen (ltb (length h.gates) h.said)
fault_numbers h (xor_gate x y z) = seventeen (ltb (length h.gates) h.said) (written h x && written h y && not (written h z))
fault_numbers h (and_gate x y z) = seventeen (ltb (length h.gates) h.said) (written h x && written h y && not (written h z))
fault_numbers h (inv_gate x z) = seventeen (ltb (length h.gates) h.said) (written h x && not (written h z))
fault_numbers h (eqw_gate x z) = seventeen (ltb (length h.gates) h.said) (written h x && not (written h z))

pub fault_at_numbers : (ls : List (List ℕ)) (p : ℕ) → ¬ (fault_at ls p ≡ 0) → (15 ≤ fault_at ls p) × (fault_at ls p ≤ 17)
unfolding fault_at
fault_at_numbers ls zero = omega arith
fault_at_numbers ls (suc k) = fault_numbers (heard (take k ls)) (says (heard (take k ls)) (get_or ls k []))

-- 10 has one place
room_holds : (a b P : ℕ) → Holds (row_buffer (a ∷ []) (b ∷ [])) P ↔ ((P ≡ 0) × ¬ (a ≡ b))
unfolding Holds
room_holds a b zero = (λ h. (refl, eqb-false a b (not-true _ h.1)), λ h. (omega arith, rw (ne_eqb a b h.1)))
room_holds a b (suc p) = (λ h. absurd (let l = h.0 in omega arith), λ h. absurd (let e = h.0 in omega arith))

line_holds : (ls : List (List ℕ)) (P : ℕ) → Holds (lines_check ls).row P ↔ ((P ≤ length ls) × ¬ (fault_at ls P ≡ 0))
unfolding Holds
line_holds ls P = (λ h. (let l = h.0 in omega arith, eqb-false _ _ (not-true _ h.1)), λ h. (let l = h.0 in omega arith, rw (ne_eqb _ _ h.1)))

same : (a b : ℕ) → ¬ ¬ (a ≡ b) → a ≡ b
same a b h = go (eqb a b) refl
  where
    go : (t : Bool) → eqb a b ≡ t → a ≡ b
    go true e = eqb-true a b e
    go false e = absurd (h (eqb-false a b e))

module _ (text owners room : List ℕ) (N P : ℕ) where
  abbrev ls : List (List ℕ)
  ls = lines text

  abbrev cs : List Refusal
  cs = (FromBristol text owners room).checks

  pub room_first : ((r : FirstRefusal cs N P) × (r.which ≡ 0)) ↔ ((N ≡ 10) × (P ≡ 0) × ¬ (length room ≡ room_bytes))
  unfolding FromBristol text_checks
  room_first = (
    λ q.
        let r = q.0 in
        let h = (room_holds (length room) room_bytes P).0 (subst (λ (k : ℕ). Holds (check cs k).row P) q.1 r.holds) in
        (sym r.number ∙ ap (λ (k : ℕ). (check cs k).number P) q.1, h.0, h.1),
    λ q. (
      record {
        which = 0;
        concerns = omega arith;
        number = sym q.0;
        holds = (room_holds (length room) room_bytes P).1 (q.1, q.2);
        before = λ k Q l. absurd (omega arith);
        inside = λ Q l. absurd (let e = q.1 in omega arith);
      },
      refl,
    ),
  )

  pub line_first : ((r : FirstRefusal cs N P) × (r.which ≡ 1))
      ↔ ((length room ≡ room_bytes) × (P ≤ length ls) × (fault_at ls P ≡ N) × ¬ (N ≡ 0) × ((Q : ℕ) → Q < P → fault_at ls Q ≡ 0))
  unfolding FromBristol text_checks
  line_first = (there, back)
    where
      there : ((r : FirstRefusal cs N P) × (r.which ≡ 1))
          → (length room ≡ room_bytes) × (P ≤ length ls) × (fault_at ls P ≡ N) × ¬ (N ≡ 0) × ((Q : ℕ) → Q < P → fault_at ls Q ≡ 0)
      there q =
          let r = q.0 in
          let e = q.1 in
          let h = (line_holds ls P).0 (subst (λ (k : ℕ). Holds (check cs k).row P) e r.holds) in
          let n : fault_at ls P ≡ N = ap (λ (k : ℕ). (check cs k).number P) (sym e) ∙ r.number in (
            same _ _ (λ d. r.before 0 0 (omega (arith, e)) ((room_holds (length room) room_bytes 0).1 (refl, d))),
            h.0,
            n,
            λ z. h.1 (n ∙ z),
            λ Q l.
                same _ _ (λ d. subst (λ (k : ℕ). ¬ Holds (check cs k).row Q) e (r.inside Q l) ((line_holds ls Q).1 (let m = h.0 in omega arith, d))),
          )

      back : (length room ≡ room_bytes) × (P ≤ length ls) × (fault_at ls P ≡ N) × ¬ (N ≡ 0) × ((Q : ℕ) → Q < P → fault_at ls Q ≡ 0)
          → (r : FirstRefusal cs N P) × (r.which ≡ 1)
      back q = (
        record {
          which = 1;
          concerns = omega arith;
          number = q.2;
          holds = (line_holds ls P).1 (q.1, λ z. q.3 (sym q.2 ∙ z));
          before = first_clear;
          inside = λ Q l h. ((line_holds ls Q).0 h).1 (q.4 Q l);
        },
        refl,
      )
        where
          first_clear : (k Q : ℕ) → k < 1 → ¬ Holds (check cs k).row Q
          first_clear zero Q l h = ((room_holds (length room) room_bytes Q).0 h).1 q.0
          first_clear (suc k) Q l h = absurd (omega arith)
