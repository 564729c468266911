-- What lines without a fault leave.
--     Sane             at most 8,192 wires, neither sum of widths above them, and gate lines that run in order on wires below them
--     none_sane        before the first line;  sane_hears: one more line;  sane_from: all lines
--     two_joins, one_joins    what 17 is tested for;  fault_from: the fault of line k
--     good_sane        a good text
-- Assumes nothing.
use mathlib.Core.Path.{◌≡◌, refl}
use mathlib.Core.Bool.{Bool, true, false, not, cond, ◌&&◌}
use mathlib.Core.List.{List, [], ◌∷◌}
use Prim.Native.Nat.{ℕ, zero, suc, ◌<◌, ◌≤◌}
use native.Mathlib.Omega.{arith}
use lib.ListN.{length, get_or, take}
use lib.Dec.{ltb}
use borrow.Author.Tests.{not-true}
use Rattle.theory_calls.proofs.Limits.{and_first, and_second}
use Rattle.bristol_text.specs.Words.{words}
use Rattle.bristol_text.specs.Lines.{Line, blank, bad, counts, widths, other_word, xor_gate, and_gate, inv_gate, eqw_gate, total}
use Rattle.bristol_text.specs.Heard.{Heard, nothing_heard, hear_widths, hear_gate, hear, says, heard_from, heard, written, two_fault, one_fault, within, line_fault}
use Rattle.bristol_text.specs.Order.{Old, New, Joins, Runs, none, more}
use Rattle.bristol_text.specs.Call.{fault_at}
use Rattle.bristol_text.proofs.LineLaws.{Said, line_told}
use Rattle.bristol_text.specs.Good.{Good}

pub record Sane (h : Heard) : Type 0 where
  pub few_wires : h.wires ≤ 8192
  pub ins_fit : total h.ins ≤ h.wires
  pub outs_fit : total h.outs ≤ h.wires
  pub runs : Runs (total h.ins) h.wires h.gates
  pub before_gates : h.stage < 3 → h.gates ≡ []
  pub before_widths : h.stage ≡ 0 → (h.ins ≡ []) × (h.outs ≡ [])

-- a fault that is none
no_fault : (b : Bool) (n : ℕ) → cond b n 15 ≡ 0 → n ≡ 0
no_fault true n e = e
no_fault false n e = absurd (omega arith)

holds : (b : Bool) → ◌≡◌ {A = ℕ} (cond b 0 17) 0 → b ≡ true
holds true e = refl
holds false e = absurd (omega arith)

pub none_sane : Sane nothing_heard
unfolding nothing_heard total
none_sane = record {
  few_wires = omega arith;
  ins_fit = omega arith;
  outs_fit = omega arith;
  runs = none;
  before_gates = λ l. refl;
  before_widths = λ e. (refl, refl);
}

module _ (h : Heard) (s : Sane h) where
  counts_sane : (g w : ℕ) → h.stage ≡ 0 → w ≤ 8192 → Sane (record { stage = 1; said = g; wires = w; ins = h.ins; outs = h.outs; gates = h.gates })
  unfolding total
  counts_sane g w e l =
      let q = s.before_widths e in
      let gs : h.gates ≡ [] = s.before_gates (omega arith) in
      record {
        few_wires = l;
        ins_fit = rw q.0 (omega arith);
        outs_fit = rw q.1 (omega arith);
        runs = rw gs none;
        before_gates = λ k. gs;
        before_widths = λ k. absurd (omega arith);
      }

  widths_sane : (ws : List ℕ) (K : ℕ) → h.stage ≡ K → 0 < K → K < 3 → total ws ≤ h.wires → Sane (hear_widths K h ws)
  unfolding hear_widths
  widths_sane ws zero e a b l = absurd (omega arith)
  widths_sane ws (suc zero) e a b l =
      let gs : h.gates ≡ [] = s.before_gates (omega arith) in
      record {
        few_wires = s.few_wires;
        ins_fit = l;
        outs_fit = s.outs_fit;
        runs = rw gs none;
        before_gates = λ k. gs;
        before_widths = λ k. absurd (omega arith);
      }
  widths_sane ws (suc (suc k)) e a b l =
      record {
        few_wires = s.few_wires;
        ins_fit = s.ins_fit;
        outs_fit = l;
        runs = s.runs;
        before_gates = λ k. absurd (omega arith);
        before_widths = λ k. absurd (omega arith);
      }

  gate_sane : (l : Line) → 2 < h.stage → Joins (total h.ins) h.wires h.gates l → Sane (hear_gate h l)
  gate_sane l late j = record {
    few_wires = s.few_wires;
    ins_fit = s.ins_fit;
    outs_fit = s.outs_fit;
    runs = more s.runs l j;
    before_gates = λ k. absurd (omega arith);
    before_widths = λ k. absurd (omega arith);
  }

  abbrev I : ℕ
  I = total h.ins

  abbrev W : ℕ
  W = h.wires

  -- what 17 is tested for
  pub two_joins : (x y z : ℕ) → within h (two_fault h x y z) ≡ 0 → x < W → y < W → z < W → Old I W h.gates x × Old I W h.gates y × New I W h.gates z
  two_joins x y z f a b c =
      let e = holds (written h x && written h y && not (written h z)) (no_fault (ltb (length h.gates) h.said) _ f) in
      let xy = and_first (written h x && written h y) _ e in
      ((a, and_first (written h x) _ xy), (b, and_second (written h x) _ xy), (c, not-true _ (and_second (written h x && written h y) _ e)))

  pub one_joins : (x z : ℕ) → within h (one_fault h x z) ≡ 0 → x < W → z < W → Old I W h.gates x × New I W h.gates z
  one_joins x z f a c =
      let e = holds (written h x && not (written h z)) (no_fault (ltb (length h.gates) h.said) _ f) in
      ((a, and_first (written h x) _ e), (c, not-true _ (and_second (written h x) _ e)))

  pub sane_hears : (l : Line) → Said h.stage W l → line_fault h l ≡ 0 → Sane (hear h l)
  unfolding hear line_fault Said Joins
  sane_hears blank t f = s
  sane_hears bad t f = s
  sane_hears (counts g w) t f = counts_sane g w t.0 t.1
  sane_hears (widths ws) t f = widths_sane ws h.stage refl t.0 t.1 t.2
  sane_hears other_word t f = s
  sane_hears (xor_gate x y z) t f = gate_sane (xor_gate x y z) t.0 (two_joins x y z f t.1 t.2 t.3)
  sane_hears (and_gate x y z) t f = gate_sane (and_gate x y z) t.0 (two_joins x y z f t.1 t.2 t.3)
  sane_hears (inv_gate x z) t f = gate_sane (inv_gate x z) t.0 (one_joins x z f t.1 t.2)
  sane_hears (eqw_gate x z) t f = gate_sane (eqw_gate x z) t.0 (one_joins x z f t.1 t.2)

-- line k behind those before it
abbrev pub fault_from : Heard → List (List ℕ) → ℕ → ℕ
fault_from h ls k = line_fault (heard_from h (take k ls)) (says (heard_from h (take k ls)) (get_or ls k []))

sane_from : (ls : List (List ℕ)) (h : Heard) → Sane h → ((k : ℕ) → k < length ls → fault_from h ls k ≡ 0) → Sane (heard_from h ls)
unfolding heard_from
sane_from [] h s f = s
sane_from (l ∷ ls) h s f =
    sane_from ls (hear h (says h l)) (sane_hears h s (says h l) (line_told h.stage h.wires (words l)) (f 0 (omega arith))) (λ k q. f (suc k) (omega arith))

pub good_sane : (ls : List (List ℕ)) (owners : List ℕ) → Good ls owners → Sane (heard ls)
unfolding fault_at
good_sane ls owners g = sane_from ls nothing_heard none_sane (λ k q. g.faultless (suc k) (omega arith))
