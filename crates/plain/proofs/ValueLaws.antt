-- What the passes leave are the plain values.
--     kind_law                     a gate's value by the table is its Boolean value
--     inputs_law, gates_law        buffers after the first k inputs, and after the first k gates
--     read_gate                    a step with what was read of a gate is a step with what stands in the file
--     values_law                   both passes, at the counts that the code holds
-- Assumes nothing.
use mathlib.Core.Path.{◌≡◌, refl, sym, ap, ap₂, ◌∙◌, subst}
use mathlib.Core.Bool.{Bool, true, false, not, ◌&&◌, ◌||◌, xor}
use mathlib.Core.List.{List, [], ◌∷◌, ◌++◌, map}
use Prim.Native.Nat.{ℕ, zero, suc, ◌+◌, ◌<◌, ◌≤◌}
use native.Mathlib.Omega.{arith}
use lib.ListN.{length, get_or, set, length-map, get_or-map}
use Rattle.theory_sharing.specs.Circuit.{Circuit, wires}
use Rattle.theory_sharing.specs.Store.{fill}
use Rattle.theory_sharing.proofs.Parts.{map_snoc}
use Rattle.theory_sharing.proofs.StoreLaws.{fill_one, fill_read, fill_all}
use Rattle.theory_calls.specs.File.{inputs_of, gates_of, kind_at, first_at, second_at, gate_of, circuit}
use Rattle.theory_calls.specs.Plain.{bit, byte, plain_gate, plain_inputs, plain_values, plain}
use Rattle.theory_calls.proofs.PlainLaws.{inputs_length, values_length, plain_length}
use Rattle.file_header.specs.declared.Counts.{Counts}
use Rattle.file_parts.specs.declared.Gate.{Gate}
use Rattle.file_parts.specs.Mirror.{gate_stored}
use Rattle.file_parts.specs.Checked.{Checked}
use Rattle.file_parts.proofs.CheckedLaws.{operands_lower, kind_good}
use Rattle.file_parts.specs.Loop.{up_to}
use Rattle.plain.specs.Mirror.{kind_value, inputs_on, gate_on, gates_on}

-- the four rows of the table
row_xor : (a b : Bool) → kind_value 1 (byte a) (byte b) ≡ byte (xor a b)
unfolding kind_value byte xor
row_xor true true = refl
row_xor true false = refl
row_xor false true = refl
row_xor false false = refl

row_and : (a b : Bool) → kind_value 2 (byte a) (byte b) ≡ byte (a && b)
unfolding kind_value byte
row_and true true = refl
row_and true false = refl
row_and false true = refl
row_and false false = refl

row_not : (a b : Bool) → kind_value 3 (byte a) (byte b) ≡ byte (not a)
unfolding kind_value byte
row_not true true = refl
row_not true false = refl
row_not false true = refl
row_not false false = refl

row_or : (a b : Bool) → kind_value 4 (byte a) (byte b) ≡ byte (a || b)
unfolding kind_value byte
row_or true true = refl
row_or true false = refl
row_or false true = refl
row_or false false = refl

pub kind_law : (kind a b : ℕ) (vs : List Bool) → (1 ≤ kind) × (kind ≤ 4)
    → kind_value kind (byte (get_or vs a false)) (byte (get_or vs b false)) ≡ byte (plain_gate (gate_of kind a b) vs)
unfolding plain_gate gate_of
kind_law zero a b vs h = let l = h.0 in absurd (omega arith)
kind_law (suc zero) a b vs h = row_xor (get_or vs a false) (get_or vs b false)
kind_law (suc (suc zero)) a b vs h = row_and (get_or vs a false) (get_or vs b false)
kind_law (suc (suc (suc zero))) a b vs h = row_not (get_or vs a false) (get_or vs b false)
kind_law (suc (suc (suc (suc zero)))) a b vs h = row_or (get_or vs a false) (get_or vs b false)
kind_law (suc (suc (suc (suc (suc n))))) a b vs h = let l = h.1 in absurd (omega arith)

-- what was written is read back
wire_read : (old : List ℕ) (vs : List Bool) (w : ℕ) → w < length vs → get_or (fill old (map byte vs)) w 0 ≡ byte (get_or vs w false)
unfolding byte
wire_read old vs w h = fill_read old (map byte vs) w (let e = length-map vs byte in omega arith) ∙ get_or-map byte vs w false

-- the next wire is written
wire_on : (old : List ℕ) (vs : List Bool) (k : ℕ) (v : Bool) → length vs ≡ k → k < length old → set (fill old (map byte vs)) k (byte v) ≡ fill old (map byte (vs ++ (v ∷ [])))
wire_on old vs k v e h = fill_one old (map byte vs) k (byte v) (length-map vs byte ∙ e) h ∙ ap (fill old) (sym (map_snoc byte vs v))

module _ (f xs old : List ℕ) where
  abbrev C : Circuit
  C = circuit f

  abbrev laid : ℕ → List ℕ
  laid g = fill old (map byte (plain_values C xs g))

  inputs_law : (k : ℕ) → k ≤ length old → inputs_on xs old k ≡ fill old (map byte (plain_inputs xs k))
  unfolding up_to plain_inputs fill
  inputs_law zero h = refl
  inputs_law (suc k) h =
      ap (λ (z : List ℕ). set z k (byte (bit (get_or xs k 0)))) (inputs_law k (omega arith))
      ∙ wire_on old (plain_inputs xs k) k (bit (get_or xs k 0)) (inputs_length C xs k) (omega arith)

  module _ (t : (k : ℕ) → k < gates_of f → (1 ≤ kind_at f (inputs_of f) k) × (kind_at f (inputs_of f) k ≤ 4)) (d : (k : ℕ) → k < gates_of f → (first_at f (inputs_of f) k < inputs_of f + k) × (second_at f (inputs_of f) k < inputs_of f + k)) (l : length old ≡ wires C) where
    gate_law : (g : ℕ) → g < gates_of f → gate_on f (inputs_of f) g (laid g) ≡ laid (suc g)
    unfolding gate_on plain_values
    gate_law g h =
        let vs : List Bool = plain_values C xs g in
        let e = values_length C xs g in
        let i : ℕ = inputs_of f in
        let p = d g h in
        ap₂ (λ (x y : ℕ). set (laid g) (i + g) (kind_value (kind_at f i g) x y)) (wire_read old vs (first_at f i g) (omega arith)) (wire_read old vs (second_at f i g) (omega arith))
        ∙ ap (set (laid g) (i + g)) (kind_law (kind_at f i g) (first_at f i g) (second_at f i g) vs (t g h))
        ∙ wire_on old vs (i + g) (plain_gate (C.gate g) vs) e (omega arith)

    gates_law : (g : ℕ) → g ≤ gates_of f → gates_on f (inputs_of f) (laid 0) g ≡ laid g
    unfolding up_to
    gates_law zero h = refl
    gates_law (suc g) h = ap (gate_on f (inputs_of f) g) (gates_law g (omega arith)) ∙ gate_law g (omega arith)

    both_passes : gates_on f (inputs_of f) (inputs_on xs old (inputs_of f)) (gates_of f) ≡ plain C xs
    unfolding plain plain_values
    both_passes =
        ap (λ (z : List ℕ). gates_on f (inputs_of f) z (gates_of f)) (inputs_law (inputs_of f) (omega arith))
        ∙ gates_law (gates_of f) (omega arith) ∙ fill_all old (plain C xs) (plain_length C xs ∙ sym l)

-- ---- as the code meets them

-- a step with what was read of a gate
pub read_gate : (f vs : List ℕ) (c : Counts) (k v : ℕ) (g : Gate) → g ≡ gate_stored f c k → v ≡ kind_value g.kind (get_or vs g.first 0) (get_or vs g.second 0)
    → set vs (c.inputs + k) v ≡ gate_on f c.inputs k vs
unfolding gate_on
read_gate f vs c k v g e m = ap (set vs (c.inputs + k)) (m ∙ ap (λ (z : Gate). kind_value z.kind (get_or vs z.first 0) (get_or vs z.second 0)) e)

-- both passes, at the counts that the code holds
pub values_law : (f xs old vs vs' : List ℕ) (c : Counts) → Checked f c → length xs ≡ c.inputs → length old ≡ c.inputs + c.gates
    → vs ≡ inputs_on xs old (length xs) → vs' ≡ gates_on f c.inputs vs c.gates → vs' ≡ plain (circuit f) xs
values_law f xs old vs vs' c k x l e q =
    let o = k.opened in
    let i = o.ins_are in
    let g = o.gates_are in
    q ∙ ap (λ (z : List ℕ). gates_on f c.inputs z c.gates) (e ∙ ap (inputs_on xs old) x)
    ∙ (λ j. gates_on f (i j) (inputs_on xs old (i j)) (g j))
    ∙ both_passes f xs old (λ n h. kinds n h) (λ n h. at_file n h) (omega arith)
  where
    kinds : (n : ℕ) → n < gates_of f → (1 ≤ kind_at f (inputs_of f) n) × (kind_at f (inputs_of f) n ≤ 4)
    kinds n h = let g = k.opened.gates_are in subst (λ (i : ℕ). (1 ≤ kind_at f i n) × (kind_at f i n ≤ 4)) k.opened.ins_are (kind_good _ _ _ _ (k.gates n (omega arith)))

    at_file : (n : ℕ) → n < gates_of f → (first_at f (inputs_of f) n < inputs_of f + n) × (second_at f (inputs_of f) n < inputs_of f + n)
    at_file n h = let g = k.opened.gates_are in subst (λ (i : ℕ). (first_at f i n < i + n) × (second_at f i n < i + n)) k.opened.ins_are (operands_lower _ _ _ _ (k.gates n (omega arith)))
