-- One more line behind others.
--     known_is, known_more, known_before, known_there    the wires that are written: those of before, and the line's own
--     rename_more, after_more, our_more    our numbers and gates, the text's values
--     new_apart, kept      a wire that is written is not the new one, and keeps its number
--     gates_grow           our gates grow by those of the line
-- Assumes nothing.
use mathlib.Core.Path.{◌≡◌, refl, sym, ap, ◌∙◌}
use mathlib.Core.Bool.{Bool, true, false, ◌||◌, true≢false}
use mathlib.Core.List.{List, [], ◌∷◌, ◌++◌, append-nil, append_assoc}
use Prim.Native.Nat.{ℕ}
use lib.Dec.{ltb, eqb}
use borrow.Author.Tests.{ne_eqb}
use Rattle.theory_files.specs.Written.{Numbers3}
use Rattle.bristol_text.specs.Lines.{Line, blank, bad, counts, widths, other_word, xor_gate, and_gate, inv_gate, eqw_gate}
use Rattle.bristol_text.specs.Heard.{known, writes, any_writes}
use Rattle.bristol_text.specs.Meaning.{wires_after, gates_after}
use Rattle.bristol_text.specs.Renamed.{Renamed, rename, rename_all}
use Rattle.bristol_text.specs.Order.{Joins, our_gate, our_gates}

or_assoc : (a b c : Bool) → (a || (b || c)) ≡ (a || b || c)
or_assoc true b c = refl
or_assoc false b c = refl

pub or_false : (a : Bool) → (a || false) ≡ a
or_false true = refl
or_false false = refl

pub or_true : (a b : Bool) → a ≡ true → (a || b) ≡ true
or_true true b e = refl
or_true false b e = absurd (true≢false (sym e))

any_more : (ls : List Line) (l : Line) (w : ℕ) → any_writes (ls ++ (l ∷ [])) w ≡ (any_writes ls w || writes l w)
unfolding any_writes
any_more [] l w = or_false (writes l w)
any_more (m ∷ ls) l w = ap (λ (b : Bool). writes m w || b) (any_more ls l w) ∙ or_assoc (writes m w) (any_writes ls w) (writes l w)

pub rename_more : (I : ℕ) (r : Renamed) (ls : List Line) (l : Line) → rename_all I r (ls ++ (l ∷ [])) ≡ rename I (rename_all I r ls) l
unfolding rename_all
rename_more I r [] l = refl
rename_more I r (m ∷ ls) l = rename_more I (rename I r m) ls l

pub after_more : (e : ℕ → Bool) (ls : List Line) (l : Line) → gates_after e (ls ++ (l ∷ [])) ≡ wires_after (gates_after e ls) l
unfolding gates_after
after_more e [] l = refl
after_more e (m ∷ ls) l = after_more (wires_after e m) ls l

pub our_more : (f : ℕ → ℕ) (ls : List Line) (l : Line) → our_gates f (ls ++ (l ∷ [])) ≡ our_gates f ls ++ our_gate f l
unfolding our_gates
our_more f [] l = append-nil (our_gate f l)
our_more f (m ∷ ls) l = ap (λ (z : List Numbers3). our_gate f m ++ z) (our_more f ls l) ∙ sym (append_assoc (our_gate f m) (our_gates f ls) (our_gate f l))

-- the wires that are written behind one more line
module _ (I : ℕ) (ls : List Line) (l : Line) where
  pub known_is : (w : ℕ) → known I (ls ++ (l ∷ [])) w ≡ (known I ls w || writes l w)
  known_is w = ap (λ (b : Bool). ltb w I || b) (any_more ls l w) ∙ or_assoc (ltb w I) (any_writes ls w) (writes l w)

  pub known_more : (w : ℕ) → known I ls w ≡ true → known I (ls ++ (l ∷ [])) w ≡ true
  known_more w e = known_is w ∙ or_true (known I ls w) (writes l w) e

  pub known_before : (w : ℕ) → known I (ls ++ (l ∷ [])) w ≡ true → writes l w ≡ false → known I ls w ≡ true
  known_before w e n = sym (or_false (known I ls w)) ∙ ap (λ (b : Bool). known I ls w || b) (sym n) ∙ sym (known_is w) ∙ e

  pub known_there : (w : ℕ) → writes l w ≡ true → known I (ls ++ (l ∷ [])) w ≡ true
  known_there w e = known_is w ∙ ap (λ (b : Bool). known I ls w || b) e ∙ last (known I ls w)
    where
      last : (b : Bool) → (b || true) ≡ true
      last true = refl
      last false = refl

-- what is put at a new wire leaves those that were written
pub new_apart : (I : ℕ) (ls : List Line) (w z : ℕ) → known I ls w ≡ true → known I ls z ≡ false → eqb w z ≡ false
new_apart I ls w z a b = ne_eqb w z (λ e. true≢false (sym a ∙ ap (known I ls) e ∙ b))

pub kept : (I W : ℕ) (ls : List Line) (l : Line) (r : Renamed) → Joins I W ls l → (w : ℕ) → known I ls w ≡ true → (rename I r l).wire w ≡ r.wire w
unfolding Joins rename
kept I W ls (xor_gate x y z) r j w e = rw (new_apart I ls w z e j.2.1)
kept I W ls (and_gate x y z) r j w e = rw (new_apart I ls w z e j.2.1)
kept I W ls (inv_gate x z) r j w e = rw (new_apart I ls w z e j.1.1)
kept I W ls (eqw_gate x z) r j w e = rw (new_apart I ls w z e j.1.1)
kept I W ls blank r j w e = refl
kept I W ls bad r j w e = refl
kept I W ls (counts g v) r j w e = refl
kept I W ls (widths ws) r j w e = refl
kept I W ls other_word r j w e = refl

-- our gates grow by those of the line
pub gates_grow : (I : ℕ) (r : Renamed) (l : Line) → (rename I r l).gates ≡ r.gates ++ our_gate r.wire l
unfolding rename our_gate
gates_grow I r (xor_gate x y z) = refl
gates_grow I r (and_gate x y z) = refl
gates_grow I r (inv_gate x z) = refl
gates_grow I r (eqw_gate x z) = sym (append-nil r.gates)
gates_grow I r blank = sym (append-nil r.gates)
gates_grow I r bad = sym (append-nil r.gates)
gates_grow I r (counts g w) = sym (append-nil r.gates)
gates_grow I r (widths ws) = sym (append-nil r.gates)
gates_grow I r other_word = sym (append-nil r.gates)
