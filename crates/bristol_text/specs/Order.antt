-- Words of the theorems about a text: its gate lines in order, and our numbers of its wires.
--     Joins, Runs       no "wire read before it is written or written twice": each line reads known wires and writes a new one, all below W
--     our_gates f ls    the gates of lines ls on our numbers f of their wires: "XOR, AND and INV map to ours in the text's order; EQW renames a wire"
--     Takes f n l       the number of the wire that a line writes: that of the wire read, as "EQW renames a wire", and n for any other gate
--     Named             a number of ours, and the written wire of the text that has it
use Rattle.std.specs.Prelude.{◌≡◌, true, false, List, [], ◌∷◌, ◌++◌, ℕ, ◌<◌}
use Rattle.theory_files.specs.Written.{Numbers3}
use Rattle.bristol_text.specs.Lines.{Line, blank, bad, counts, widths, other_word, xor_gate, and_gate, inv_gate, eqw_gate}
use Rattle.bristol_text.specs.Heard.{Heard, known, written}
use Rattle.bristol_text.specs.Renamed.{renamed}

abbrev pub Old : ℕ → ℕ → List Line → ℕ → Type 0
Old I W ls x = (x < W) × (known I ls x ≡ true)

abbrev pub New : ℕ → ℕ → List Line → ℕ → Type 0
New I W ls z = (z < W) × (known I ls z ≡ false)

-- a gate line behind the lines ls
unfoldable pub Joins : ℕ → ℕ → List Line → Line → Type 0
Joins I W ls (xor_gate x y z) = Old I W ls x × Old I W ls y × New I W ls z
Joins I W ls (and_gate x y z) = Old I W ls x × Old I W ls y × New I W ls z
Joins I W ls (inv_gate x z) = Old I W ls x × New I W ls z
Joins I W ls (eqw_gate x z) = Old I W ls x × New I W ls z
Joins I W ls blank = ⊥
Joins I W ls bad = ⊥
Joins I W ls (counts g w) = ⊥
Joins I W ls (widths ws) = ⊥
Joins I W ls other_word = ⊥

-- all of them, from the first on
pub data Runs (I W : ℕ) : List Line → Type 0 where
  none : Runs I W []
  more : {ls : List Line} → Runs I W ls → (l : Line) → Joins I W ls l → Runs I W (ls ++ (l ∷ []))

unfoldable pub our_gate : (ℕ → ℕ) → Line → List Numbers3
our_gate f (xor_gate x y z) = (1, f x, f y) ∷ []
our_gate f (and_gate x y z) = (2, f x, f y) ∷ []
our_gate f (inv_gate x z) = (3, f x, 0) ∷ []
our_gate f (eqw_gate x z) = []
our_gate f blank = []
our_gate f bad = []
our_gate f (counts g w) = []
our_gate f (widths ws) = []
our_gate f other_word = []

unfoldable pub our_gates : (ℕ → ℕ) → List Line → List Numbers3
our_gates f [] = []
our_gates f (l ∷ ls) = our_gate f l ++ our_gates f ls

-- the number of the wire that a line writes, behind n wires of ours
unfoldable pub Takes : (ℕ → ℕ) → ℕ → Line → Type 0
Takes f n (xor_gate x y z) = f z ≡ n
Takes f n (and_gate x y z) = f z ≡ n
Takes f n (inv_gate x z) = f z ≡ n
Takes f n (eqw_gate x z) = f z ≡ f x
Takes f n blank = Unit {0}
Takes f n bad = Unit {0}
Takes f n (counts g w) = Unit {0}
Takes f n (widths ws) = Unit {0}
Takes f n other_word = Unit {0}

-- "Wires are numbered anew": no number below I + G is left out
pub record Named (h : Heard) (v : ℕ) : Type 0 where
  pub which : ℕ
  pub is_written : written h which ≡ true
  pub number : (renamed h).wire which ≡ v
