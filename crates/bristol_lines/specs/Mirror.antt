-- What the functions on lines say, by places in a text. No public contract cites these.
--     LineFrom         a line read from a place on: what it says, and where it ends
--     counts_from, widths_from, gate_from    behind a first word: the definition on the words that are left
--     Summed, WiresRead    widths added up, wires read
use Rattle.std.specs.Prelude.{◌≡◌, cond, ◌&&◌, List, [], ◌∷◌, ℕ, zero, suc, ◌+◌, ◌≤◌, length, leb, ltb, eqb, Option, None, Some, IfSome}
use Rattle.bristol_text.specs.Words.{Number, is, none, number}
use Rattle.bristol_text.specs.Lines as text
use Rattle.bristol_text.specs.Told.{told}
use Rattle.bristol_words.specs.declared.Word.{Word}
use Rattle.bristol_words.specs.declared.GateWord.{GateWord}
use Rattle.bristol_words.specs.declared.GateWord.TheVariants as word
use Rattle.bristol_words.specs.Mirror.{words_at, line_end, told_number, word_of}
use Rattle.bristol_text.specs.declared.Says.{Says}
use Rattle.bristol_text.specs.declared.Says.TheVariants.{Other, Xor, And, Inv, Eqw}
use Rattle.bristol_lines.specs.declared.Line.{Line}
use Rattle.bristol_lines.specs.declared.Sum.{Sum}
use Rattle.bristol_lines.specs.declared.Wires.{Wires}

-- a place behind so many words of the line, and not behind its end
pub record Behind (t : List ℕ) (at end : ℕ) : Type 0 where
  pub inside : end ≤ length t
  pub line : line_end t end ≡ line_end t at

abbrev pub says_of : Option Line → Option Says
says_of None = None
says_of (Some r) = Some r.says

-- read from place at on
pub record LineFrom (t : List ℕ) (at : ℕ) (s : Option Says) (r : Option Line) : Type 0 where
  pub says : says_of r ≡ s
  pub ends : IfSome r (λ l. l.end ≡ line_end t at)

abbrev pub LineAt : List ℕ → ℕ → ℕ → ℕ → Option Line → Type 0
LineAt t at K W r = LineFrom t at (told (text.line_says K W (words_at t at))) r

-- behind a first word
abbrev pub counts_from : Word → List (List ℕ) → Option Says
counts_from f ws = told (text.counts_line (text.with_number (told_number f) (text.numbers ws)))

abbrev pub widths_from : ℕ → Word → List (List ℕ) → Option Says
widths_from W f ws = told (text.widths_line W (text.with_number (told_number f) (text.numbers ws)))

unfoldable pub gate_after : ℕ → Number → List (List ℕ) → Option Says
gate_after W i [] = None
gate_after W i (o ∷ ws) = told (text.with_counts W i (number o) ws)

abbrev pub gate_from : ℕ → Word → List (List ℕ) → Option Says
gate_from W f ws = gate_after W (told_number f) ws

-- the last three wires are all of a gate that reads two, and the last two are all of one that reads one
unfoldable pub gate_says : Option GateWord → ℕ → ℕ → ℕ → ℕ → ℕ → Option Says
gate_says None i o x y z = Some Other
gate_says (Some word.Xor) i o x y z = cond (eqb i 2 && eqb o 1) (Some (Xor x y z)) None
gate_says (Some word.And) i o x y z = cond (eqb i 2 && eqb o 1) (Some (And x y z)) None
gate_says (Some word.Inv) i o x y z = cond (eqb i 1 && eqb o 1) (Some (Inv y z)) None
gate_says (Some word.Eqw) i o x y z = cond (eqb i 1 && eqb o 1) (Some (Eqw y z)) None

-- so many widths added to a sum, and the words that are left
pub data Left : Type 0 where
  left : ℕ → List (List ℕ) → Left
  none_left : Left

unfoldable pub sum_number : ℕ → ℕ → Number → (ℕ → Left) → Left
sum_number W s none go = none_left
sum_number W s (is x) go = cond (leb (s + x) W) (go (s + x)) none_left

unfoldable pub sums : ℕ → ℕ → ℕ → List (List ℕ) → Left
sums W zero s ws = left s ws
sums W (suc n) s [] = none_left
sums W (suc n) s (w ∷ ws) = sum_number W s (number w) (λ t. sums W n t ws)

-- what a Sum stands for, at its place of a text
abbrev pub sum_left : List ℕ → Option Sum → Left
sum_left t None = none_left
sum_left t (Some r) = left r.sum (words_at t r.end)

pub record Summed (t : List ℕ) (at n W : ℕ) (r : Option Sum) : Type 0 where
  pub same : sum_left t r ≡ sums W n 0 (words_at t at)
  pub place : IfSome r (λ s. Behind t at s.end)

-- so many wires, of which the last three are kept, and the words that are left
pub data Kept : Type 0 where
  kept : ℕ → ℕ → ℕ → List (List ℕ) → Kept
  none_kept : Kept

unfoldable pub keep_number : ℕ → Number → (ℕ → Kept) → Kept
keep_number W none go = none_kept
keep_number W (is x) go = cond (ltb x W) (go x) none_kept

unfoldable pub keeps : ℕ → ℕ → ℕ → ℕ → ℕ → List (List ℕ) → Kept
keeps W zero x y z ws = kept x y z ws
keeps W (suc n) x y z [] = none_kept
keeps W (suc n) x y z (w ∷ ws) = keep_number W (number w) (λ v. keeps W n y z v ws)

abbrev pub wires_kept : List ℕ → Option Wires → Kept
wires_kept t None = none_kept
wires_kept t (Some r) = kept r.x r.y r.z (words_at t r.end)

pub record WiresRead (t : List ℕ) (at n W : ℕ) (r : Option Wires) : Type 0 where
  pub same : wires_kept t r ≡ keeps W n 0 0 0 (words_at t at)
  pub place : IfSome r (λ w. Behind t at w.end)

-- behind the wires
unfoldable pub word_says : ℕ → ℕ → ℕ → ℕ → ℕ → List (List ℕ) → Option Says
word_says i o x y z [] = None
word_says i o x y z (w ∷ []) = gate_says (word_of (text.gate_word w)) i o x y z
word_says i o x y z (w ∷ v ∷ ws) = None

abbrev pub wires_from : ℕ → ℕ → Wires → List (List ℕ) → Option Says
wires_from i o w ws = word_says i o w.x w.y w.z ws
