-- What the functions on words say, by places in a text. No public contract cites these.
--     lead p t                      how many bytes in front have p
--     rest_line, words_at, line_end what is left of a line from a place on, its words, and where it ends
--     told                          a number or none, as the definitions have it
--     word_in, told_number          a Word's bytes, and the number that it says
--     word_of                       the gate word by its number among the definitions, 0 for none
--     Next                          the next word of a line
use Rattle.std.specs.Prelude.{◌≡◌, Bool, not, cond, ◌||◌, List, [], ◌∷◌, ℕ, zero, suc, ◌+◌, ◌-◌, ◌<◌, ◌≤◌, length, take, drop, Option, None, Some}
use Rattle.bristol_text.specs.Words.{is_lf, is_gap, split, words, Number, is, none, number}
use Rattle.bristol_words.specs.declared.Word.{Word}
use Rattle.bristol_words.specs.declared.GateWord.{GateWord}
use Rattle.bristol_words.specs.declared.GateWord.TheVariants.{Xor, And, Inv, Eqw}

unfoldable pub lead : (ℕ → Bool) → List ℕ → ℕ
lead p [] = 0
lead p (b ∷ t) = cond (p b) (suc (lead p t)) 0

-- a byte of a word
abbrev pub is_part : ℕ → Bool
is_part b = not (is_gap b || is_lf b)

abbrev pub rest_line : List ℕ → ℕ → List ℕ
rest_line t i = (split is_lf (drop i t)).head

abbrev pub words_at : List ℕ → ℕ → List (List ℕ)
words_at t i = words (rest_line t i)

abbrev pub line_end : List ℕ → ℕ → ℕ
line_end t i = i + length (rest_line t i)

abbrev pub told : Option ℕ → Number
told None = none
told (Some v) = is v

abbrev pub word_in : List ℕ → Word → List ℕ
word_in t r = take (r.end - r.start) (drop r.start t)

abbrev pub told_number : Word → Number
told_number r = told r.number

unfoldable pub word_of : ℕ → Option GateWord
word_of zero = None
word_of (suc zero) = Some Xor
word_of (suc (suc zero)) = Some And
word_of (suc (suc (suc zero))) = Some Inv
word_of (suc (suc (suc (suc k)))) = Some Eqw

pub record Next (t : List ℕ) (at : ℕ) (r : Word) : Type 0 where
  pub above : at ≤ r.start
  pub order : r.start ≤ r.end
  pub inside : r.end ≤ length t
  pub line : line_end t r.end ≡ line_end t at
  pub number : told_number r ≡ number (word_in t r)
  pub last : r.start ≡ r.end → (words_at t at ≡ []) × (r.end ≡ line_end t at)
  pub more : r.start < r.end → words_at t at ≡ word_in t r ∷ words_at t r.end
