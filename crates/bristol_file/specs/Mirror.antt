-- What the writers of a text's file say, by places in the text. No public contract cites these.
--     widths_in        the numbers that stand on a line from a place on
--     Widths           that these are so many numbers and nothing else
--     Seated           that the inputs' line begins at a place: how many values there are, then their widths, with a sum of I
--     Few              the limits
--     outs_of          our numbers of the highest wires
--     file_by          the file
use Rattle.std.specs.Prelude.{◌≡◌, List, [], ◌∷◌, ◌++◌, map, ℕ, ◌*◌, ◌-◌, ◌≤◌, length, take}
use Rattle.theory_files.specs.Written.{header_bytes, output_bytes}
use Rattle.bristol_text.specs.Lines.{Numbers, are, broken, numbers, total}
use Rattle.bristol_text.specs.Heard.{count_up}
use Rattle.bristol_text.specs.Renamed.{spread}
use Rattle.bristol_words.specs.Mirror.{words_at}
use Rattle.bristol_wires.specs.declared.Text.{Text}
use Rattle.bristol_wires.specs.Mirror.{ours_of}

unfoldable pub listed : Numbers → List ℕ
listed (are xs) = xs
listed broken = []

abbrev pub widths_in : List ℕ → ℕ → List ℕ
widths_in t at = listed (numbers (words_at t at))

pub record Widths (t : List ℕ) (at n : ℕ) : Type 0 where
  pub all : numbers (words_at t at) ≡ are (widths_in t at)
  pub many : length (widths_in t at) ≡ n

-- the widths behind the first number of a line
unfoldable pub behind_first : List ℕ → List ℕ
behind_first [] = []
behind_first (x ∷ xs) = xs

abbrev pub widths_of : List ℕ → ℕ → List ℕ
widths_of t seat = behind_first (widths_in t seat)

pub record Seated (t : List ℕ) (seat : ℕ) (owners : List ℕ) (x : Text) : Type 0 where
  pub all : numbers (words_at t seat) ≡ are (length owners ∷ widths_of t seat)
  pub many : length (widths_of t seat) ≡ length owners
  pub sum : total (widths_of t seat) ≡ x.ins

-- 01's limits, and outputs among the wires
pub record Few (x : Text) : Type 0 where
  pub ins : x.ins ≤ 1024
  pub gates : x.made ≤ 3072
  pub outs : x.outs ≤ 256
  pub highest : x.outs ≤ x.wires

abbrev pub outs_of : List ℕ → Text → List ℕ
outs_of m t = map (ours_of m t.ins) (count_up (t.wires - t.outs) t.outs)

unfoldable pub file_by : List ℕ → ℕ → List ℕ → Text → List ℕ → List ℕ → List ℕ
file_by text seat owners t m g =
    header_bytes t.ins t.made t.outs ++ (spread owners (widths_of text seat) ++ (take (6 * t.made) g ++ output_bytes (outs_of m t)))
