-- What inner functions compute: the lengths from the counts.
use Rattle.std.specs.Prelude.{[], ◌∷◌, ℕ, ◌+◌, ◌*◌}
use Rattle.door_answers.specs.declared.SizesAnswer.{SizesAnswer}

abbrev pub sizes_from : ℕ → ℕ → ℕ → ℕ → ℕ → ℕ → ℕ → SizesAnswer
sizes_from i g o a s1 s2 s3 = record {
  number = 0;
  place = 0;
  inputs = i;
  tapes = 2 * i + 6 * a;
  line = 4 * i + 12 * a + 6 * o;
  values = i + g;
  outputs = 3 * o;
  transcript = 4 * i + 12 * a + 6 * o;
  store = 6 * (i + g);
  view = (2 * i + s1 + 6 * a + 3 * o) ∷ (2 * i + s2 + 6 * a + 3 * o) ∷ (2 * i + s3 + 6 * a + 3 * o) ∷ [];
  room = 4 * (i + g);
}
