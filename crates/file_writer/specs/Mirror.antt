-- What the writers leave in a lent buffer, as their contracts say it. No public contract cites it.
--     write at new l          l with new in it, from place at on
use Rattle.std.specs.Prelude.{List, ◌++◌, ℕ, ◌+◌, length, take, drop}

-- the rest is as it was, before and behind
unfoldable pub write : ℕ → List ℕ → List ℕ → List ℕ
write at new l = take at l ++ (new ++ drop (at + length new) l)
