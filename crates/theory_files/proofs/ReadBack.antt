-- What is read from a file that was written: the numbers that went into it. Nothing is asked of them.
--     length_file        its length is the one that its counts ask for
--     inputs_read .. zero_read     the header's eight fields
--     owner_read         owner k;  kind_read, first_read, second_read: gate k;  output_read: output k
-- Assumes nothing.
use mathlib.Core.Path.{◌≡◌, refl, ap, ap₂, ◌∙◌}
use mathlib.Core.List.{List, [], ◌∷◌, ◌++◌}
use Prim.Native.Nat.{ℕ, zero, suc, ◌+◌, ◌*◌, ◌/◌, ◌%◌, ◌<◌, ◌≤◌}
use native.Mathlib.Omega.{arith}
use lib.ListN.{length, get_or, drop, length-append, get_or-append}
use lib.Seq.{get_or-append-add, drop-cons}
use Rattle.theory_calls.specs.File.{le16, le32, inputs_of, gates_of, outputs_of, gates_start, outputs_start, size, owner_at, kind_at, first_at, second_at, output_at}
use Rattle.theory_files.specs.Written.{two, four, header_bytes, Numbers3, gate_bytes, output_bytes, file_of}

-- two bytes, and four, whatever the number
two_reads : (n : ℕ) → n % 256 + 256 * (n / 256) ≡ n
two_reads n = omega arith

four_reads : (n : ℕ)
    → n % 65536 % 256 + 256 * (n % 65536 / 256) + 65536 * (n / 65536 % 256 + 256 * (n / 65536 / 256)) ≡ n
four_reads n = let a = two_reads (n % 65536) in let b = two_reads (n / 65536) in omega arith

-- a number behind a part
le16_behind : (xs ys : List ℕ) (n : ℕ) → le16 (xs ++ ys) (length xs + n) ≡ le16 ys n
unfolding le16
le16_behind xs ys n =
    let e : length xs + n + 1 ≡ length xs + (n + 1) = omega arith in
    ap₂ (λ (a b : ℕ). a + 256 * b) (get_or-append-add xs ys n 0) (ap (λ (k : ℕ). get_or (xs ++ ys) k 0) e ∙ get_or-append-add xs ys (n + 1) 0)

le16_at : (xs ys : List ℕ) (at n : ℕ) → at ≡ length xs + n → le16 (xs ++ ys) at ≡ le16 ys n
le16_at xs ys at n e = ap (le16 (xs ++ ys)) e ∙ le16_behind xs ys n

-- the parts' lengths
pub length_header : (i g o : ℕ) → length (header_bytes i g o) ≡ 32
unfolding header_bytes four two
length_header i g o = refl

length_gates : (gs : List Numbers3) → length (gate_bytes gs) ≡ 6 * length gs
unfolding gate_bytes two
length_gates [] = refl
length_gates (g ∷ gs) = let h = length_gates gs in omega arith

length_outs : (ws : List ℕ) → length (output_bytes ws) ≡ 2 * length ws
unfolding output_bytes two
length_outs [] = refl
length_outs (w ∷ ws) = let h = length_outs ws in omega arith

-- the gates from gate k on, and gate k in front of those behind it
module _ (post : List ℕ) where
  gates_from : (gs : List Numbers3) (k n : ℕ) → k ≤ length gs → le16 (gate_bytes gs ++ post) (6 * k + n) ≡ le16 (gate_bytes (drop k gs) ++ post) n
  unfolding gate_bytes two
  gates_from gs zero n h = ap (le16 (gate_bytes gs ++ post)) (omega arith)
  gates_from [] (suc k) n h = absurd (omega arith)
  gates_from (g ∷ gs) (suc k) n h =
      le16_at (two g.0 ++ (two g.1 ++ two g.2)) (gate_bytes gs ++ post) (6 * suc k + n) (6 * k + n) (omega arith)
      ∙ gates_from gs k n (omega arith)

  gate_at : (gs : List Numbers3) (k at n : ℕ) → k < length gs → at ≡ 6 * k + n
      → le16 (gate_bytes gs ++ post) at ≡ le16 (gate_bytes (get_or gs k (0, 0, 0) ∷ drop (suc k) gs) ++ post) n
  gate_at gs k at n h e =
      ap (le16 (gate_bytes gs ++ post)) e ∙ gates_from gs k n (omega arith)
      ∙ ap (λ (l : List Numbers3). le16 (gate_bytes l ++ post) n) (drop-cons gs k (0, 0, 0) h)

outs_at : (ws : List ℕ) (k : ℕ) → le16 (output_bytes ws) (2 * k) ≡ get_or ws k 0
unfolding output_bytes two le16
outs_at [] k = refl
outs_at (w ∷ ws) zero = two_reads w
outs_at (w ∷ ws) (suc k) = le16_at (two w) (output_bytes ws) (2 * suc k) (2 * k) (omega arith) ∙ outs_at ws k

module _ (os : List ℕ) (gs : List Numbers3) (ws : List ℕ) where
  abbrev written : List ℕ
  written = file_of os gs ws

  pub length_file : length written ≡ size (length os) (length gs) (length ws)
  unfolding file_of size
  length_file =
      let h = length_header (length os) (length gs) (length ws) in
      let a = length-append (header_bytes (length os) (length gs) (length ws)) (os ++ (gate_bytes gs ++ output_bytes ws)) in
      let b = length-append os (gate_bytes gs ++ output_bytes ws) in
      let c = length-append (gate_bytes gs) (output_bytes ws) in
      let d = length_gates gs in
      let e = length_outs ws in
      omega arith

  -- the header
  pub size_read : le32 written 0 ≡ size (length os) (length gs) (length ws)
  unfolding file_of header_bytes four two le32 le16
  size_read = four_reads (size (length os) (length gs) (length ws))

  pub inputs_read : inputs_of written ≡ length os
  unfolding file_of header_bytes four two le32 le16
  inputs_read = four_reads (length os)

  pub gates_read : gates_of written ≡ length gs
  unfolding file_of header_bytes four two le32 le16
  gates_read = four_reads (length gs)

  pub outputs_read : outputs_of written ≡ length ws
  unfolding file_of header_bytes four two le32 le16
  outputs_read = four_reads (length ws)

  pub owners_start_read : le32 written 16 ≡ 32
  unfolding file_of header_bytes four two le32 le16
  owners_start_read = refl

  pub gates_start_read : le32 written 20 ≡ gates_start (length os)
  unfolding file_of header_bytes four two le32 le16
  gates_start_read = four_reads (gates_start (length os))

  pub outputs_start_read : le32 written 24 ≡ outputs_start (length os) (length gs)
  unfolding file_of header_bytes four two le32 le16
  outputs_start_read = four_reads (outputs_start (length os) (length gs))

  pub zero_read : le32 written 28 ≡ 0
  unfolding file_of header_bytes four two le32 le16
  zero_read = refl

  -- what stands behind the header, and behind the owners
  abbrev behind : List ℕ
  behind = gate_bytes gs ++ output_bytes ws

  pub owner_read : (k : ℕ) → k < length os → owner_at written k ≡ get_or os k 0
  unfolding file_of owner_at header_bytes four two
  owner_read k h =
      get_or-append-add (header_bytes (length os) (length gs) (length ws)) (os ++ behind) k 0 ∙ get_or-append os behind 0 k h

  le16_gates : (at n : ℕ) → at ≡ 32 + length os + n → le16 written at ≡ le16 behind n
  unfolding file_of
  le16_gates at n e =
      let h = length_header (length os) (length gs) (length ws) in
      le16_at (header_bytes (length os) (length gs) (length ws)) (os ++ behind) at (length os + n) (omega arith) ∙ le16_behind os behind n

  -- the number of gate k that stands n bytes behind its first
  abbrev gate_number : ℕ → ℕ → ℕ
  gate_number k n = le16 (gate_bytes (get_or gs k (0, 0, 0) ∷ drop (suc k) gs) ++ output_bytes ws) n

  gate_read : (k at n : ℕ) → k < length gs → at ≡ 32 + length os + 6 * k + n → le16 written at ≡ gate_number k n
  gate_read k at n h e = le16_gates at (6 * k + n) (omega arith) ∙ gate_at (output_bytes ws) gs k (6 * k + n) n h refl

  pub kind_read : (k : ℕ) → k < length gs → kind_at written (length os) k ≡ (get_or gs k (0, 0, 0)).0
  unfolding kind_at gate_bytes two le16
  kind_read k h = gate_read k (32 + length os + 6 * k) 0 h (omega arith) ∙ two_reads (get_or gs k (0, 0, 0)).0

  pub first_read : (k : ℕ) → k < length gs → first_at written (length os) k ≡ (get_or gs k (0, 0, 0)).1
  unfolding first_at gate_bytes two le16
  first_read k h = gate_read k (32 + length os + 6 * k + 2) 2 h refl ∙ two_reads (get_or gs k (0, 0, 0)).1

  pub second_read : (k : ℕ) → k < length gs → second_at written (length os) k ≡ (get_or gs k (0, 0, 0)).2
  unfolding second_at gate_bytes two le16
  second_read k h = gate_read k (32 + length os + 6 * k + 4) 4 h refl ∙ two_reads (get_or gs k (0, 0, 0)).2

  -- beyond the last output both read 0
  pub output_read : (k : ℕ) → output_at written (length os) (length gs) k ≡ get_or ws k 0
  unfolding output_at
  output_read k =
      let h = length_gates gs in
      le16_gates (32 + length os + 6 * length gs + 2 * k) (6 * length gs + 2 * k) (omega arith)
      ∙ le16_at (gate_bytes gs) (output_bytes ws) (6 * length gs + 2 * k) (2 * k) (omega arith) ∙ outs_at ws k
