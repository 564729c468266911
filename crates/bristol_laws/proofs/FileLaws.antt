-- The circuit file, as code writes it from what it knows.
--     outs_same    our numbers of output wires
--     file_same    the bytes are those of the file of what was heard;  size_same: so many
-- Assumes nothing.
use mathlib.Core.Path.{◌≡◌, refl, ap₂, ◌∙◌}
use mathlib.Core.Bool.{true}
use mathlib.Core.List.{List, [], ◌∷◌, ◌++◌, map}
use Prim.Native.Nat.{ℕ, ◌*◌, ◌-◌}
use lib.ListN.{length, take, length-map}
use Rattle.theory_calls.specs.File.{size}
use Rattle.theory_files.specs.Written.{header_bytes, output_bytes, file_of}
use Rattle.theory_files.proofs.ReadBack.{length_file}
use Rattle.theory_calls.proofs.Limits.{and_first, and_second}
use Rattle.bristol_text.specs.Lines.{total}
use Rattle.bristol_text.specs.Heard.{Heard, written, count_up, out_wires, all_written}
use Rattle.bristol_text.specs.Renamed.{renamed, spread, heard_file}
use Rattle.bristol_text.proofs.TextFile.{spread_length, count_length}
use Rattle.bristol_wires.specs.declared.Text.{Text}
use Rattle.bristol_wires.specs.Mirror.{ours_of}
use Rattle.bristol_laws.specs.Matches.{Fine, Matches}
use Rattle.bristol_laws.proofs.Hears.{ours_is, made_is}

module _ (h : Heard) (t : Text) (ws : List (List ℕ)) (m g : List ℕ) (q : Matches h t ws m g) (fine : Fine h) where
  outs_same : (vs : List ℕ) → all_written h vs ≡ true → map (ours_of m t.ins) vs ≡ map (renamed h).wire vs
  unfolding all_written
  outs_same [] a = refl
  outs_same (w ∷ vs) a = ap₂ (λ (x : ℕ) (xs : List ℕ). x ∷ xs) (ours_is h t ws m g q fine w (and_first _ _ a)) (outs_same vs (and_second (written h w) _ a))

  module _ (owners : List ℕ) (long : length owners ≡ length h.ins) where
    ins_long : length (spread owners h.ins) ≡ total h.ins
    ins_long = spread_length owners h.ins long

    outs_long : length (map (renamed h).wire (out_wires h)) ≡ total h.outs
    outs_long = length-map (out_wires h) (renamed h).wire ∙ count_length _ (total h.outs)

    pub file_same : all_written h (out_wires h) ≡ true
        → header_bytes t.ins t.made t.outs
        ++ (spread owners h.ins ++ (take (6 * t.made) g ++ output_bytes (map (ours_of m t.ins) (count_up (t.wires - t.outs) t.outs))))
        ≡ heard_file h owners
    unfolding file_of
    file_same a =
        rw (q.wires, q.outs, made_is h t ws m g q fine, outs_same (out_wires h) a, q.ins, ins_long, outs_long, q.kept fine)

    pub size_same : size t.ins t.made t.outs ≡ length (heard_file h owners)
    size_same =
        rw (q.outs, made_is h t ws m g q fine, q.ins, length_file (spread owners h.ins) (renamed h).gates (map (renamed h).wire (out_wires h)), ins_long, outs_long)
