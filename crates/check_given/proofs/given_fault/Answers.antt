use Rattle.std.proofs.Common.{refl, ◌∙◌, ℕ, ◌+◌, ◌*◌, List, [], ◌∷◌}
use Rattle.std.proofs.lemmas.Result.{err_from_is_err_and}
use Rattle.file_header.specs.declared.Counts.{Counts}
use Rattle.check_slices.proofs.ChainLaws.{bits_stop, bits_go, sizes_left}
use Rattle.check_given.proofs.GivenLaws.{line_is, run_sizes, slices_stop, slices_go}
use Rattle.check_given.proofs.given_fault.Goals as goal

abbrev buffers : Counts → ℕ → ℕ → ℕ → ℕ → List (ℕ × ℕ)
buffers n a o t s =
    (o, 3 * n.outputs) ∷ (t, 4 * n.inputs + 12 * a + 6 * n.outputs) ∷ (s, 6 * (n.inputs + n.gates)) ∷ []

pub returns-in_err-slices_fault : goal.returns-in_err-slices_fault
returns-in_err-slices_fault c =
    let p = err_from_is_err_and c.from_residual.result c.from_residual.ensures.1 in
    rw (p.1, p.2) (slices_stop _ _ _ _ _ c.in_err-slices_fault.ensures)

pub returns-in_err-bits : goal.returns-in_err-bits
returns-in_err-bits c =
    let o = c.args.f.now.opened in
    let n = c.requires.counted.0 in
    let p = err_from_is_err_and c.from_residual-in_err-bits.result c.from_residual-in_err-bits.ensures.1 in
    let q = c.in_err-bits.ensures in
    rw (p.1, p.2, q.2) (bits_stop _ 9 _ c.args.line.now _ _ (line_is _ _ _ o n) (slices_go _ _ _ _ c.in_ok-slices_fault.ensures) q.0 q.1)

pub returns : goal.returns
returns c =
    let o = c.args.f.now.opened in
    let n = c.requires.counted.0 in
    c.first_size.ensures
    ∙ sizes_left _ [] (buffers c.args.f.now.counts c.args.a c.args.outputs c.args.transcript c.args.store) _ _ refl (run_sizes _ _ _ o n)
    (bits_go _ 9 _ c.args.line.now _ _ (line_is _ _ _ o n) (slices_go _ _ _ _ c.in_ok-slices_fault.ensures) c.in_ok-bits.ensures)
