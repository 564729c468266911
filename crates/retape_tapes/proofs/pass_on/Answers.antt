-- The first seven needs are those of three parts of the tapes: each part is a site's span, which fits.
use Rattle.std.proofs.Common.{arith}
use Rattle.theory_sharing.specs.Sites.{next, prev}
use Rattle.theory_calls.specs.File.{circuit}
use Rattle.check_tests.specs.Seat.{seat}
use Rattle.retape_tapes.proofs.NewLaws.{span_fits, lengths, new_back, room_back}
use Rattle.retape_tapes.proofs.pass_on.Goals as goal

pub slice_bounds-parts-count : goal.slice_bounds-parts-count
slice_bounds-parts-count c = let a = c.args in let h = span_fits (circuit a.c.now.file.now) (seat a.site) a.o c.requires.spans.0 in omega arith

pub slice_bounds-parts-start : goal.slice_bounds-parts-start
slice_bounds-parts-start c = let a = c.args in let h = span_fits (circuit a.c.now.file.now) (seat a.site) a.o c.requires.spans.0 in omega arith

pub slice_bounds-parts-end : goal.slice_bounds-parts-end
slice_bounds-parts-end c = let a = c.args in let h = span_fits (circuit a.c.now.file.now) (seat a.site) a.o c.requires.spans.0 in omega arith

pub slice_bounds-parts-count-2 : goal.slice_bounds-parts-count-2
slice_bounds-parts-count-2 c = let a = c.args in let h = span_fits (circuit a.c.now.file.now) (next (seat a.site)) a.n c.requires.spans.1 in omega arith

pub slice_bounds-parts-start-2 : goal.slice_bounds-parts-start-2
slice_bounds-parts-start-2 c = let a = c.args in let h = span_fits (circuit a.c.now.file.now) (next (seat a.site)) a.n c.requires.spans.1 in omega arith

pub slice_bounds-parts-end-2 : goal.slice_bounds-parts-end-2
slice_bounds-parts-end-2 c = let a = c.args in let h = span_fits (circuit a.c.now.file.now) (next (seat a.site)) a.n c.requires.spans.1 in omega arith

pub slice_bounds-parts-end-3 : goal.slice_bounds-parts-end-3
slice_bounds-parts-end-3 c = let a = c.args in let h = span_fits (circuit a.c.now.file.now) (prev (seat a.site)) a.p c.requires.spans.2 in omega arith

pub pass-requires : goal.pass-requires
pass-requires c =
    let a = c.args in record { inputs_bits = c.requires.inputs_bits; after_site = c.requires.after_site; room_len = c.requires.room_len; lengths = lengths _ _ a.c.now.checked.opened _ a.inputs.now a.second.now _ _ c.requires.tapes_len.0 c.requires.tapes_len.1 _ _ _ c.requires.spans.0 c.requires.spans.1 c.requires.spans.2; room_value = c.requires.room_value }

pub returns : goal.returns
returns c =
    let a = c.args in let w = c.pass.ensures in record { fresh_after = new_back _ _ a.c.now.checked.opened _ a.inputs.now a.second.now _ _ c.requires.tapes_len.0 c.requires.tapes_len.1 _ _ _ c.requires.spans.0 c.requires.spans.1 c.requires.spans.2 _ _ w; room_after = room_back _ _ a.c.now.checked.opened _ a.inputs.now a.second.now _ _ c.requires.tapes_len.0 c.requires.tapes_len.1 _ _ _ c.requires.spans.0 c.requires.spans.1 c.requires.spans.2 _ _ w }
