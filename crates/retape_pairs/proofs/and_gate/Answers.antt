use Rattle.std.proofs.Common.{arith}
use Rattle.retape_pairs.proofs.PairLaws.{and_law}
use Rattle.retape_pairs.proofs.and_gate.Goals as goal

pub beyond-at-requires : goal.beyond-at-requires
beyond-at-requires c =
    let x = c.requires.fits.0.one in let y = c.requires.fits.0.two in let z = c.requires.fits.0.thr in let u = c.requires.fits.0.few_own in let v = c.requires.fits.0.few_next in let w = c.requires.fits.0.few_prev in
    (omega arith, omega arith, omega arith)

pub mix-m-requires : goal.mix-m-requires
mix-m-requires c = rw c.beyond-at.ensures c.requires.fits.0

pub put_draws-requires : goal.put_draws-requires
put_draws-requires c =
    let t = c.requires.fits.0.two in let f = c.requires.fits.0.few_next in rw c.beyond-at.ensures (omega arith, omega arith)

pub returns : goal.returns
returns c =
    let a = c.args in
    and_law _ _ _ _ a.n a.a a.b a.w a.o a.room.now a.moved.now a.from a.t _ _ _ _ _ _ _ _ _ c.beyond-at.ensures c.pair_in.ensures c.pair_in-2.ensures c.flip_at-p.ensures c.flip_at-q.ensures
    c.mix-m.ensures c.put_draws.ensures c.flip_at-r.ensures c.put_in.ensures
