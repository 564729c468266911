use Rattle.retape_pairs.specs.Mirror.{operand}
use Rattle.retape_pairs.proofs.PairLaws.{mix_law}
use Rattle.retape_pairs.proofs.mix.Goals as goal

pub returns : goal.returns
returns c =
    let a = c.args in let t = a.tapes.now in
    mix_law t.own.now t.next.now t.prev.now a.at (operand a.p a.u a.y) (operand a.q a.v a.z) _ _ _ _ _ c.next_product-first.ensures c.change-moved.ensures c.product.ensures c.deal-k.ensures c.deal-m.ensures
