use mathlib.Core.Path.{ap}
use Rattle.std.proofs.Common.{◌+◌}
use Rattle.bristol_words.proofs.NextLaws.{lead_part, next_word}
use Rattle.bristol_words.proofs.next_word.Goals as goal

pub returns : goal.returns
returns c =
    let at = c.args.at in
    let start = ap (λ n. at + n) (lead_part _ c.args.text.now at _ c.gaps.ensures) in
    let end = ap (λ n. at + c.gaps.result + n) (lead_part _ c.args.text.now (at + c.gaps.result) _ c.letters.ensures) in
    next_word _ at _ c.requires start end c.number.ensures
