use Rattle.bristol_lines.proofs.SeenLaws.{none_from}
use Rattle.bristol_lines.proofs.LineLaws.{gate_first, gate_second, gate_stop, gate_line}
use Rattle.bristol_lines.proofs.gate_line.Goals as goal

pub returns-in_err-ins : goal.returns-in_err-ins
returns-in_err-ins c = none_from _ _ _ _ c.from_residual.ensures (gate_first _ _ c.args.first _ c.next_word-second.ensures c.in_err-ins.was)

pub returns-in_err-outs : goal.returns-in_err-outs
returns-in_err-outs c =
    none_from _ _ _ _ c.from_residual-in_err-outs.ensures (gate_second _ _ c.args.first _ c.next_word-second.ensures _ c.in_ok-ins.was c.in_err-outs.was)

pub returns-in_err-read : goal.returns-in_err-read
returns-in_err-read c =
    none_from _ _ _ _ c.from_residual-in_err-read.ensures
    (gate_stop _ _ c.args.first _ c.next_word-second.ensures _ _ c.in_ok-ins.was c.in_ok-outs.was _ c.read_wires.ensures c.in_err-read.was)

pub returns : goal.returns
returns c =
    gate_line _ _ c.args.first _ c.next_word-second.ensures _ _ c.in_ok-ins.was c.in_ok-outs.was _ c.in_ok-read.ensures _ c.word_line.ensures
