use Rattle.std.proofs.Common.{refl, sym, ◌∙◌}
use Rattle.check_tests.specs.Seat.{seat}
use Rattle.retape_tapes.proofs.NewLaws.{two_on, stands_at}
use Rattle.retape_tapes.proofs.renew.Goals as goal

pub copy-requires : goal.copy-requires
copy-requires c = c.requires.tapes_len.0 ∙ sym c.requires.tapes_len.1

pub pass_on-requires : goal.pass_on-requires
pass_on-requires c =
    let s = seat c.args.site in let o = c.args.c.now.circuit.checked.opened in let a = c.args.c.now.counted.0 in
    let e1 = c.owned_by.ensures.value in let e2 = c.owned_by-2.ensures.value in let n = c.next-after.ensures in record {
      inputs_bits = c.requires.inputs_bits;
      after_site = n;
      room_len = c.requires.room_len;
      tapes_len = (c.requires.tapes_len.0, c.copy.ensures);
      spans = (
        stands_at _ _ _ _ _ _ s s _ o a e1 e2 c.requires.tapes_len.0 c.tape_of-o.ensures refl,
        stands_at _ _ _ _ _ _ _ _ _ o a e1 e2 c.requires.tapes_len.0 c.tape_of-n.ensures n,
        stands_at _ _ _ _ _ _ _ _ _ o a e1 e2 c.requires.tapes_len.0 c.tape_of-p.ensures (two_on s _ _ n c.next-before.ensures),
      );
      room_value = c.requires.room_value;
    }
