-- The document's deals and wires as the code has them.
--     sent_of, sent3      a deal's bits as sent; three sites' deals
--     held_of             a wire by value
--     flips               part 1 added to wherever held, as the code does it
--     put_wire            a place of the store becomes a wire, at all three sites
--     Reads               a place holds a wire
use Rattle.std.specs.Prelude.{◌≡◌, List, ℕ}
use Rattle.theory_sharing.specs.Ops.{Ops}
use Rattle.theory_sharing.specs.Sites.{Trio}
use Rattle.theory_sharing.specs.Published.{Deal}
use Rattle.theory_sharing.specs.Steps.{Wire, add_pair}
use Rattle.run_messages.specs.Mirror.{four, twelve, held}
use Rattle.run_messages.specs.declared.Four.{Four}
use Rattle.run_messages.specs.declared.Twelve.{Twelve}
use Rattle.run_messages.specs.declared.Held.{Held}
use Rattle.run_site.specs.Mirror.{put_at}
use Rattle.run_steps.specs.Mirror.{at_sites, held_at}

abbrev pub sent_of : Deal → Four
sent_of D = four D.d1 D.d2 D.d2 D.r

abbrev pub sent3 : Trio Deal → Twelve
sent3 D = twelve (sent_of D.at1) (sent_of D.at2) (sent_of D.at3)

abbrev pub held_of : Wire → Held
held_of x = held x.at1 x.at2 x.at3

-- o is 0 for AND and 1 for OR
abbrev pub flips : Ops → ℕ → Wire → Wire
flips R o x = record { at1 = add_pair R x.at1 (o, 0); at2 = add_pair R x.at2 (0, 0); at3 = add_pair R x.at3 (0, o) }

-- place w becomes wire x, at all three sites
unfoldable pub put_wire : ℕ → ℕ → Wire → List ℕ → List ℕ
put_wire n w x l = at_sites n (put_at w x.at1) (put_at w x.at2) (put_at w x.at3) l

-- place a holds wire x
abbrev pub Reads : ℕ → List ℕ → ℕ → Wire → Type 0
Reads n l a x = held_at n a l ≡ held_of x
