use native.Mathlib.Omega.{arith}
use Rattle.number.proofs.Searching.{next-at, class-at}
use Rattle.number.proofs.next_class.Goals as goal

pub get-requires : goal.get-requires
get-requires c = omega (arith, next-at c.args.part.grid _ _ _ c.requires.classed c.args.q c.args.a _ c.requires.q_lt_n.0 c.requires.q_lt_n.1 c.get-next.ensures)

pub returns : goal.returns
returns c = class-at c.args.part.grid _ _ _ c.requires.classed c.args.q c.args.a _ _ c.requires.q_lt_n.0 c.requires.q_lt_n.1 c.get-next.ensures c.get.ensures
