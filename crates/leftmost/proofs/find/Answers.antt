use native.Mathlib.Omega.{arith}
use Rattle.places.proofs.Places.{all_none}
use Rattle.leftmost.proofs.Leftmost.{part_free}
use Rattle.leftmost.proofs.find.Goals as goal

pub returns-then-s-from : goal.returns-then-s-from
returns-then-s-from c = let a = c.args in
    part_free a.u.now a.s.now a.from c.requires.0 a.from (all_none _ a.from a.from (omega arith)) (omega arith)

pub returns-in_err-i : goal.returns-in_err-i
returns-in_err-i c = let a = c.args in
    rw c.from_residual.ensures (part_free a.u.now a.s.now a.from c.requires.0 _ c.in_err-i.ensures (omega arith))
