use native.Mathlib.Omega.{arith}
use Rattle.equivalence.proofs.Tables.{bound}
use Rattle.equivalence.proofs.Search.{all_tried}
use Rattle.equivalence.proofs.seek.Goals as goal

pub loop-i-smaller : goal.loop-i-smaller
loop-i-smaller c = omega (arith, c.loop-i-test.true, bound c.requires.tables.0 c.loop-i.invariant.1)

pub returns : goal.returns
returns c = let l = c.loop-i in
    all_tried c.requires.tables.0 l.invariant.1 (omega (arith, l.invariant.2, c.loop-i-test.false))
