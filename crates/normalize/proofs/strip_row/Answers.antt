use Rattle.normalize.proofs.Strips.{row_next}
use native.Mathlib.Omega.{arith}
use Rattle.normalize.proofs.strip_row.Goals as goal

pub loop-a-preserved : goal.loop-a-preserved
loop-a-preserved c = let a = c.args in row_next a.part.grid a.work.now a.part.base a.q c.requires _ c.loop-a.a (omega arith) c.loop-a.invariant _ c.strip_step.ensures
