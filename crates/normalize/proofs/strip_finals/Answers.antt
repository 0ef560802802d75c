use Rattle.normalize.proofs.Strips.{finals-next}
use native.Mathlib.Omega.{arith}
use Rattle.normalize.proofs.strip_finals.Goals as goal

pub loop-q-preserved : goal.loop-q-preserved
loop-q-preserved c = let a = c.args in finals-next a.part.grid a.work.now a.part.base a.part.states c.requires.by_index _ c.loop-q.q (omega arith) c.loop-q.invariant _ _ c.get-own.ensures c.drop_front.ensures
