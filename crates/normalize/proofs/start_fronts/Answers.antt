use Rattle.normalize.proofs.Lower.{starting_next}
use native.Mathlib.Omega.{arith}
use Rattle.normalize.proofs.start_fronts.Goals as goal

pub loop-q-preserved : goal.loop-q-preserved
loop-q-preserved c = let a = c.args in starting_next a.part.grid a.work.now a.part.base a.part.states c.requires _ _ _ _ (omega arith) c.loop-q.invariant c.get-long.ensures c.put.ensures
