use Rattle.normalize.proofs.Strips.{steps_strip, steps_next}
use native.Mathlib.Omega.{arith}
use Rattle.normalize.proofs.strip_steps.Goals as goal

pub strip_row-requires : goal.strip_row-requires
strip_row-requires c = let a = c.args in steps_strip a.part.grid a.work.now a.part.base a.part.states c.requires _ c.loop-q.q (omega arith) c.loop-q.invariant

pub loop-q-preserved : goal.loop-q-preserved
loop-q-preserved c = let a = c.args in steps_next a.part.grid a.work.now a.part.base a.part.states c.requires _ c.loop-q.q (omega arith) c.loop-q.invariant _ c.strip_row.ensures
