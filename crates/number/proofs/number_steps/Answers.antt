use native.Mathlib.Omega.{arith}
use Rattle.number.proofs.Rows.{rowing_kept, steps_next}
use Rattle.number.proofs.number_steps.Goals as goal

pub number_step-requires-clause-rowing : goal.number_step-requires-clause-rowing
number_step-requires-clause-rowing c = let a = c.args in
    rowing_kept a.part.grid _ _ _ _ _ _ _ c.requires _ c.loop-a.invariant.kept

pub loop-a-preserved : goal.loop-a-preserved
loop-a-preserved c = let a = c.args in
    steps_next a.part.grid _ _ _ _ _ _ _ c.requires _ _ _ (omega arith) c.loop-a.invariant c.number_step.ensures
