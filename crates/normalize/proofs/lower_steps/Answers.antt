use Rattle.normalize.proofs.Lower.{turn_next, fronted_lowered}
use Rattle.normalize.specs.Fronts.{Rests}
use mathlib.Core.Path.{subst}
use mathlib.Core.List.{List}
use Prim.Native.Nat.{ℕ}
use Rattle.normalize.proofs.lower_steps.Goals as goal

pub lower_step-fell-requires-clause-fronted : goal.lower_step-fell-requires-clause-fronted
lower_step-fell-requires-clause-fronted c = let a = c.args in fronted_lowered a.part.grid a.work.now a.part.base a.part.states c.requires.fronted _ c.loop-a.invariant.lowered

pub loop-a-preserved : goal.loop-a-preserved
loop-a-preserved c = let a = c.args in turn_next a.part.grid a.part.base a.part.states a.work.now _ _ (λ b. Rests a.part.grid a.work.now a.part.base a.part.states a.q b) _ c.loop-a.a _ _ c.loop-a.invariant c.lower_step-fell.ensures
    (λ e rest. subst (λ (l : List ℕ). Rests a.part.grid l a.part.base a.part.states a.q c.loop-a.a) e rest)
