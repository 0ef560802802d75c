use Rattle.normalize.proofs.Lower.{turn_next, fronted_lowered}
use Rattle.normalize.specs.Fronts.{Rests}
use mathlib.Core.Path.{subst}
use mathlib.Core.List.{List}
use Prim.Native.Nat.{ℕ, ◌<◌}
use Rattle.normalize.proofs.lower_all.Goals as goal

pub lower_state-fell-requires-clause-fronted : goal.lower_state-fell-requires-clause-fronted
lower_state-fell-requires-clause-fronted c = let a = c.args in fronted_lowered a.part.grid a.work.now a.part.base a.part.states c.requires _ c.loop-q.invariant.lowered

pub loop-q-preserved : goal.loop-q-preserved
loop-q-preserved c = let a = c.args in turn_next a.part.grid a.part.base a.part.states a.work.now _ _ (λ p. (b : ℕ) → b < a.part.grid.tags → Rests a.part.grid a.work.now a.part.base a.part.states p b) _ c.loop-q.q _ _ c.loop-q.invariant c.lower_state-fell.ensures
    (λ e rest b h. subst (λ (l : List ℕ). Rests a.part.grid l a.part.base a.part.states c.loop-q.q b) e (rest b h))
