use Rattle.normalize.proofs.Lower.{weight}
use Rattle.normalize.specs.Fronts.{Lowered}
use Rattle.normalize.proofs.settle.Given as goal

abbrev pub invariant-loop-part : goal.invariant-loop-part
invariant-loop-part l = Lowered l.part.grid l.initial.work l.work l.part.base l.part.states

abbrev pub decreases-loop-part : goal.decreases-loop-part
decreases-loop-part l = weight l.part.grid l.part.base l.part.states l.work
