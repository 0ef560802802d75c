use Rattle.normalize.specs.Strip.{StepsStripped}
use Rattle.normalize.proofs.strip_steps.Given as goal

abbrev pub invariant-loop-q : goal.invariant-loop-q
invariant-loop-q l = StepsStripped l.part.grid l.initial.work l.work l.part.base l.q
