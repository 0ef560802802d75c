use Rattle.normalize.specs.Strip.{FinalsStripped}
use Rattle.normalize.proofs.strip_finals.Given as goal

abbrev pub invariant-loop-q : goal.invariant-loop-q
invariant-loop-q l = FinalsStripped l.fn.part.grid l.initial.work l.work l.fn.part.base l.q
