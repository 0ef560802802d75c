use Rattle.merge.specs.Classes.{Placed}
use Rattle.merge.proofs.split.Given as goal

abbrev pub invariant-loop-q : goal.invariant-loop-q
invariant-loop-q l = Placed l.part.grid l.initial.work l.work l.part.base l.part.states l.first l.q
