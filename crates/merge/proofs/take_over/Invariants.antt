use Rattle.merge.specs.Classes.{Taken}
use Rattle.merge.proofs.take_over.Given as goal

abbrev pub invariant-loop-q : goal.invariant-loop-q
invariant-loop-q l = Taken l.fn.part.grid l.initial.work l.work l.fn.part.base l.fn.part.states l.q l.changed
