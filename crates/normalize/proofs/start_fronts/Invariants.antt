use Rattle.normalize.proofs.Lower.{Starting}
use Rattle.normalize.proofs.start_fronts.Given as goal

abbrev pub invariant-loop-q : goal.invariant-loop-q
invariant-loop-q l = Starting l.fn.part.grid l.initial.work l.work l.fn.part.base l.fn.part.states l.q
