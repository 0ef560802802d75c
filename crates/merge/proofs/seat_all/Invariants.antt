use Rattle.merge.specs.Seats.{Seated}
use Rattle.merge.proofs.seat_all.Given as goal

abbrev pub invariant-loop-q : goal.invariant-loop-q
invariant-loop-q l = Seated l.part.grid l.initial.work l.work l.part.base l.part.states l.q
