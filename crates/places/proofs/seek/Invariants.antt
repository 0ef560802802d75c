use Rattle.places.specs.Places.{Free}
use Rattle.places.proofs.seek.Given as goal

abbrev pub invariant-loop-i : goal.invariant-loop-i
invariant-loop-i l = Free l.u l.s l.from l.i
