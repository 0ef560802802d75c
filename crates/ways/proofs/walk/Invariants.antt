use Rattle.ways.proofs.Turns.{Going}
use Rattle.ways.proofs.walk.Given as goal

abbrev pub invariant-loop-i : goal.invariant-loop-i
invariant-loop-i l = Going l.ns l.k l.sentence l.initial.buf l.buf l.i l.at l.p
