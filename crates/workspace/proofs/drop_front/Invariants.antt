use Rattle.workspace.proofs.Shifting.{Shifting}
use Rattle.workspace.proofs.drop_front.Given as goal

abbrev pub invariant-loop-i : goal.invariant-loop-i
invariant-loop-i l = Shifting l.g l.initial.work l.work l.r l.c l.s l.n l.i
