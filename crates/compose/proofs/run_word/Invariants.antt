use Rattle.compose.proofs.Runs.{Running}
use Rattle.compose.proofs.run_word.Given as goal

abbrev pub invariant-loop-i : goal.invariant-loop-i
invariant-loop-i l = Running l.g l.initial.work l.work l.base l.m l.q l.r l.c l.s l.r2 l.c2 l.s2 l.i l.state
