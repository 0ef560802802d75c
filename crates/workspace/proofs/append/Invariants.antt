use Rattle.workspace.specs.Cells.{word}
use Rattle.workspace.proofs.Appending.{Appending}
use Rattle.workspace.proofs.append.Given as goal

abbrev pub invariant-loop-i : goal.invariant-loop-i
invariant-loop-i l = Appending l.g l.initial.work l.work (word l.g l.initial.work l.r l.c l.s) l.from l.to l.r2 l.c2 l.s2 l.i
