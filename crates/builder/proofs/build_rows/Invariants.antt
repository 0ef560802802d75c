use Rattle.books.specs.Arrays.{arrays}
use Rattle.builder.proofs.Progress.{Progress}
use Rattle.builder.proofs.build_rows.Given as goal

abbrev pub invariant-loop-i : goal.invariant-loop-i
invariant-loop-i l = Progress l.g l.initial.work l.work l.ceiling l.end l.m (arrays l.rules l.sets) l.i l.n
