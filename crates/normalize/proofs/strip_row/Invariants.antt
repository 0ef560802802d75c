use Rattle.normalize.specs.Strip.{RowStripped}
use Rattle.normalize.proofs.strip_row.Given as goal

abbrev pub invariant-loop-a : goal.invariant-loop-a
invariant-loop-a l = RowStripped l.part.grid l.initial.work l.work l.part.base l.q l.a
