use Rattle.workspace.specs.Holds.{Filling}
use Rattle.number.specs.Numbering.{numbered_at}
use Rattle.number.proofs.number_rows.Given as goal

abbrev pub invariant-loop-i : goal.invariant-loop-i
invariant-loop-i l = Filling l.part.grid l.initial.work l.work l.to l.count (numbered_at l.part.grid l.initial.work l.part.base l.part.states) l.i
