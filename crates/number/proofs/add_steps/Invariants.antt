use Rattle.transducers.specs.Table.{row}
use Rattle.transducers.specs.Number.{note_all}
use Rattle.worklist.specs.Worklist.{listed}
use Rattle.number.specs.Order.{merged_at}
use Rattle.number.proofs.Searching.{Adding}
use Rattle.number.proofs.add_steps.Given as goal

abbrev pub invariant-loop-a : goal.invariant-loop-a
invariant-loop-a l = Adding l.part.grid l.part.base l.part.states l.initial.work l.work (note_all (row (merged_at l.part.grid l.initial.work l.part.base l.part.states) l.q).steps (listed l.part.grid l.initial.work l.part.base l.len)) l.q l.a l.to
