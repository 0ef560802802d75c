use Prim.Native.Nat.{◌+◌}
use Rattle.workspace.specs.Holds.{Stepping}
use Rattle.number.specs.Numbering.{numbered_at}
use Rattle.number.proofs.number_steps.Given as goal

abbrev pub invariant-loop-a : goal.invariant-loop-a
invariant-loop-a l = Stepping l.part.grid l.initial.work l.work (l.to + l.i) (numbered_at l.part.grid l.initial.work l.part.base l.part.states) l.i l.a
