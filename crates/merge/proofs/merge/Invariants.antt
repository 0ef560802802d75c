use Rattle.merge.proofs.Rounds.{Worded, weight}
use Rattle.merge.specs.Classes.{Partition}
use Rattle.workspace.specs.Entries.{CLASS, LINK}
use Rattle.workspace.specs.Cells.{Kept, Spare}
use Prim.Native.Nat.{◌+◌}
use Rattle.merge.proofs.merge.Given as goal

abbrev pub invariant-loop-part : goal.invariant-loop-part
invariant-loop-part l = Kept l.part.grid l.initial.work l.work (Spare l.part.grid l.part.base (l.part.base + l.part.states) CLASS (LINK + 1)) × Partition l.part.grid l.work l.part.base l.part.states × Worded l.part.grid l.work l.part.base l.part.states

abbrev pub decreases-loop-part : goal.decreases-loop-part
decreases-loop-part l = weight l.part.grid l.work l.part.base l.part.states
