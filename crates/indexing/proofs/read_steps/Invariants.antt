use Prim.Native.Nat.{◌+◌}
use mathlib.Core.Path.{◌≡◌}
use lib.ListN.{length}
use Rattle.transducers.specs.Table.{no_step}
use Rattle.tables.specs.Bytes.{step_bytes}
use Rattle.tables.specs.Decode.{read_step}
use Rattle.steps.specs.Entry.{StepEntry}
use Rattle.steps.specs.Part.{SameBelow}
use Rattle.indexing.proofs.Progress.{Progress}
use Rattle.indexing.proofs.read_steps.Given as goal

abbrev pub invariant-loop-a : goal.invariant-loop-a
invariant-loop-a l = (length l.index ≡ length l.initial.index)
    × Progress (read_step l.size.tags l.size.states) step_bytes no_step (λ i v. StepEntry l.size.tags l.table l.index (l.first + i) v) l.table l.at l.a l.to
    × SameBelow l.first l.initial.index l.index
