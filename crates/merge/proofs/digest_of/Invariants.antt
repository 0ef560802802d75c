use Prim.Native.Nat.{◌+◌, ◌<◌}
use mathlib.Core.Path.{◌≡◌}
use Rattle.workspace.specs.Entries.{OUTPUT, FINAL}
use Rattle.workspace.specs.Cells.{at}
use Rattle.merge.specs.Seats.{mixed}
use Rattle.merge.proofs.digest_of.Given as goal

abbrev pub invariant-loop-a : goal.invariant-loop-a
invariant-loop-a l = (l.h < 65536) × (l.h ≡ mixed (λ b. at l.fn.part.grid l.work (l.fn.part.base + l.q) b OUTPUT) (at l.fn.part.grid l.work (l.fn.part.base + l.q) l.fn.part.grid.tags FINAL) l.a)
