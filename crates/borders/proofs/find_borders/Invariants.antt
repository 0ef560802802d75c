use Rattle.borders.proofs.Running.{Running}
use lib.ListN.{length}
use Prim.Native.Nat.{◌+◌, ◌*◌, ◌-◌}
use Rattle.borders.proofs.find_borders.Given as goal

abbrev pub invariant-loop-j : goal.invariant-loop-j
invariant-loop-j l = Running l.u l.initial.borders l.borders l.j l.border l.count

abbrev pub decreases-loop-j : goal.decreases-loop-j
decreases-loop-j l = 2 * (length l.u - l.j) + l.border
