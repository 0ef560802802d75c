use Prim.Native.Nat.{◌-◌, ◌≤◌, min}
use Rattle.places.specs.Places.{Free}
use Rattle.leftmost.proofs.sweep.Given as goal

abbrev pub invariant-loop-i : goal.invariant-loop-i
invariant-loop-i l = (l.from ≤ l.i) × Free l.u l.s l.from (min l.i l.to)

abbrev pub decreases-loop-i : goal.decreases-loop-i
decreases-loop-i l = l.to - l.i
