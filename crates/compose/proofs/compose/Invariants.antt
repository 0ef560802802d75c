use Prim.Native.Nat.{◌*◌, ◌-◌}
use Rattle.workspace.specs.Holds.{standing}
use Rattle.transducers.specs.Compose.{product}
use Rattle.compose.proofs.Reached.{Searching}
use Rattle.compose.proofs.compose.Given as goal

abbrev pub invariant-loop-i : goal.invariant-loop-i
invariant-loop-i l = Searching l.g l.initial.work l.work l.base (l.n * l.m) (product (standing l.g l.initial.work l.first l.n) (standing l.g l.initial.work l.second l.m)) l.i l.len

abbrev pub decreases-loop-i : goal.decreases-loop-i
decreases-loop-i l = l.n * l.m - l.i
