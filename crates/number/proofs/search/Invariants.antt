use Prim.Native.Nat.{◌-◌}
use Rattle.number.proofs.Searching.{Searching}
use Rattle.number.proofs.search.Given as goal

abbrev pub invariant-loop-i : goal.invariant-loop-i
invariant-loop-i l = Searching l.part.grid l.part.base l.part.states l.initial.work l.work l.i l.len

abbrev pub decreases-loop-i : goal.decreases-loop-i
decreases-loop-i l = l.part.states - l.i
