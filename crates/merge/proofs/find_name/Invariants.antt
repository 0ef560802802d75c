use Rattle.merge.proofs.Names.{Walking}
use Prim.Native.Nat.{◌-◌}
use Rattle.merge.proofs.find_name.Given as goal

abbrev pub invariant-loop-part : goal.invariant-loop-part
invariant-loop-part l = Walking l.part.grid l.work l.part.base l.part.states l.first l.q l.p

abbrev pub decreases-loop-part : goal.decreases-loop-part
decreases-loop-part l = l.q - l.p
