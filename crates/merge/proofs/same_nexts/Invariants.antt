use Rattle.merge.specs.Classes.{class_of}
use Rattle.workspace.specs.Holds.{standing}
use mathlib.Core.Path.{◌≡◌}
use Prim.Native.Nat.{ℕ, ◌<◌}
use Rattle.merge.proofs.same_nexts.Given as goal

abbrev pub invariant-loop-a : goal.invariant-loop-a
invariant-loop-a l = (b : ℕ) → b < l.a → class_of l.fn.part.grid l.work l.fn.part.base ((standing l.fn.part.grid l.work l.fn.part.base l.fn.part.states).next l.p b) ≡ class_of l.fn.part.grid l.work l.fn.part.base ((standing l.fn.part.grid l.work l.fn.part.base l.fn.part.states).next l.q b)
