use Rattle.workspace.specs.Holds.{standing}
use mathlib.Core.Path.{◌≡◌}
use Prim.Native.Nat.{ℕ, ◌<◌}
use Rattle.merge.proofs.same_outputs.Given as goal

abbrev pub invariant-loop-a : goal.invariant-loop-a
invariant-loop-a l = (b : ℕ) → b < l.a → (standing l.fn.part.grid l.work l.fn.part.base l.fn.part.states).output l.p b ≡ (standing l.fn.part.grid l.work l.fn.part.base l.fn.part.states).output l.q b
