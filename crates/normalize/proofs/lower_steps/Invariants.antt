use Rattle.normalize.specs.Fronts.{Rests, Turn}
use Prim.Native.Nat.{ℕ, ◌<◌}
use Rattle.normalize.proofs.lower_steps.Given as goal

abbrev pub invariant-loop-a : goal.invariant-loop-a
invariant-loop-a l = Turn l.part.grid l.initial.work l.work l.part.base l.part.states ((b : ℕ) → b < l.a → Rests l.part.grid l.initial.work l.part.base l.part.states l.q b) l.fell
