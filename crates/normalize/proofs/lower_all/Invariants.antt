use Rattle.normalize.specs.Fronts.{Rests, Turn}
use Prim.Native.Nat.{ℕ, ◌<◌}
use Rattle.normalize.proofs.lower_all.Given as goal

abbrev pub invariant-loop-q : goal.invariant-loop-q
invariant-loop-q l = Turn l.part.grid l.initial.work l.work l.part.base l.part.states ((p : ℕ) → p < l.q → (a : ℕ) → a < l.part.grid.tags → Rests l.part.grid l.initial.work l.part.base l.part.states p a) l.fell
