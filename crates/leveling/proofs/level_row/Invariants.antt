use Prim.Native.Nat.{ℕ, ◌<◌}
use Rattle.leveling.specs.Level.{Level}
use Rattle.leveling.proofs.level_row.Given as goal

abbrev pub invariant-loop-a : goal.invariant-loop-a
invariant-loop-a l = (b : ℕ) → b < l.a → Level l.index l.cell b
