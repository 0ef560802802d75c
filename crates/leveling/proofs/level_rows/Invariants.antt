use Prim.Native.Nat.{ℕ, ◌+◌, ◌*◌, ◌<◌}
use Rattle.leveling.specs.Level.{Level}
use Rattle.leveling.proofs.level_rows.Given as goal

abbrev pub invariant-loop-q : goal.invariant-loop-q
invariant-loop-q l = (p : ℕ) → p < l.q → (a : ℕ) → a < l.size.tags → Level l.index (p * (l.size.tags + 1)) a
