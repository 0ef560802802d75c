-- The words of the identity have room, and its next states are its one state.
use Prim.Native.Nat.{ℕ, ◌+◌, ◌≤◌, ◌<◌}
use native.Mathlib.Omega.{arith}
use mathlib.Core.Path.{◌≡◌}
use mathlib.Core.List.{List}
use Rattle.transducers.specs.Canonical.{Inside}
use Rattle.minimal.specs.TableOf.{identity}
use Rattle.workspace.specs.declared.Grid.{Grid}
use Rattle.workspace.specs.Holds.{RowAt, Roomy}

pub roomy : (g : Grid) → 8 ≤ g.depth → Roomy g identity
roomy g deep = record { outputs = λ q a hq ha. omega arith; finals = λ q hq. omega arith }

pub inside : (k : ℕ) → Inside k identity
inside k q a hq ha = omega arith

pub only : (g : Grid) (W : List ℕ) (q : ℕ) → q < 1 → RowAt g W 0 identity 0 → RowAt g W (0 + q) identity q
only g W q h row = let e : q ≡ 0 = omega arith in rw e row
