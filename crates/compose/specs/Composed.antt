-- Two transducers in the work slice, and their composition.
use Rattle.std.specs.Prelude.{ℕ, ◌+◌, ◌*◌, ◌≤◌, ◌<◌, List}
use Rattle.transducers.specs.Table.{shape}
use Rattle.transducers.specs.Canonical.{Sound, Held}
use Rattle.transducers.specs.Tabulate.{Doing, Any}
use Rattle.workspace.specs.declared.Grid.{Grid}
use Rattle.workspace.specs.Entries.{FINAL}
use Rattle.workspace.specs.Cells.{Sized, Kept, InRows, Fits}
use Rattle.workspace.specs.Holds.{Holds, table_at, Stands}

-- the first stands in n rows, the second in m rows, the rows from base between them are for the composition, a pair can be noted, and the
-- cells have room for what both hold
pub record Composable (g : Grid) (W : List ℕ) (first n second m base : ℕ) : Type 0 where
  pub sized : Sized g W
  pub first_holds : Holds g W first (table_at g W first n)
  pub second_holds : Holds g W second (table_at g W second m)
  pub first_sound : Sound g.tags (shape (table_at g W first n))
  pub second_sound : Sound g.tags (shape (table_at g W second m))
  pub first_most : ℕ
  pub second_most : ℕ
  pub first_held : Held first_most (shape (table_at g W first n))
  pub second_held : Held second_most (shape (table_at g W second m))
  pub room : Fits g FINAL (first_most + second_most)
  pub below : first + n ≤ base
  pub above : base + n * m ≤ second
  pub small : n * m < 0x10000

-- the rows from base hold a table that does what the second makes of what the first does, with at most as many states as there are pairs
pub record Composed (g : Grid) (W X : List ℕ) (first n second m base count : ℕ) : Type 0 where
  pub few : count ≤ n * m
  pub kept : Kept g W X (InRows base (base + n * m))
  pub stands : (d e : ℕ) (f h : List ℕ → List ℕ) → Doing g.tags d f (table_at g W first n) → Doing g.tags e h (table_at g W second m)
      → Stands g X base count (d + e) (λ w. h (f w)) Any
