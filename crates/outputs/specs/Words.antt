-- The room that the words of a rule's transducer need in the work slice.
use Rattle.std.specs.Prelude.{ℕ, ◌+◌, ◌≤◌, ◌<◌, List, length}
use Rattle.workspace.specs.declared.Grid.{Grid}
use Rattle.workspace.specs.Entries.{FINAL}
use Rattle.workspace.specs.Cells.{Sized}

-- the place is in the pattern, and the cells have room for the words
pub record Room (g : Grid) (W u : List ℕ) (p : ℕ) : Type 0 where
  pub sized : Sized g W
  pub place_inside : p < length u
  pub deep : length u + FINAL ≤ g.depth
