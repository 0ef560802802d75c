-- The states in the order of first reach, as a worklist.
use Rattle.std.specs.Prelude.{ℕ, ◌+◌, ◌<◌, ◌≡◌, List}
use Rattle.transducers.specs.Table.{Table}
use Rattle.transducers.specs.Canonical.{Early}
use Rattle.transducers.specs.Merge.{class, classes, merge}
use Rattle.workspace.specs.declared.Grid.{Grid}
use Rattle.workspace.specs.Entries.{CLASS}
use Rattle.workspace.specs.Cells.{at, Kept}
use Rattle.workspace.specs.Holds.{Ready, table_at, standing}
use Rattle.worklist.specs.Worklist.{listed, ListNotes, Worklist}

-- n rows hold a table that puts out as early as can be, and each state's class is noted
pub record Classed (g : Grid) (W : List ℕ) (base n : ℕ) : Type 0 where
  pub ready : Ready g W base n
  pub early : Early g.tags (standing g W base n)
  pub classes_are : (q : ℕ) → q < n → at g W (base + q) g.tags CLASS ≡ class (classes (table_at g W base n)) q

-- the table with its classes merged
unfoldable pub merged_at : Grid → List ℕ → ℕ → ℕ → Table
merged_at g W base n = merge g.tags (table_at g W base n)

-- the list has become l, of so many states
pub record Lists (g : Grid) (W X : List ℕ) (base n : ℕ) (l : List ℕ) (len : ℕ) : Type 0 where
  pub kept : Kept g W X (ListNotes g base n)
  pub list : Worklist g X base n len
  pub is : listed g X base len ≡ l
