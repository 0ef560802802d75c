-- The numbered table, written to other rows.
use Rattle.std.specs.Prelude.{ℕ, ◌+◌, ◌≤◌, ◌<◌, ◌≡◌, ◌⊎◌, List, get_or}
use Rattle.transducers.specs.Transducer.{Shape}
use Rattle.transducers.specs.Table.{shape}
use Rattle.transducers.specs.Canonical.{Canonical}
use Rattle.transducers.specs.Tabulate.{Doing, Made}
use Rattle.transducers.specs.Number.{order, numbered}
use Rattle.workspace.specs.declared.Grid.{Grid}
use Rattle.workspace.specs.Cells.{Kept, InRows}
use Rattle.workspace.specs.Holds.{Holds, table_at}
use Rattle.worklist.specs.Worklist.{listed, ListNotes, Worklist}
use Rattle.number.specs.Order.{Classed, merged_at}

-- the list is the order
pub record Ordered (g : Grid) (W : List ℕ) (base n count : ℕ) : Type 0 where
  pub classed : Classed g W base n
  pub list : Worklist g W base n count
  pub is : listed g W base count ≡ order (merged_at g W base n)

-- the numbered transducer
abbrev pub numbered_at : Grid → List ℕ → ℕ → ℕ → Shape
numbered_at g W base n = numbered (shape (merged_at g W base n)) (order (merged_at g W base n))

-- q is the i-th state, and its row goes to the i-th of the rows before
pub record Rowing (g : Grid) (W : List ℕ) (base n count to i q : ℕ) : Type 0 where
  pub ordered : Ordered g W base n count
  pub before : to + count ≤ base
  pub place : i < count
  pub state : q ≡ get_or (order (merged_at g W base n)) i 0

-- some rows, and the notes of the order
abbrev pub RowsNotes : Grid → ℕ → ℕ → ℕ → ℕ → ℕ → ℕ → ℕ → Type 0
RowsNotes g to ceiling base n r c e = InRows to (to + ceiling) r c e ⊎ ListNotes g base n r c e

-- the number of states of the canonical table that does the same, and that table in the rows before if they are no more than the ceiling;
-- else only notes have changed
pub record Numbered (g : Grid) (W X : List ℕ) (base n to ceiling count : ℕ) : Type 0 where
  pub kept : Kept g W X (RowsNotes g to ceiling base n)
  pub many : ceiling < count → Kept g W X (ListNotes g base n)
  pub made : (d : ℕ) (f : List ℕ → List ℕ) → Doing g.tags d f (table_at g W base n) → Made g.tags count d f (λ t. Canonical g.tags (shape t))
  pub holds : (d : ℕ) (f : List ℕ → List ℕ) (does : Doing g.tags d f (table_at g W base n)) → count ≤ ceiling → Holds g X to (made d f does).table
