-- Rows of the work slice that hold a table: a row is a state. Its cell a < K is the step on the tag a, its last cell has the final word and
-- what the phases note of the state.
use Rattle.std.specs.Prelude.{ℕ, ◌+◌, ◌≤◌, ◌<◌, ◌≡◌, List, length}
use Rattle.transducers.specs.Transducer.{Shape}
use Rattle.transducers.specs.Table.{Table, shape}
use Rattle.transducers.specs.Canonical.{Inside, Sound, Held}
use Rattle.transducers.specs.Tabulate.{table, Rows, Made}
use Rattle.workspace.specs.declared.Grid.{Grid}
use Rattle.workspace.specs.Entries.{NEXT, OUTPUT, FINAL}
use Rattle.workspace.specs.Cells.{at, word, Sized, Kept, Cell, InRows, Fits}

-- a cell holds a step
pub record StepAt (g : Grid) (W : List ℕ) (r a next : ℕ) (output : List ℕ) : Type 0 where
  pub next_is : at g W r a NEXT ≡ next
  pub output_is : word g W r a OUTPUT ≡ output

-- a cell has another step
pub record Stepped (g : Grid) (W X : List ℕ) (r a next : ℕ) (output : List ℕ) : Type 0 where
  pub kept : Kept g W X (Cell r a NEXT)
  pub step : StepAt g X r a next output

-- a row holds the state q of S
pub record RowAt (g : Grid) (W : List ℕ) (r : ℕ) (S : Shape) (q : ℕ) : Type 0 where
  pub steps : (a : ℕ) → a < g.tags → StepAt g W r a (S.next q a) (S.output q a)
  pub final_is : word g W r g.tags FINAL ≡ S.final q

-- a row has another state
pub record Rowed (g : Grid) (W X : List ℕ) (r : ℕ) (S : Shape) (q : ℕ) : Type 0 where
  pub kept : Kept g W X (InRows r (r + 1))
  pub state : RowAt g X r S q

-- the words of S are within their cells
pub record Roomy (g : Grid) (S : Shape) : Type 0 where
  pub outputs : (q a : ℕ) → q < S.count → a < g.tags → Fits g OUTPUT (length (S.output q a))
  pub finals : (q : ℕ) → q < S.count → Fits g FINAL (length (S.final q))

-- the transducer that n rows from a base hold, and its table
abbrev pub shape_at : Grid → List ℕ → ℕ → ℕ → Shape
shape_at g W base n =
    record {
      count = n;
      next = λ q a. at g W (base + q) a NEXT;
      output = λ q a. word g W (base + q) a OUTPUT;
      final = λ q. word g W (base + q) g.tags FINAL;
    }

unfoldable pub table_at : Grid → List ℕ → ℕ → ℕ → Table
table_at g W base n = table g.tags (shape_at g W base n)

abbrev pub standing : Grid → List ℕ → ℕ → ℕ → Shape
standing g W base n = shape (table_at g W base n)

-- the rows from a base hold the table
pub record Holds (g : Grid) (W : List ℕ) (base : ℕ) (t : Table) : Type 0 where
  pub room : base + length t ≤ g.rows
  pub rows : Rows g.tags t
  pub inside : Inside g.tags (shape t)
  pub roomy : Roomy g (shape t)
  pub states : (q : ℕ) → q < length t → RowAt g W (base + q) (shape t) q

-- the rows from a base hold what a phase made
pub record Stands (g : Grid) (W : List ℕ) (base n d : ℕ) (f : List ℕ → List ℕ) (P : Table → Type 0) : Type 0 where
  pub made : Made g.tags n d f P
  pub holds : Holds g W base made.table

-- a row that is being filled: the steps below a are S's
pub record Stepping (g : Grid) (W X : List ℕ) (r : ℕ) (S : Shape) (q a : ℕ) : Type 0 where
  pub kept : Kept g W X (InRows r (r + 1))
  pub steps : (b : ℕ) → b < a → StepAt g X r b (S.next q b) (S.output q b)

-- rows that are being filled: those below j are S's
pub record Filling (g : Grid) (W X : List ℕ) (base n : ℕ) (S : Shape) (j : ℕ) : Type 0 where
  pub kept : Kept g W X (InRows base (base + n))
  pub states : (q : ℕ) → q < j → RowAt g X (base + q) S q

-- n rows hold a transducer whose words have room, and whose states can be noted
pub record Ready (g : Grid) (W : List ℕ) (base n : ℕ) : Type 0 where
  pub sized : Sized g W
  pub inside : base + n ≤ g.rows
  pub small : n < 0x10000
  pub holds : Holds g W base (table_at g W base n)
  pub sound : Sound g.tags (standing g W base n)
  pub most : ℕ
  pub held : Held most (standing g W base n)
  pub room : Fits g FINAL most
