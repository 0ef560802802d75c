-- Rows of the work slice as bytes.
use Rattle.std.specs.Prelude.{ℕ, ◌+◌, ◌≤◌, ◌<◌, ◌≡◌, List, length}
use Rattle.std.proofs.lemmas.List.Edits.{sets}
use Rattle.words.specs.Word.{Below}
use Rattle.transducers.specs.Table.{Step, Row}
use Rattle.transducers.specs.Tabulate.{tabulate}
use Rattle.workspace.specs.declared.Grid.{Grid}
use Rattle.workspace.specs.Entries.{NEXT, OUTPUT, FINAL}
use Rattle.workspace.specs.Cells.{at, word, Sized, Inner}

-- the bytes have been written from a place on
pub record BytesWritten (before after : List ℕ) (from : ℕ) (bytes : List ℕ) (to : ℕ) : Type 0 where
  pub is : after ≡ sets before from bytes
  pub end : to ≡ from + length bytes

abbrev pub step_in : Grid → List ℕ → ℕ → ℕ → Step
step_in g W r a = record { next = at g W r a NEXT; output = word g W r a OUTPUT }

abbrev pub steps_in : Grid → List ℕ → ℕ → List Step
steps_in g W r = tabulate g.tags 0 (step_in g W r)

abbrev pub row_in : Grid → List ℕ → ℕ → Row
row_in g W r = record { final = word g W r g.tags FINAL; steps = steps_in g W r }

-- a word lies within its cell, and its tags are bytes
pub record Bytes (g : Grid) (W : List ℕ) (r c s : ℕ) : Type 0 where
  pub inner : Inner g W r c s
  pub small : Below 0x100 (word g W r c s)

-- a row that can be written as bytes
pub record Encodable (g : Grid) (W : List ℕ) (r : ℕ) : Type 0 where
  pub sized : Sized g W
  pub outputs : (a : ℕ) → a < g.tags → Bytes g W r a OUTPUT
  pub final : Bytes g W r g.tags FINAL
  pub few : at g W r g.tags FINAL < 0x100

-- the rows from a base, as a table
abbrev pub rows_in : Grid → List ℕ → ℕ → ℕ → List Row
rows_in g W base n = tabulate n 0 (λ q. row_in g W (base + q))

-- rows that can be written as a table
pub record Writable (g : Grid) (W : List ℕ) (base n : ℕ) : Type 0 where
  pub sized : Sized g W
  pub rows : (q : ℕ) → q < n → Encodable g W (base + q)
  pub room : base + n ≤ g.rows
  pub tags : g.tags < 0x100
  pub states : n < 0x10000

-- a length has been measured, and is no larger than a bound
pub record Measured (bytes : List ℕ) (most n : ℕ) : Type 0 where
  pub is : n ≡ length bytes
  pub low : n ≤ most
