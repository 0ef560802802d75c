-- Each front is put out one step earlier: what the cells hold then.
use Rattle.std.specs.Prelude.{ℕ, ◌+◌, ◌≤◌, ◌<◌, ◌≡◌, List, ◌++◌, take, drop}
use Rattle.transducers.specs.Table.{shape}
use Rattle.transducers.specs.Canonical.{Early}
use Rattle.transducers.specs.Tabulate.{Doing}
use Rattle.workspace.specs.declared.Grid.{Grid}
use Rattle.workspace.specs.Entries.{NEXT, OUTPUT, FINAL}
use Rattle.workspace.specs.Cells.{at, word, Sized, Inner, Kept, InRows, Fits}
use Rattle.workspace.specs.Holds.{StepAt, table_at, Stands}
use Rattle.normalize.specs.Fronts.{front_size}

-- the step of q on a: its next state, and its output with the next state's front, without its own
abbrev pub next_at : Grid → List ℕ → ℕ → ℕ → ℕ → ℕ
next_at g W base q a = at g W (base + q) a NEXT

abbrev pub stripped_at : Grid → List ℕ → ℕ → ℕ → ℕ → List ℕ
stripped_at g W base q a =
    drop (front_size g W base q) (word g W (base + q) a OUTPUT ++ take (front_size g W base (next_at g W base q a)) (word g W (base + next_at g W base q a) g.tags FINAL))

-- the step can be stripped
pub record Strip (g : Grid) (W : List ℕ) (base q a : ℕ) : Type 0 where
  pub sized : Sized g W
  pub tag : a < g.tags
  pub from : Inner g W (base + q) a OUTPUT
  pub to : Inner g W (base + next_at g W base q a) g.tags FINAL
  pub front : front_size g W base (next_at g W base q a) ≤ at g W (base + next_at g W base q a) g.tags FINAL
  pub covers : front_size g W base q ≤ at g W (base + q) a OUTPUT + front_size g W base (next_at g W base q a)
  pub room : Fits g OUTPUT (at g W (base + q) a OUTPUT + front_size g W base (next_at g W base q a))

-- steps in some rows and cells
abbrev pub Steps : ℕ → ℕ → ℕ → ℕ → ℕ → ℕ → Type 0
Steps lo hi upto r' c' e' = (lo ≤ r') × (r' < hi) × (c' < upto)

-- the steps of q below a were stripped
pub record RowStripped (g : Grid) (W X : List ℕ) (base q a : ℕ) : Type 0 where
  pub kept : Kept g W X (Steps (base + q) (base + q + 1) a)
  pub steps : (b : ℕ) → b < a → StepAt g X (base + q) b (next_at g W base q b) (stripped_at g W base q b)

-- those of the states below j
pub record StepsStripped (g : Grid) (W X : List ℕ) (base j : ℕ) : Type 0 where
  pub kept : Kept g W X (Steps base (base + j) g.tags)
  pub steps : (q b : ℕ) → q < j → b < g.tags → StepAt g X (base + q) b (next_at g W base q b) (stripped_at g W base q b)

-- final words in some rows
abbrev pub Finals : Grid → ℕ → ℕ → ℕ → ℕ → ℕ → Type 0
Finals g lo hi r' c' e' = (lo ≤ r') × (r' < hi) × (c' ≡ g.tags) × (FINAL ≤ e')

-- the final words of the states below j were stripped
pub record FinalsStripped (g : Grid) (W X : List ℕ) (base j : ℕ) : Type 0 where
  pub kept : Kept g W X (Finals g base (base + j))
  pub finals : (q : ℕ) → q < j → word g X (base + q) g.tags FINAL ≡ drop (front_size g W base q) (word g W (base + q) g.tags FINAL)

-- the rows hold a table that does the same, and each state puts out as early as can be
pub record Normalized (g : Grid) (W X : List ℕ) (base n : ℕ) : Type 0 where
  pub kept : Kept g W X (InRows base (base + n))
  pub stands : (d : ℕ) (f : List ℕ → List ℕ) → Doing g.tags d f (table_at g W base n) → Stands g X base n d f (λ t. Early g.tags (shape t))
