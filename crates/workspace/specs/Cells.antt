-- The work slice: rows, each of a cell for every tag and one more, each of `depth` entries. Nothing above this crate sees a place
-- in the slice: an entry is named by its row, its cell and its number within the cell.
use Rattle.std.specs.Prelude.{ℕ, suc, ◌+◌, ◌*◌, ◌≤◌, ◌<◌, ◌≡◌, List, length, get_or, set, take, drop}
use Rattle.transducers.specs.Tabulate.{tabulate}
use Rattle.workspace.specs.declared.Grid.{Grid}

unfoldable pub ix : Grid → ℕ → ℕ → ℕ → ℕ
ix g r c e = (r * (g.tags + 1) + c) * g.depth + e

-- what stands at an entry
unfoldable pub at : Grid → List ℕ → ℕ → ℕ → ℕ → ℕ
at g W r c e = get_or W (ix g r c e) 0

unfoldable pub write : Grid → List ℕ → ℕ → ℕ → ℕ → ℕ → List ℕ
write g W r c e v = set W (ix g r c e) v

-- a word in a cell: its length at entry s, its tags after
unfoldable pub word : Grid → List ℕ → ℕ → ℕ → ℕ → List ℕ
word g W r c s = tabulate (at g W r c s) (suc s) (at g W r c)

-- the slice has the rows
pub record Sized (g : Grid) (W : List ℕ) : Type 0 where
  pub room : g.rows * (g.tags + 1) * g.depth ≤ length W
  pub rows_small : g.rows < 0x100000000
  pub tags_small : g.tags < 0x10000
  pub depth_small : g.depth < 0x10000

pub record In (g : Grid) (r c e : ℕ) : Type 0 where
  pub row : r < g.rows
  pub cell : c < g.tags + 1
  pub entry : e < g.depth

-- a word of n tags at entry s is within its cell
abbrev pub Fits : Grid → ℕ → ℕ → Type 0
Fits g s n = n + (s + 1) ≤ g.depth

-- the word of that length at s is within its cell
pub record Inner (g : Grid) (W : List ℕ) (r c s : ℕ) : Type 0 where
  pub row : r < g.rows
  pub cell : c < g.tags + 1
  pub inside : s + at g W r c s < g.depth

-- only entries of the region P differ
pub record Kept (g : Grid) (W X : List ℕ) (P : ℕ → ℕ → ℕ → Type 0) : Type 0 where
  pub long : length X ≡ length W
  pub same : (r c e : ℕ) → c < g.tags + 1 → e < g.depth → (P r c e → ⊥) → at g X r c e ≡ at g W r c e

-- regions: an entry, a cell from an entry on, a row, some rows, the spare entries of some rows' last cells
abbrev pub Entry : ℕ → ℕ → ℕ → ℕ → ℕ → ℕ → Type 0
Entry r c e r' c' e' = (r' ≡ r) × (c' ≡ c) × (e' ≡ e)

abbrev pub Cell : ℕ → ℕ → ℕ → ℕ → ℕ → ℕ → Type 0
Cell r c s r' c' e' = (r' ≡ r) × (c' ≡ c) × (s ≤ e')

abbrev pub InRows : ℕ → ℕ → ℕ → ℕ → ℕ → Type 0
InRows lo hi r' c' e' = (lo ≤ r') × (r' < hi)

abbrev pub Spare : Grid → ℕ → ℕ → ℕ → ℕ → ℕ → ℕ → ℕ → Type 0
Spare g lo hi from to r' c' e' = (lo ≤ r') × (r' < hi) × (c' ≡ g.tags) × (from ≤ e') × (e' < to)

-- an entry was read, written
pub record Got (g : Grid) (W : List ℕ) (r c e v : ℕ) : Type 0 where
  pub is : v ≡ at g W r c e
  pub small : v < 65536

pub record Put (g : Grid) (W X : List ℕ) (r c e v : ℕ) : Type 0 where
  pub kept : Kept g W X (Entry r c e)
  pub here : at g X r c e ≡ v

-- entry e of n rows' last cells is zero, as far as the row j
pub record Cleared (g : Grid) (W X : List ℕ) (base n e j : ℕ) : Type 0 where
  pub kept : Kept g W X (Spare g base (base + n) e (e + 1))
  pub zero : (q : ℕ) → q < j → at g X (base + q) g.tags e ≡ 0

-- a cell has another word
pub record Written (g : Grid) (W X : List ℕ) (r c s : ℕ) (w : List ℕ) : Type 0 where
  pub kept : Kept g W X (Cell r c s)
  pub here : word g X r c s ≡ w
  pub size : at g X r c s ≡ length w

-- the tags of a word from one place up to another
abbrev pub part : ℕ → ℕ → List ℕ → List ℕ
part from to w = drop from (take to w)
