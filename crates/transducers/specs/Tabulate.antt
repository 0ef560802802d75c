-- Functions written out as lists and tables, so that a phase computes each entry once.
use Rattle.std.specs.Prelude.{ℕ, zero, suc, ◌<◌, ◌≡◌, length, List, [], ◌∷◌}
use Rattle.transducers.specs.Transducer.{Shape, puts}
use Rattle.transducers.specs.Table.{Step, Row, Table, row, shape}
use Rattle.transducers.specs.Canonical.{Same, Sound, Held}

-- f i, f (i + 1), .. : n of them
abbrev pub tabulate : {A : Type 0} → ℕ → ℕ → (ℕ → A) → List A
tabulate zero i f = []
tabulate (suc n) i f = f i ∷ tabulate n (suc i) f

abbrev pub step_of : Shape → ℕ → ℕ → Step
step_of S q a = record { next = S.next q a; output = S.output q a }

abbrev pub row_of : ℕ → Shape → ℕ → Row
row_of k S q = record { final = S.final q; steps = tabulate k 0 (step_of S q) }

-- the states of S as rows of k steps
abbrev pub table : ℕ → Shape → Table
table k S = tabulate S.count 0 (row_of k S)

-- every row has exactly k steps
abbrev pub Rows : ℕ → Table → Type 0
Rows k t = (q : ℕ) → q < length t → length (row t q).steps ≡ k

-- a table of rows of k steps that does f, and no state of which holds more than d tags
pub record Doing (k d : ℕ) (f : List ℕ → List ℕ) (t : Table) : Type 0 where
  pub rows : Rows k t
  pub sound : Sound k (shape t)
  pub held : Held d (shape t)
  pub does : Same k (puts (shape t) 0) f

-- what a phase makes: a table of n states that does f, no state of which holds more than d tags, and of which P
pub record Made (k n d : ℕ) (f : List ℕ → List ℕ) (P : Table → Type 0) : Type 0 where
  pub table : Table
  pub long : length table ≡ n
  pub doing : Doing k d f table
  pub so : P table

-- nothing more is said of it
abbrev pub Any : Table → Type 0
Any t = Unit {0}
