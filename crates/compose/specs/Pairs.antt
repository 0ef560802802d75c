-- The rows of the reached pairs of states: the members of a worklist are the pairs, and the i-th row is the state of the i-th pair.
use Rattle.std.specs.Prelude.{ℕ, ◌+◌, ◌<◌, ◌≡◌, ◌⊎◌, List}
use Rattle.transducers.specs.Transducer.{Shape}
use Rattle.workspace.specs.declared.Grid.{Grid}
use Rattle.workspace.specs.Entries.{NEXT, OUTPUT, FINAL}
use Rattle.workspace.specs.Cells.{at, word, Cell, InRows}
use Rattle.worklist.specs.Worklist.{member_of, ListNotes, Grown}

-- the step of the state i on a leads to the state of that pair
pub record Leads (g : Grid) (X : List ℕ) (base len i a pair : ℕ) (output : List ℕ) : Type 0 where
  pub inside : OUTPUT + at g X (base + i) a OUTPUT < g.depth
  pub next_below : at g X (base + i) a NEXT < len
  pub pair_is : member_of g X base (at g X (base + i) a NEXT) ≡ pair
  pub output_is : word g X (base + i) a OUTPUT ≡ output

-- a step or a row, and the notes of the list
abbrev pub StepNotes : Grid → ℕ → ℕ → ℕ → ℕ → ℕ → ℕ → ℕ → Type 0
StepNotes g base total i a r c e = Cell (base + i) a NEXT r c e ⊎ ListNotes g base total r c e

abbrev pub RowNotes : Grid → ℕ → ℕ → ℕ → ℕ → ℕ → ℕ → Type 0
RowNotes g base total i r c e = InRows (base + i) (base + i + 1) r c e ⊎ ListNotes g base total r c e

-- the step of the state i on a is that of its pair s in S
pub record StepPaired (g : Grid) (W X : List ℕ) (base total len i s : ℕ) (S : Shape) (a to : ℕ) : Type 0 where
  pub grown : Grown (StepNotes g base total i a) g W X base total len to
  pub step : Leads g X base to i a (S.next s a) (S.output s a)

-- so are the steps below a
pub record StepsPaired (g : Grid) (W X : List ℕ) (base total len i s : ℕ) (S : Shape) (a to : ℕ) : Type 0 where
  pub grown : Grown (RowNotes g base total i) g W X base total len to
  pub steps : (b : ℕ) → b < a → Leads g X base to i b (S.next s b) (S.output s b)

-- the state i does what its pair s does in S
pub record State (g : Grid) (X : List ℕ) (base len i s : ℕ) (S : Shape) : Type 0 where
  pub steps : (a : ℕ) → a < g.tags → Leads g X base len i a (S.next s a) (S.output s a)
  pub inside : FINAL + at g X (base + i) g.tags FINAL < g.depth
  pub final_is : word g X (base + i) g.tags FINAL ≡ S.final s

pub record RowPaired (g : Grid) (W X : List ℕ) (base total len i s : ℕ) (S : Shape) (to : ℕ) : Type 0 where
  pub grown : Grown (RowNotes g base total i) g W X base total len to
  pub state : State g X base to i s S
