-- The classes to begin with: states are held together that have the same digest, a number made of the lengths of their words. States that
-- put out the same have one digest.
use Rattle.std.specs.Prelude.{ℕ, zero, suc, ◌+◌, ◌-◌, ◌*◌, ◌%◌, ◌≤◌, ◌<◌, ◌≡◌, List}
use Rattle.workspace.specs.declared.Grid.{Grid}
use Rattle.workspace.specs.Entries.{OUTPUT, FINAL, CLASS, HEAD}
use Rattle.workspace.specs.Cells.{at, Kept, Spare}
use Rattle.workspace.specs.Holds.{Ready}
use Rattle.merge.specs.Classes.{class_of}

-- one more than the first state of the bucket b, noted in the b-th row, and 0 if there is none
abbrev pub head_of : Grid → List ℕ → ℕ → ℕ → ℕ
head_of g W base b = at g W (base + b) g.tags HEAD

abbrev pub mixed : (ℕ → ℕ) → ℕ → ℕ → ℕ
mixed f h zero = h
mixed f h (suc a) = (mixed f h a * 31 + f a) % 0x10000

abbrev pub digest : Grid → List ℕ → ℕ → ℕ → ℕ
digest g W base q = mixed (λ a. at g W (base + q) a OUTPUT) (at g W (base + q) g.tags FINAL) g.tags

abbrev pub bucket : Grid → List ℕ → ℕ → ℕ → ℕ → ℕ
bucket g W base n q = digest g W base q % n

-- the states below i have the class of their bucket's first one
pub record Seating (g : Grid) (W : List ℕ) (base n i : ℕ) : Type 0 where
  pub ready : Ready g W base n
  pub low : (q : ℕ) → q < i → class_of g W base q ≤ q
  pub heads : (b : ℕ) → b < n → (head_of g W base b ≡ 0 → ⊥) → (head_of g W base b - 1 < i) × (class_of g W base (head_of g W base b - 1) ≡ head_of g W base b - 1)
  pub seats : (q : ℕ) → q < i → (head_of g W base (bucket g W base n q) ≡ 0 → ⊥) × (class_of g W base q ≡ head_of g W base (bucket g W base n q) - 1)

pub record Seated (g : Grid) (W X : List ℕ) (base n i : ℕ) : Type 0 where
  pub kept : Kept g W X (Spare g base (base + n) CLASS (HEAD + 1))
  pub seating : Seating g X base n i
