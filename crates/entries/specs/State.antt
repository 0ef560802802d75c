-- A state by its entries in the index of a table: where those of its steps begin, and what they are if it rests.
use Rattle.std.specs.Prelude.{ℕ, ◌+◌, ◌*◌, ◌<◌, ◌≡◌, List, get_or}
use Rattle.steps.specs.Entry.{base_of, count_of, tag_of}

-- where the entries of a state's steps begin
abbrev pub Base : ℕ → ℕ → ℕ → Type 0
Base k q base = base ≡ q * (k + 1) + 1

-- an entry of a step that puts out the tag a alone and leads to the base
abbrev pub Stays : ℕ → ℕ → ℕ → Type 0
Stays e base a = (base_of e ≡ base) × (count_of e ≡ 1) × (tag_of e ≡ a)

-- the entries of a state that holds nothing, puts out each tag as it is, and stays
pub record RestsIn (ix : List ℕ) (k cell : ℕ) : Type 0 where
  pub empty : count_of (get_or ix cell 0) ≡ 0
  pub steps : (a : ℕ) → a < k → Stays (get_or ix (cell + 1 + a) 0) (cell + 1) a
