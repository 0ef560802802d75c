-- What the index of a table tells of one step.
use Rattle.std.specs.Prelude.{ℕ, ◌+◌, ◌≤◌, ◌-◌, ◌≡◌, List, length, get_or}
use Rattle.steps.specs.Entry.{base_of, count_of}

-- the entries of the step on a, of a state whose entries begin at c, have the counts that a balanced step has
abbrev pub Level : List ℕ → ℕ → ℕ → Type 0
Level ix c a =
    count_of (get_or ix (c + 1 + a) 0) + count_of (get_or ix (base_of (get_or ix (c + 1 + a) 0) - 1) 0) ≡ count_of (get_or ix c 0) + 1

-- the step's entry leads to another
abbrev pub Linked : List ℕ → ℕ → ℕ → Type 0
Linked ix c a = (1 ≤ base_of (get_or ix (c + 1 + a) 0)) × (base_of (get_or ix (c + 1 + a) 0) ≤ length ix)
