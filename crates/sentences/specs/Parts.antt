-- What the parts of a run promise one another.
use Rattle.std.specs.Prelude.{ℕ, ◌+◌, ◌≤◌, ◌≡◌, List, ◌++◌, length, drop}
use Rattle.words.specs.Word.{differences}

-- a result has been written to the front of the output slice, and its changed tags counted
pub record Wrote (made sentence before after : List ℕ) (changes : ℕ) : Type 0 where
  pub counted : changes ≡ differences sentence made
  pub front : after ≡ made ++ drop (length made) before

-- so many places from one place up to another differ
pub record Counted (a b : List ℕ) (from to n : ℕ) : Type 0 where
  pub sum : n + differences (drop to a) (drop to b) ≡ differences (drop from a) (drop from b)
  pub few : n + from ≤ to
