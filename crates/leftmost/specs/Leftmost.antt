-- Where a pattern begins in the part of a sentence that is lent.
use Rattle.std.specs.Prelude.{ℕ, ◌<◌, ◌≡◌, Bool, true, false, List, drop, Option, Some, None}

-- i is "the least place at which the pattern begins" (document 02, W5), where `begins` is the test at a place
pub record Least (begins : List ℕ → Bool) (s : List ℕ) (i : ℕ) : Type 0 where
  pub here : begins (drop i s) ≡ true
  pub least : (j : ℕ) → j < i → begins (drop j s) ≡ false

-- "the least place at which the pattern begins in the part lent to it, or [..] none exactly if it occurs nowhere there"
abbrev pub Found : (List ℕ → Bool) → List ℕ → Option ℕ → Type 0
Found begins s (Some i) = Least begins s i
Found begins s None = (i : ℕ) → begins (drop i s) ≡ false
