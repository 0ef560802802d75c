-- Where a pattern begins among some places of a sentence.
use Rattle.std.specs.Prelude.{ℕ, ◌+◌, ◌≤◌, ◌<◌, ◌≡◌, true, false, List, length, drop, Option, Some, None}
use Rattle.words.specs.Word.{prefix}

-- u, which is not empty, has room at every place from a up to b
pub record Places (u s : List ℕ) (a b : ℕ) : Type 0 where
  pub some : 0 < length u
  pub order : a ≤ b
  pub room : b + length u ≤ length s + 1

-- P at every place from a up to b
abbrev pub All : (ℕ → Type 0) → ℕ → ℕ → Type 0
All P a b = (i : ℕ) → a ≤ i → i < b → P i

-- u begins at no place from a up to b
abbrev pub Free : List ℕ → List ℕ → ℕ → ℕ → Type 0
Free u s = All (λ i. prefix u (drop i s) ≡ false)

-- i is the least from a up to b at which it does
pub record LeastWithin (u s : List ℕ) (a b i : ℕ) : Type 0 where
  pub after : a ≤ i
  pub inside : i < b
  pub here : prefix u (drop i s) ≡ true
  pub passed : Free u s a i

-- the least such place, or none
abbrev pub FoundWithin : List ℕ → List ℕ → ℕ → ℕ → Option ℕ → Type 0
FoundWithin u s a b (Some i) = LeastWithin u s a b i
FoundWithin u s a b None = Free u s a b
