-- Rules of the reader's arrays whose places lie in their patterns, have no set at them or behind, and get another tag.
use Rattle.std.specs.Prelude.{ℕ, ◌≤◌, ◌<◌, ◌≡◌, false, drop, get_or}
use Rattle.limits.specs.Limits.{most_rules}
use Rattle.cascades.specs.Pattern.{some_set, word}
use Rattle.books.specs.Arrays.{Arrays, Shaped, place_at, tag_at, rule_at}

pub record Usable (m : ℕ) (a : Arrays) : Type 0 where
  pub shaped : Shaped a
  pub few : m ≤ most_rules
  pub inside : (i : ℕ) → i < m → place_at a i < get_or a.lengths i 0
  pub plain_from : (i : ℕ) → i < m → some_set (drop (place_at a i) (rule_at a i).pattern) ≡ false
  pub new : (i : ℕ) → i < m → get_or (word (rule_at a i).pattern) (place_at a i) 0 ≡ tag_at a i → ⊥
