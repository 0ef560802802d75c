-- What the functions over labels and listed words ask and promise.
use Rattle.std.specs.Prelude.{ℕ, ◌+◌, ◌*◌, ◌≤◌, ◌<◌, ◌≡◌, List, length}
use Rattle.limits.specs.Limits.{most_states, most_tags}
use Rattle.agreement.specs.Search.{renamed}
use Rattle.agreement.specs.Stored.{label_at, Chained, PairPut}

-- the most states that two tables have together
abbrev pub most_states_two : ℕ
most_states_two = 2 * most_states

-- so many labels have been given anew
pub record Labeled (before after : List ℕ) (total : ℕ) (label : ℕ → ℕ) : Type 0 where
  pub long : length after ≡ length before
  pub is : (x : ℕ) → x < total → label_at after x ≡ label x

-- nothing was done since x and y have one label; or the n-th word is listed, and the label of y is that of x
pub record Linked (labels pairs labels' pairs' : List ℕ) (total n x y left right before tag m : ℕ) : Type 0 where
  pub labels_long : length labels' ≡ length labels
  pub pairs_long : length pairs' ≡ length pairs
  pub level : label_at labels y ≡ label_at labels x → (m ≡ n) × (labels' ≡ labels) × (pairs' ≡ pairs)
  pub listed :
      (label_at labels y ≡ label_at labels x → ⊥)
      → (m ≡ n + 1)
      × PairPut pairs pairs' n left right before tag
      × Labeled labels labels' total (λ z. renamed (label_at labels y) (label_at labels x) (label_at labels z))

-- n words over k tags are stored
pub record StoredWords (k n : ℕ) (pairs : List ℕ) : Type 0 where
  pub word : ℕ → List ℕ
  pub chained : Chained k n word pairs
  pub short : (j : ℕ) → j < n → length (word j) ≤ j
  pub few : n ≤ most_states_two
  pub room : 4 * n ≤ length pairs
  pub few_tags : k ≤ most_tags
