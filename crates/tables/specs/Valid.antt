-- "K is 2 to 48, S is 1 to 256, every tag is below K, every next state below S, state 0 holds nothing, and each step from a state
-- holding d to one holding e puts out exactly d + 1 − e tags. It needn't be the smallest" (document 01). "The held tags are the
-- final word of the state", at most 80. In place of 48 and 80 the limits of the call (document 02, W8).
use Rattle.std.specs.Prelude.{ℕ, ◌+◌, ◌≤◌, ◌<◌, ◌≡◌, [], length}
use Rattle.words.specs.Word.{Below}
use Rattle.limits.specs.Limits.{fewest_tags, most_states, most_held}
use Rattle.limits.specs.declared.Limits.{Limits}
use Rattle.transducers.specs.Table.{Table, row, step}

pub record ValidTable (lim : Limits) (k : ℕ) (t : Table) : Type 0 where
  pub tags_least : fewest_tags ≤ k
  pub tags_most : k ≤ lim.tags
  pub states_least : 1 ≤ length t
  pub states_most : length t ≤ most_states
  pub start : (row t 0).final ≡ []
  pub held : (q : ℕ) → q < length t → length (row t q).final ≤ most_held lim
  pub final_below : (q : ℕ) → q < length t → Below k (row t q).final
  pub whole : (q : ℕ) → q < length t → length (row t q).steps ≡ k
  pub next_below : (q a : ℕ) → q < length t → a < k → (step t q a).next < length t
  pub output_below : (q a : ℕ) → q < length t → a < k → Below k (step t q a).output
  pub balanced :
      (q a : ℕ)
      → q < length t
      → a < k
      → length (step t q a).output + length (row t (step t q a).next).final ≡ length (row t q).final + 1
