-- The matcher by bits, as the code has it: a mask for each tag.
use Rattle.std.specs.Prelude.{ℕ, ◌+◌, ◌*◌, ◌^◌, ◌≤◌, ◌<◌, ◌≡◌, Bool, true, false, List, eqb, get_or}
use Rattle.std.specs.Int.Bits.{bit_and}
use Rattle.limits.specs.Limits.{most_tags}
use Rattle.cascades.specs.Pattern.{Class}
use Rattle.cascades.specs.Rule.{Kind}
use Rattle.minimal.specs.Matcher.{Matcher}
use Rattle.minimal.specs.Bits.{accepting, width, alive_states, alive_fired}

abbrev pub bit : Bool → ℕ
bit b = elim b [ true ↦ 1 | false ↦ 0 ]

-- which places of the pattern accept each of the first k tags
pub record Masks (P : List Class) (k : ℕ) (masks : List ℕ) : Type 0 where
  pub entry : (a : ℕ) → a < k → get_or masks a 0 ≡ accepting P a

-- k masks, not too many, of n places
pub record Narrow (n k : ℕ) (masks : List ℕ) : Type 0 where
  pub few : k ≤ most_tags
  pub below : (a : ℕ) → a < k → get_or masks a 0 < 2 ^ n

abbrev pub stepped : ℕ → ℕ → ℕ
stepped s mask = bit_and (2 * s + 1) mask

-- the longest match alive, whatever the pattern's length is
abbrev pub Longest : ℕ → ℕ → Type 0
Longest s j = (n : ℕ) → s < 2 ^ n → j ≡ width n s

-- of a pattern of n places, by those masks
abbrev pub by_masks : Kind → ℕ → List ℕ → Matcher
by_masks k n masks = record { states = alive_states k n; longest = width n; step = λ s a. stepped s (get_or masks a 0); fired = alive_fired k n }

-- where the tag a leads from s, if `next` is alive then: the start after an end tag
abbrev pub leads : Kind → ℕ → ℕ → ℕ → ℕ → ℕ → ℕ
leads k n e s next a =
    elim (eqb a e) [
      | true ↦ 0
      | false ↦ elim (eqb (width n s) n) [ true ↦ s | false ↦ elim (eqb (width n next) n) [ true ↦ alive_fired k n | false ↦ next ] ]
    ]
