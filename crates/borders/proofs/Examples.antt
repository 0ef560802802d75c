-- Borders and comparisons, computed.
use Prim.Native.Nat.{ℕ}
use mathlib.Core.Path.{◌≡◌, refl}
use mathlib.Core.List.{List, [], ◌∷◌}
use Rattle.borders.specs.Border.{border, comparisons}

abbrev borders : List ℕ → List ℕ
borders u = border u 1 ∷ border u 2 ∷ border u 3 ∷ border u 4 ∷ border u 5 ∷ []

-- the pattern of 002's figure 1: after abab the last b shortens the border from two to none
pub ababb : borders (0 ∷ 1 ∷ 0 ∷ 1 ∷ 1 ∷ []) ≡ 0 ∷ 0 ∷ 1 ∷ 2 ∷ 0 ∷ []
ababb = refl

pub ababb_compared : comparisons (0 ∷ 1 ∷ 0 ∷ 1 ∷ 1 ∷ []) ≡ 5
ababb_compared = refl

-- after aba the next a follows the border's border
pub abaab : borders (0 ∷ 1 ∷ 0 ∷ 0 ∷ 1 ∷ []) ≡ 0 ∷ 0 ∷ 1 ∷ 1 ∷ 2 ∷ []
abaab = refl

pub abaab_compared : comparisons (0 ∷ 1 ∷ 0 ∷ 0 ∷ 1 ∷ []) ≡ 5
abaab_compared = refl

-- equal tags: one comparison for each tag after the first
pub aaaaa_compared : comparisons (0 ∷ 0 ∷ 0 ∷ 0 ∷ 0 ∷ []) ≡ 4
aaaaa_compared = refl

-- equal tags and another one: the border is shortened tag by tag
pub aaaab_compared : comparisons (0 ∷ 0 ∷ 0 ∷ 0 ∷ 1 ∷ []) ≡ 7
aaaab_compared = refl
