-- The part of a result that differs from its sentence (document 01, "Proof sheet").
use Rattle.std.specs.Prelude.{ℕ, zero, suc, ◌+◌, ◌-◌, ◌≡◌, true, false, List, [], ◌∷◌, eqb, length, take, drop}
use Rattle.std.specs.Borrow.{Bor}

-- the first place at which two words differ; their length where there is none
abbrev pub first_difference : List ℕ → List ℕ → ℕ
first_difference [] w = 0
first_difference (a ∷ v) [] = 0
first_difference (a ∷ v) (b ∷ w) = elim (eqb a b) [ true ↦ suc (first_difference v w) | false ↦ 0 ]

-- one more than the last place at which they differ; 0 where there is none
abbrev pub last_difference : List ℕ → List ℕ → ℕ
last_difference [] w = 0
last_difference (a ∷ v) [] = 0
last_difference (a ∷ v) (b ∷ w) = elim (last_difference v w) [ zero ↦ elim (eqb a b) [ true ↦ 0 | false ↦ 1 ] | suc n ↦ suc (suc n) ]

-- the whole sentence, or the part of the result from one place up to another, which is not included
pub data Span : Type 0 where
  whole : Span
  part : ℕ → ℕ → Span

-- "the sentence itself where both agree throughout, otherwise the part of the result from the first differing place to the last
-- differing one, both included. Of unequal lengths it hands back the empty front of the result"
abbrev pub span : List ℕ → List ℕ → Span
span sentence made =
    elim (eqb (length sentence) (length made)) [
      | false ↦ part 0 0
      | true ↦ elim (last_difference sentence made) [ zero ↦ whole | suc n ↦ part (first_difference sentence made) (suc n) ]
    ]

-- r is that reference: the sentence's own, or one that points into the result, at its first place, and holds that part
abbrev pub IsSpan : Bor (List ℕ) → Bor (List ℕ) → Span → Bor (List ℕ) → Type 0
IsSpan sentence made whole r = r ≡ sentence
IsSpan sentence made (part from to) r =
    (r.ref_ptr.0 ≡ made.ref_ptr.0) × (r.ref_ptr.1 ≡ made.ref_ptr.1 + from) × (r.now ≡ take (to - from) (drop from made.now))
