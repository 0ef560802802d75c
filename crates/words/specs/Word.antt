-- A tag is a number. A sentence, a pattern and an output are words: lists of tags.
use Rattle.std.specs.Prelude.{ℕ, suc, ◌<◌, ◌≡◌, List, [], ◌∷◌, ◌++◌, Bool, true, false, eqb}

-- every tag of the word is below k
abbrev pub Below : ℕ → List ℕ → Type 0
Below k [] = Unit {0}
Below k (a ∷ w) = (a < k) × Below k w

-- is u a prefix of w?
abbrev pub prefix : List ℕ → List ℕ → Bool
prefix [] w = true
prefix (a ∷ u) [] = false
prefix (a ∷ u) (b ∷ w) = elim (eqb a b) [ true ↦ prefix u w | false ↦ false ]

-- x is a prefix of z, with the rest
pub record Prefix (x z : List ℕ) : Type 0 where
  pub rest : List ℕ
  pub split : z ≡ x ++ rest

-- the number of places at which two words differ, as far as both go
abbrev pub differences : List ℕ → List ℕ → ℕ
differences [] w = 0
differences (a ∷ v) [] = 0
differences (a ∷ v) (b ∷ w) = elim (eqb a b) [ true ↦ differences v w | false ↦ suc (differences v w) ]

-- are two lists equal, by a test for their members?
abbrev pub equal : {A : Type 0} → (A → A → Bool) → List A → List A → Bool
equal test [] [] = true
equal test [] (b ∷ v) = false
equal test (a ∷ u) [] = false
equal test (a ∷ u) (b ∷ v) = elim (test a b) [ true ↦ equal test u v | false ↦ false ]

-- are two words equal?
abbrev pub same : List ℕ → List ℕ → Bool
same = equal eqb
