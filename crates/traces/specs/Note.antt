-- Numbers beside tags.
use Rattle.std.specs.Prelude.{ℕ, true, false, List, [], ◌∷◌, eqb}

-- x in v where w and w', which lie beside it, differ
abbrev pub note : ℕ → List ℕ → List ℕ → List ℕ → List ℕ
note x [] w' v = v
note x (a ∷ w) [] v = v
note x (a ∷ w) (b ∷ w') [] = []
note x (a ∷ w) (b ∷ w') (c ∷ v) = elim (eqb a b) [ true ↦ c | false ↦ x ] ∷ note x w w' v
