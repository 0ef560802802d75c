-- The first place in a list that passes a test.
use Rattle.std.specs.Prelude.{ℕ, suc, List, [], ◌∷◌, Bool, true, false}

-- the length of the list if none does
abbrev pub find : {A : Type 0} → (A → Bool) → List A → ℕ
find p [] = 0
find p (y ∷ l) = elim (p y) [ true ↦ 0 | false ↦ suc (find p l) ]
