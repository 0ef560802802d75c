-- Work until it rests: a function is applied again and again, until it no longer changes the size of what it is applied to.
use Rattle.std.specs.Prelude.{ℕ, zero, suc, ◌+◌, List, [], ◌∷◌, true, false, eqb}

-- n rounds at most
abbrev pub rounds : {A : Type 0} → (A → ℕ) → (A → A) → ℕ → A → A
rounds size f zero l = l
rounds size f (suc n) l = let m = f l in elim (eqb (size m) (size l)) [ true ↦ l | false ↦ rounds size f n m ]

abbrev pub total : List ℕ → ℕ
total [] = 0
total (n ∷ l) = n + total l
