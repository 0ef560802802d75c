-- The answer, on sentences that were worked out by hand.
use Prim.Native.Nat.{ℕ, zero, suc, ◌<◌}
use native.Mathlib.Omega.{arith}
use mathlib.Core.Path.{refl}
use mathlib.Core.List.{List, [], ◌∷◌}
use lib.ListN.{drop, length-drop}
use Rattle.words.specs.Word.{prefix}
use Rattle.places.proofs.Places.{prefix-short}
use Rattle.std.specs.Prelude.{Some, None}
use Rattle.leftmost.specs.Leftmost.{Found}

-- what holds at 0 holds before 1
before_1 : (P : ℕ → Type 0) → P 0 → (j : ℕ) → j < 1 → P j
before_1 P p zero h = p
before_1 P p (suc j) h = absurd (omega arith)

-- document 01: "In 0 0 1 0 1 the second 0 1 stays"
first_of_two : Found (prefix (0 ∷ 1 ∷ [])) (0 ∷ 0 ∷ 1 ∷ 0 ∷ 1 ∷ []) (Some 1)
first_of_two = record { here = refl; least = before_1 _ refl }

-- in the part behind that match it begins at 0, the place 3 of the sentence
behind_it : Found (prefix (0 ∷ 1 ∷ [])) (0 ∷ 1 ∷ []) (Some 0)
behind_it = record { here = refl; least = λ j h. absurd (omega arith) }

-- at the very end, and beyond it
at_the_end : Found (prefix (1 ∷ [])) (0 ∷ 1 ∷ []) (Some 1)
at_the_end = record { here = refl; least = before_1 _ refl }

beyond_the_end : Found (prefix (1 ∷ 0 ∷ [])) (0 ∷ 1 ∷ []) None
beyond_the_end zero = refl
beyond_the_end (suc zero) = refl
beyond_the_end (suc (suc i)) =
    let s : List ℕ = 0 ∷ 1 ∷ [] in
    prefix-short (1 ∷ 0 ∷ []) (drop (suc (suc i)) s) (omega (arith, length-drop (suc (suc i)) s))
