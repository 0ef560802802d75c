-- How words begin, and what two words have in common there.
use Rattle.std.specs.Prelude.{ℕ, suc, List, [], ◌∷◌, Bool, true, false, eqb}
use Rattle.words.specs.Word.{equal, same}

-- one more than the first tag, and 0 of no tags
abbrev pub first : List ℕ → ℕ
first [] = 0
first (a ∷ w) = suc a

-- 002, section 3.1: "We write u ∧ v for the longest common prefix of strings u and v"
abbrev pub meet : List ℕ → List ℕ → List ℕ
meet [] v = []
meet (a ∷ u) [] = []
meet (a ∷ u) (b ∷ v) = elim (eqb a b) [ true ↦ a ∷ meet u v | false ↦ [] ]

-- are two lists of words equal?
abbrev pub same_all : List (List ℕ) → List (List ℕ) → Bool
same_all = equal same
