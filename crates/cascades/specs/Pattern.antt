-- Patterns (document 01, "Rule, cascade, machine"), and sets of tags in them (document 02, W9).
use Rattle.std.specs.Prelude.{ℕ, zero, suc, ◌+◌, ◌/◌, ◌%◌, ◌^◌, Bool, true, false, List, [], ◌∷◌, eqb}

-- what a place of a pattern accepts: one tag; or any tag of a set, which is a number whose bits are its tags, "lowest bit for tag 0"
pub data Class : Type 0 where
  one : ℕ → Class
  any : ℕ → Class

abbrev pub member : ℕ → ℕ → Bool
member s a = eqb (s / 2 ^ a % 2) 1

-- how many tags below n a set holds: "counted as its ones"
abbrev pub ones : ℕ → ℕ → ℕ
ones zero s = 0
ones (suc n) s = s % 2 + ones n (s / 2)

-- "The place matches each tag in the set"
abbrev pub accepts : Class → ℕ → Bool
accepts (one b) a = eqb b a
accepts (any s) a = member s a

-- does the word begin with tags that the places of the pattern accept, one by one?
abbrev pub fits : List Class → List ℕ → Bool
fits [] w = true
fits (c ∷ u) [] = false
fits (c ∷ u) (a ∷ w) = elim (accepts c a) [ true ↦ fits u w | false ↦ false ]

-- has the pattern a set?
abbrev pub some_set : List Class → Bool
some_set [] = false
some_set (one a ∷ u) = some_set u
some_set (any s ∷ u) = true

-- a pattern's tags, 0 at a set; and the pattern that has these tags and no set
abbrev pub word : List Class → List ℕ
word [] = []
word (one a ∷ u) = a ∷ word u
word (any s ∷ u) = 0 ∷ word u

abbrev pub plain : List ℕ → List Class
plain [] = []
plain (a ∷ u) = one a ∷ plain u
