-- The numbers, on sentences that were worked out by hand. A rule is its kind, pattern, place and new tag.
use mathlib.Core.Path.{◌≡◌, refl}
use mathlib.Core.List.{List, [], ◌∷◌}
use Rattle.cascades.specs.Rule.{once, everywhere, Rule, Cascade}
use Rattle.cascades.specs.Pattern.{one, any}
use Rattle.cascades.specs.Value.{rule, rule_with}
use Rattle.traces.specs.Trace.{beside, trace, traced}

-- document 01's book C: 0 1 → 0 2, then 2 3 → 1 3
abbrev book_c : List Rule
book_c = rule once (0 ∷ 1 ∷ []) 1 2 ∷ rule once (2 ∷ 3 ∷ []) 0 1 ∷ []

-- its third sentence, which stays as it is: the second rule takes back what the first did, and the place "keeps that number, though its tag doesn't
-- count as changed"
undone : trace book_c (4 ∷ 2 ∷ 0 ∷ 1 ∷ 3 ∷ 0 ∷ []) ≡ beside (4 ∷ 2 ∷ 0 ∷ 1 ∷ 3 ∷ 0 ∷ []) (0 ∷ 0 ∷ 0 ∷ 2 ∷ 0 ∷ 0 ∷ [])
undone = refl

-- each rule at a place of its own
apart : trace book_c (0 ∷ 1 ∷ 0 ∷ 2 ∷ 3 ∷ []) ≡ beside (0 ∷ 2 ∷ 0 ∷ 1 ∷ 3 ∷ []) (0 ∷ 1 ∷ 0 ∷ 2 ∷ 0 ∷ [])
apart = refl

-- two rules at one place: 0 → 1 in front of 0, then 1 0 → 2 0
twice : trace (rule once (0 ∷ 0 ∷ []) 0 1 ∷ rule once (1 ∷ 0 ∷ []) 0 2 ∷ []) (0 ∷ 0 ∷ 0 ∷ []) ≡ beside (2 ∷ 0 ∷ 0 ∷ []) (2 ∷ 0 ∷ 0 ∷ [])
twice = refl

-- everywhere, at each match, and not inside one: 0 0 → 0 1
each-match : trace (rule everywhere (0 ∷ 0 ∷ []) 1 1 ∷ []) (0 ∷ 0 ∷ 0 ∷ 0 ∷ 0 ∷ []) ≡ beside (0 ∷ 1 ∷ 0 ∷ 1 ∷ 0 ∷ []) (0 ∷ 1 ∷ 0 ∷ 1 ∷ 0 ∷ [])
each-match = refl

-- any of 0 and 1 before 2, everywhere: the 2 becomes 0
with_set : trace (rule_with everywhere (any 3 ∷ one 2 ∷ []) 1 0 ∷ []) (2 ∷ 1 ∷ 2 ∷ 2 ∷ 0 ∷ 2 ∷ []) ≡ beside (2 ∷ 1 ∷ 0 ∷ 2 ∷ 0 ∷ 0 ∷ []) (0 ∷ 0 ∷ 1 ∷ 0 ∷ 0 ∷ 1 ∷ [])
with_set = refl

-- book C with the end tag 4, piece by piece: each rule once in each
abbrev pieced : Cascade
pieced = record { tags = 5; rules = book_c; end = 4 }

by_pieces : traced pieced (0 ∷ 1 ∷ 0 ∷ 1 ∷ 4 ∷ 0 ∷ 1 ∷ 3 ∷ []) ≡ beside (0 ∷ 2 ∷ 0 ∷ 1 ∷ 4 ∷ 0 ∷ 1 ∷ 3 ∷ []) (0 ∷ 1 ∷ 0 ∷ 0 ∷ 0 ∷ 0 ∷ 2 ∷ 0 ∷ [])
by_pieces = refl
