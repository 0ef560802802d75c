-- 002, section 2: the leftmost rewrite relation of a rule u → v, and the rule's behavior. With sets (document 02, W9) a match is any word that the
-- pattern's places accept, and it becomes the same tags with the new one at p.
use Rattle.std.specs.Prelude.{ℕ, ◌≡◌, true, ◌⊎◌, List, [], ◌∷◌, ◌++◌, set}
use Rattle.words.specs.Word.{Prefix}
use Rattle.cascades.specs.Pattern.{Class, accepts}

-- ---- without sets

-- u occurs in w after z
abbrev pub OccursAt : List ℕ → List ℕ → List ℕ → Type 0
OccursAt u w z = (y : List ℕ) × (w ≡ z ++ (u ++ y))

abbrev pub Occurs : List ℕ → List ℕ → Type 0
Occurs u w = (z : List ℕ) × OccursAt u w z

-- "w → w' iff there are x, y with w = x u y and w' = x v y, and for all z, z': w ≠ z u z' or x is a prefix of z"
pub record Leftmost (u v w w' : List ℕ) : Type 0 where
  pub front : List ℕ
  pub back : List ℕ
  pub before : w ≡ front ++ (u ++ back)
  pub after : w' ≡ front ++ (v ++ back)
  pub first : (z : List ℕ) → OccursAt u w z → Prefix front z

-- "it applies the relation on the words in which u occurs and the identity on the others"
abbrev pub Behavior : List ℕ → List ℕ → List ℕ → List ℕ → Type 0
Behavior u v w w' = Leftmost u v w w' ⊎ ((w' ≡ w) × (Occurs u w → ⊥))

-- document 02, W4: "after a match, matching begins again behind the match's last tag, and no tag of the old match counts for the next"; "such
-- a rule rewrites all these matches"
pub data Everywhere (u v : List ℕ) : List ℕ → List ℕ → Type 0 where
  nowhere : (w : List ℕ) → (Occurs u w → ⊥) → Everywhere u v w w
  match : (x y y' : List ℕ) → ((z : List ℕ) → OccursAt u (x ++ (u ++ y)) z → Prefix x z) → Everywhere u v y y'
      → Everywhere u v (x ++ (u ++ y)) (x ++ (v ++ y'))

-- ---- with sets

-- m is a match of u: as many tags, and each place accepts its own
abbrev pub Match : List Class → List ℕ → Type 0
Match [] [] = Unit {0}
Match [] (a ∷ m) = ⊥
Match (c ∷ u) [] = ⊥
Match (c ∷ u) (a ∷ m) = (accepts c a ≡ true) × Match u m

-- a match stands in w after z
pub record MatchAt (u : List Class) (w z : List ℕ) : Type 0 where
  pub match : List ℕ
  pub back : List ℕ
  pub is : Match u match
  pub cut : w ≡ z ++ (match ++ back)

abbrev pub Matched : List Class → List ℕ → Type 0
Matched u w = (z : List ℕ) × MatchAt u w z

-- the leftmost match m, in w = x m y, becomes m with t at p
pub record LeftmostMatch (u : List Class) (p t : ℕ) (w w' : List ℕ) : Type 0 where
  pub front : List ℕ
  pub at : MatchAt u w front
  pub after : w' ≡ front ++ (set at.match p t ++ at.back)
  pub first : (z : List ℕ) → MatchAt u w z → Prefix front z

abbrev pub MatchBehavior : List Class → ℕ → ℕ → List ℕ → List ℕ → Type 0
MatchBehavior u p t w w' = LeftmostMatch u p t w w' ⊎ ((w' ≡ w) × (Matched u w → ⊥))

-- and so do all matches of an everywhere rule
pub data EveryMatch (u : List Class) (p t : ℕ) : List ℕ → List ℕ → Type 0 where
  none : (w : List ℕ) → (Matched u w → ⊥) → EveryMatch u p t w w
  more : (x m y y' : List ℕ) → Match u m → ((z : List ℕ) → MatchAt u (x ++ (m ++ y)) z → Prefix x z) → EveryMatch u p t y y'
      → EveryMatch u p t (x ++ (m ++ y)) (x ++ (set m p t ++ y'))
