-- The longest border of each prefix of a pattern, and the comparisons of two tags by which it is found (document 02, W3).
use Rattle.std.specs.Prelude.{ℕ, zero, suc, ◌+◌, ◌-◌, ◌≤◌, ◌<◌, ◌≡◌, true, false, List, [], ◌∷◌, eqb, length, get_or, take, drop}
use Rattle.words.specs.Word.{prefix}
use Rattle.words.specs.Overlap.{overlap}

-- a border of the first j tags of u, by its length b: it begins and ends them, and is not all of them
pub record Border (u : List ℕ) (j b : ℕ) : Type 0 where
  pub proper : b < j
  pub same : drop (j - b) (take j u) ≡ take b u

-- the longest one; 0 for no tags. proofs/Theorems.antt proves that it is
abbrev pub border : List ℕ → ℕ → ℕ
border u j = overlap u (drop 1 (take j u))

-- "Its comparisons of two tags are counted": the tag a comes after t. It is compared with the tag that follows in u each end of t that begins
-- u, the longest first and the empty one last; the first equal tag is the last one compared
abbrev pub compared : List ℕ → ℕ → List ℕ → ℕ
compared u a [] = 1
compared u a (b ∷ t) =
    elim (prefix (b ∷ t) u) [
      | true ↦ elim (eqb (get_or u (suc (length t)) 0) a) [ true ↦ 1 | false ↦ suc (compared u a t) ]
      | false ↦ compared u a t
    ]

-- for the first n tags after the first: each comes after what stands before it, less the first tag, since a border is not all of it
abbrev pub counted : List ℕ → ℕ → ℕ
counted u zero = 0
counted u (suc n) = counted u n + compared u (get_or u (suc n) 0) (drop 1 (take (suc n) u))

abbrev pub comparisons : List ℕ → ℕ
comparisons u = counted u (length u - 1)

-- an array that has them: entry j is for the first j tags
pub record Borders (u X : List ℕ) : Type 0 where
  pub room : length u < length X
  pub entry : (j : ℕ) → j ≤ length u → get_or X j 0 ≡ border u j

-- the array at exit, which held B at entry
pub record Bordered (u B X : List ℕ) : Type 0 where
  pub long : length X ≡ length B
  pub borders : Borders u X
  pub rest : drop (suc (length u)) X ≡ drop (suc (length u)) B
