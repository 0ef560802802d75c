-- What a number says, without a word of matches: the last rule that rewrote a place (document 02, W6).
use Rattle.std.specs.Prelude.{ℕ, suc, ◌+◌, ◌≤◌, ◌<◌, ◌≡◌, List, ◌∷◌, ◌++◌, length, take, get_or}
use Rattle.words.specs.Pieces.{pieces, each}
use Rattle.cascades.specs.Rule.{Rule, Cascade}
use Rattle.cascades.specs.Rewrite.{apply_all}

-- the tag at place q behind the first n rules
abbrev pub tag_behind : List Rule → List ℕ → ℕ → ℕ → ℕ
tag_behind rs w q n = get_or (apply_all (take n rs) w) q 0

-- "the number from 1 of the last rule that rewrote this place, or 0": behind rule n the tag is another than before it, and it stays that
pub record LastRule (rs : List Rule) (w : List ℕ) (q n : ℕ) : Type 0 where
  pub few : n ≤ length rs
  pub rewrote : (i : ℕ) → n ≡ suc i → tag_behind rs w q i ≡ tag_behind rs w q n → ⊥
  pub kept : (i : ℕ) → n ≤ i → tag_behind rs w q (suc i) ≡ tag_behind rs w q i

-- place q of the pieces ps, joined, is a place of one of them
pub record InPiece (ps : List (List ℕ)) (q : ℕ) : Type 0 where
  pub before : List (List ℕ)
  pub piece : List ℕ
  pub behind : List (List ℕ)
  pub place : ℕ
  pub cut : ps ≡ before ++ (piece ∷ behind)
  pub inside : place < length piece
  pub is : q ≡ length (each (λ p. p) before) + place

-- what the number and the tag at place q tell that a run has left there
pub record Told (c : Cascade) (sentence : List ℕ) (q tag number : ℕ) : Type 0 where
  -- the place is one of a piece, and the number that of the last rule that rewrote it there
  pub there : InPiece (pieces c.end sentence) q
  pub last : (i : InPiece (pieces c.end sentence) q) → LastRule c.rules i.piece i.place number
  -- a place without a number has the sentence's tag
  pub same : number ≡ 0 → tag ≡ get_or sentence q 0
  -- a place whose tag differs from the sentence's has a number
  pub some : (tag ≡ get_or sentence q 0 → ⊥) → 0 < number
  -- the tag at a place with a number is the new tag of the rule with that number
  pub new : (front : List Rule) (r : Rule) (back : List Rule) → c.rules ≡ front ++ (r ∷ back) → number ≡ suc (length front) → tag ≡ r.tag
