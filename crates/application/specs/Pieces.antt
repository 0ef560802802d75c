-- The first piece of a sentence, rewritten where it stands.
use Rattle.std.specs.Prelude.{ℕ, ◌≤◌, ◌<◌, ◌≡◌, List, [], ◌++◌, length, take, drop}
use Rattle.words.specs.Pieces.{piecewise}

-- the first r tags are the first piece, or all where there is no end tag: whatever is made of each piece
pub record FirstPiece (s : List ℕ) (end r : ℕ) : Type 0 where
  pub inside : r ≤ length s
  pub some : 0 < length s → 0 < r
  pub cut : (f : List ℕ → List ℕ) → f [] ≡ [] → piecewise end f s ≡ f (take r s) ++ piecewise end f (drop r s)
