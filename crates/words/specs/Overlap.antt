-- Overlaps (002, section 3.1).
use Rattle.std.specs.Prelude.{ℕ, suc, List, [], ◌∷◌, true, false, length}
use Rattle.words.specs.Word.{prefix}

-- "The overlap ov(u, v) of two words u and v is the longest suffix of u which is simultaneously a prefix of v": its length,
-- here of t with u
abbrev pub overlap : List ℕ → List ℕ → ℕ
overlap u [] = 0
overlap u (b ∷ t) = elim (prefix (b ∷ t) u) [ true ↦ suc (length t) | false ↦ overlap u t ]
