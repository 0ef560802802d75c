-- Each tag with its rule: "one byte a tag: the number from 1 of the last rule that rewrote this place, or 0" (document 02, W6).
use Rattle.std.specs.Prelude.{ℕ, zero, suc, true, false, List, [], ◌∷◌, ◌++◌, length, take, drop, set, replicate}
use Rattle.words.specs.Pieces.{piecewise}
use Rattle.cascades.specs.Pattern.{fits}
use Rattle.cascades.specs.Rule.{Rule, Cascade}
use Rattle.cascades.specs.Rewrite.{behind, apply}

-- a sentence, and a number beside each of its tags
pub record Traced : Type 0 where
  pub tags : List ℕ
  pub numbers : List ℕ

abbrev pub beside : List ℕ → List ℕ → Traced
beside w v = record { tags = w; numbers = v }

-- "A rule writes its number only at the place p of its match, an everywhere rule at that of each match": i, in the numbers v beside w. The
-- matches are those of `rewrite` in cascades/specs/Rewrite.antt, and so is the first number
abbrev pub mark : ℕ → Rule → ℕ → List ℕ → List ℕ → List ℕ
mark zero r i w v = v
mark (suc n) r i [] v = v
mark (suc n) r i (a ∷ w) v =
    let u = r.pattern in
    elim (fits u (a ∷ w)) [
      | true ↦ set (take (length u) v) r.place i ++ behind r.kind (mark n r i (drop (length u) (a ∷ w))) (drop (length u) v)
      | false ↦ take 1 v ++ mark n r i w (drop 1 v)
    ]

-- the rule with the number i
abbrev pub trace_rule : ℕ → Rule → Traced → Traced
trace_rule i r t = beside (apply r t.tags) (mark (length t.tags) r i t.tags t.numbers)

-- the rules in order, numbered from i on
abbrev pub trace_from : ℕ → List Rule → Traced → Traced
trace_from i [] t = t
trace_from i (r ∷ rs) t = trace_from (suc i) rs (trace_rule i r t)

-- a book's rules, numbered from 1 on; at first no rule has rewritten anything
abbrev pub trace : List Rule → List ℕ → Traced
trace rs w = trace_from 1 rs (beside w (replicate (length w) 0))

abbrev pub tags_of : List Rule → List ℕ → List ℕ
tags_of rs w = (trace rs w).tags

abbrev pub numbers_of : List Rule → List ℕ → List ℕ
numbers_of rs w = (trace rs w).numbers

-- with an end tag, piece by piece
abbrev pub traced : Cascade → List ℕ → Traced
traced c w = beside (piecewise c.end (tags_of c.rules) w) (piecewise c.end (numbers_of c.rules) w)
