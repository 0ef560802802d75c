-- What a rule and a cascade make of a sentence.
use Rattle.std.specs.Prelude.{ℕ, zero, suc, true, false, List, [], ◌∷◌, ◌++◌, length, take, drop, set}
use Rattle.words.specs.Pieces.{piecewise}
use Rattle.cascades.specs.Pattern.{fits}
use Rattle.cascades.specs.Rule.{Kind, once, everywhere, Rule, Cascade}

-- what becomes of the tags behind a match, where f is the rewriting: "once"; or "after a match, matching begins again behind the match's
-- last tag, and no tag of the old match counts for the next" (document 02, W4)
abbrev pub behind : Kind → (List ℕ → List ℕ) → List ℕ → List ℕ
behind once f w = w
behind everywhere f w = f w

-- "If u occurs in a sentence, its leftmost occurrence becomes v", the same tags with the new one at p; "otherwise the sentence is unchanged". The
-- number is the sentence's length, or more: it makes the definition end. The theorems in proofs/Leftmost.antt say that this is 002's leftmost
-- rewrite relation, and that relation again behind each match
abbrev pub rewrite : ℕ → Rule → List ℕ → List ℕ
rewrite zero r w = w
rewrite (suc n) r [] = []
rewrite (suc n) r (a ∷ w) =
    let u = r.pattern in
    elim (fits u (a ∷ w)) [
      | true ↦ set (take (length u) (a ∷ w)) r.place r.tag ++ behind r.kind (rewrite n r) (drop (length u) (a ∷ w))
      | false ↦ a ∷ rewrite n r w
    ]

abbrev pub apply : Rule → List ℕ → List ℕ
apply r w = rewrite (length w) r w

-- "A book applies its rules in order, each to the result of the one before"
abbrev pub apply_all : List Rule → List ℕ → List ℕ
apply_all [] w = w
apply_all (r ∷ rs) w = apply_all rs (apply r w)

-- 002's behavior of a cascade, with an end tag: "The slice is cut after each end tag; each piece is rewritten by itself and the pieces are
-- joined" (document 02, W1)
abbrev pub behavior : Cascade → List ℕ → List ℕ
behavior c w = piecewise c.end (apply_all c.rules) w
