-- The transducer of a matcher: it holds back what may still become a match, and puts out the new tag where one is complete.
-- 002, definition 2, after Simon's string matching automaton, for any way to keep what is matched.
use Rattle.std.specs.Prelude.{ℕ, suc, ◌-◌, true, false, List, [], ◌∷◌, ◌++◌, length, take, drop, set, eqb}
use Rattle.transducers.specs.Transducer.{Shape}

-- a matcher reads tags: `longest s` is the number of the pattern's places that what was read matches at its end, as many as can be;
-- `fired` is the state after a match
pub record Matcher : Type 0 where
  pub states : ℕ
  pub longest : ℕ → ℕ
  pub step : ℕ → ℕ → ℕ
  pub fired : ℕ

-- Of a rule whose pattern has the tags `row`, with its place and new tag.

-- 002's ρ: what was matched from the place on; nothing where all was matched
abbrev pub held : List ℕ → ℕ → ℕ → List ℕ
held row place j = elim (eqb j (length row)) [ true ↦ [] | false ↦ drop place (take j row) ]

-- 002's η, from j matched places on the tag a to i: after a match the tag; where all is matched, the pattern from the place on with the new
-- tag; otherwise what was held and the tag, without what is held next
abbrev pub said : List ℕ → ℕ → ℕ → ℕ → ℕ → ℕ → List ℕ
said row place tag j a i =
    elim (eqb j (length row)) [
      | true ↦ a ∷ []
      | false ↦
          elim (eqb i (length row)) [
            | true ↦ drop place (set row place tag)
            | false ↦ take (suc (length (held row place j)) - length (held row place i)) (held row place j ++ (a ∷ []))
          ]
    ]

-- 002's δ, for a pattern of n places
abbrev pub moves : ℕ → Matcher → ℕ → ℕ → ℕ
moves n M s a =
    elim (eqb (M.longest s) n) [
      | true ↦ s
      | false ↦ elim (eqb (M.longest (M.step s a)) n) [ true ↦ M.fired | false ↦ M.step s a ]
    ]

abbrev pub matching : List ℕ → ℕ → ℕ → Matcher → Shape
matching row place tag M =
    record {
      count = M.states;
      next = moves (length row) M;
      output = λ s a. said row place tag (M.longest s) a (M.longest (M.step s a));
      final = λ s. held row place (M.longest s);
    }
