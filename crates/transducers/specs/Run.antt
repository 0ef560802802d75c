-- A transducer's run over a word: the state that it comes to, and what it puts out on the way.
use Rattle.std.specs.Prelude.{ℕ, List, [], ◌∷◌, ◌++◌}
use Rattle.transducers.specs.Transducer.{Shape}

-- 002's δ(q, w)
abbrev pub walk : Shape → ℕ → List ℕ → ℕ
walk S q [] = q
walk S q (a ∷ w) = walk S (S.next q a) w

-- 002's η(q, w): the final word is not among it
abbrev pub outputs : Shape → ℕ → List ℕ → List ℕ
outputs S q [] = []
outputs S q (a ∷ w) = S.output q a ++ outputs S (S.next q a) w
