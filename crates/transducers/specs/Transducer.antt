-- Sequential transducers (002, section 3.1; document 01's "sequential machine").
use Rattle.std.specs.Prelude.{ℕ, ◌<◌, List, [], ◌∷◌, ◌++◌}

-- "goes from one state to one next state at each tag while putting out a word of zero or more tags, both fixed by the state
-- and the tag alone, and puts out a final word fixed by the last state alone": any functions, with the number of states
pub record Shape : Type 0 where
  pub count : ℕ
  pub next : ℕ → ℕ → ℕ
  pub output : ℕ → ℕ → List ℕ
  pub final : ℕ → List ℕ

-- what is still put out from the state q when the word is read, with the final word
abbrev pub puts : Shape → ℕ → List ℕ → List ℕ
puts S q [] = S.final q
puts S q (a ∷ w) = S.output q a ++ puts S (S.next q a) w

-- "starts in one fixed state, puts out an initial word": a transducer over k tags. "All its states count, also those never reached"
pub record Transducer (k : ℕ) : Type 0 where
  pub shape : Shape
  pub start : ℕ
  pub initial : List ℕ
  pub start_below : start < shape.count
  pub next_below : (q a : ℕ) → q < shape.count → a < k → shape.next q a < shape.count

-- "A machine turns a sentence into its initial word, the words put out and the final word, joined"
abbrev pub turns : {k : ℕ} → Transducer k → List ℕ → List ℕ
turns M w = M.initial ++ puts M.shape M.start w
