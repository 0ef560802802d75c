-- A run over a sentence, of a book or of a table.
use Rattle.std.specs.Prelude.{ℕ, ◌≤◌, max, ◌≡◌, List, [], ◌∷◌, leb, ltb, length, Result}
use Rattle.limits.specs.Limits.{longest_sentence}
use Rattle.words.specs.Word.{Below, differences}
use Rattle.answers.specs.Outcome.{Outcome, result, refused, and_then, provided}
use Rattle.answers.specs.Slice.{written}
use Rattle.answers.specs.Answer.{outcome_of}
use Rattle.answers.specs.declared.Refusal.{Refusal}

-- the highest tag of a word, 0 of the empty one
abbrev pub highest : List ℕ → ℕ
highest [] = 0
highest (a ∷ w) = max a (highest w)

-- "Then the sentence: 13 before 4". 13: sentence longer than 65,535; 4: a tag not below k
abbrev pub admitted : ℕ → List ℕ → Outcome (Unit {0})
admitted k sentence = provided 13 (leb (length sentence) longest_sentence) (provided 4 (ltb (highest sentence) k) (result tt))

-- then 11 if the output slice is shorter than the result, which is as long as the sentence
abbrev pub run : ℕ → List ℕ → ℕ → List ℕ → Outcome (List ℕ)
run k sentence room made = and_then (admitted k sentence) (λ x. provided 11 (leb (length sentence) room) (result made))

-- the answer of a run: the number of changed tags
abbrev pub changed : List ℕ → Outcome (List ℕ) → Outcome ℕ
changed sentence (result made) = result (differences sentence made)
changed sentence (refused n p) = refused n p

-- a run has ended: its answer is the number of changed tags or the refusal, and the output slice holds the result or its old bytes
pub record Ran (outcome : Outcome (List ℕ)) (sentence before after : List ℕ) (answer : Result ℕ Refusal) : Type 0 where
  pub answered : outcome_of answer ≡ changed sentence outcome
  pub wrote : after ≡ written outcome before

-- no refusal of a sentence fits: it is not too long, its tags are below k, and the output slice is at least as long
pub record Accepted (k : ℕ) (sentence : List ℕ) (room : ℕ) : Type 0 where
  pub short : length sentence ≤ longest_sentence
  pub below : Below k sentence
  pub fits : length sentence ≤ room
