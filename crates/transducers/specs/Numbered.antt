-- The numbering of document 01's compiled tables, for a transducer over k tags.
use Rattle.std.specs.Prelude.{ℕ, ◌<◌, ◌≡◌, ◌⊎◌}
use Rattle.transducers.specs.Transducer.{Shape}

-- the step from p at b comes before that from q at a: "lower-numbered states first and within a state lower tags first"
abbrev pub Before : ℕ → ℕ → ℕ → ℕ → Type 0
Before p b q a = (p < q) ⊎ ((p ≡ q) × (b < a))

-- a step before that from p at a leads to q
pub record Earlier (k : ℕ) (S : Shape) (p a q : ℕ) : Type 0 where
  pub state : ℕ
  pub tag : ℕ
  pub tag_below : tag < k
  pub before : Before state tag p a
  pub leads : S.next state tag ≡ q

-- "States are numbered as first reached from state 0": where a step leads to a state, earlier steps have led to all lower ones but 0
abbrev pub AsReached : ℕ → Shape → Type 0
AsReached k S = (p a q : ℕ) → p < S.count → a < k → 0 < q → q < S.next p a → Earlier k S p a q
