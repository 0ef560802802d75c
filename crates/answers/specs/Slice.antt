-- The output slice of a call: whether the result fits, what the call answers, and what the slice holds at exit.
use Rattle.std.specs.Prelude.{ℕ, List, ◌++◌, leb, length, drop}
use Rattle.answers.specs.Outcome.{Outcome, result, refused, provided}

-- "11: output slice shorter than the result"
abbrev pub fitting : ℕ → List ℕ → Outcome (List ℕ)
fitting room made = provided 11 (leb (length made) room) (result made)

-- how long the result is: what compile answers, and load
abbrev pub long_of : Outcome (List ℕ) → Outcome ℕ
long_of (result made) = result (length made)
long_of (refused n p) = refused n p

-- the slice at exit: "what lies beyond the result keeps its bytes", and "Output slices keep their bytes on every refusal"
abbrev pub written : Outcome (List ℕ) → List ℕ → List ℕ
written (result made) out = made ++ drop (length made) out
written (refused n p) out = out
