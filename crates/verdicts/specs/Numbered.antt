-- "0 for yes, the sentence's length times 256 for no", or the refusal.
use Rattle.std.specs.Prelude.{ℕ, ◌≡◌, List, Option, Result}
use Rattle.answers.specs.Outcome.{Outcome}
use Rattle.answers.specs.declared.Refusal.{Refusal}
use Rattle.checking.specs.Check.{Pair, Answers, check_outcome}
use Rattle.packing.specs.Packed.{packed}

-- the number stands for an answer of the check
pub record Numbered (o : Outcome Pair) (before after : List ℕ) (number : ℕ) : Type 0 where
  pub answer : Result (Option ℕ) Refusal
  pub number_is : number ≡ packed (check_outcome answer)
  pub answers : Answers o before after answer
