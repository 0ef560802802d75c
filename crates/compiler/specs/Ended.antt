-- Compiling has ended.
use Rattle.std.specs.Prelude.{ℕ, ◌≡◌, List, length, Result}
use Rattle.limits.specs.declared.Limits.{Limits}
use Rattle.answers.specs.Outcome.{Outcome, and_then}
use Rattle.answers.specs.declared.Refusal.{Refusal}
use Rattle.cascades.specs.Rule.{Cascade}
use Rattle.compilation.specs.Compile.{built}
use Rattle.answers.specs.Answer.{Filled}
use Rattle.compiler.specs.Answer.{worked}

-- where t is what was tested before a state was built: the answer, the output slice and the work slice
pub record Ended (lim : Limits) (t : Outcome Cascade) (n : ℕ) (W X before after : List ℕ) (answer : Result ℕ Refusal) : Type 0 where
  pub gave : Filled (and_then t (built n (length before))) before after answer
  pub worked_is : X ≡ worked lim n t W
