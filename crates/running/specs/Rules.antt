-- The run of a book that has been read, and its numbers.
use Rattle.std.specs.Prelude.{ℕ, List}
use Rattle.answers.specs.Outcome.{Outcome, and_then}
use Rattle.cascades.specs.Rule.{Cascade}
use Rattle.cascades.specs.Rewrite.{behavior}
use Rattle.books.specs.Ending.{fitted}
use Rattle.sentences.specs.Run.{run}
use Rattle.traces.specs.Trace.{traced}

-- where f makes the result
abbrev pub running : (Cascade → List ℕ → List ℕ) → ℕ → Cascade → List ℕ → ℕ → Outcome (List ℕ)
running f end c sentence room = and_then (fitted end c) (λ b. run b.tags sentence room (f b sentence))

abbrev pub numbers : Cascade → List ℕ → List ℕ
numbers c w = (traced c w).numbers

abbrev pub cascade_run : ℕ → Cascade → List ℕ → ℕ → Outcome (List ℕ)
cascade_run = running behavior

abbrev pub cascade_numbers : ℕ → Cascade → List ℕ → ℕ → Outcome (List ℕ)
cascade_numbers = running numbers
