-- The run of a book from its bytes, where f makes the result: `book_run` and `book_numbers` are two of these.
use Rattle.std.specs.Prelude.{ℕ, List}
use Rattle.limits.specs.Within.{within}
use Rattle.limits.specs.declared.Limits.{Limits}
use Rattle.answers.specs.Outcome.{Outcome, and_then}
use Rattle.cascades.specs.Rule.{Cascade}
use Rattle.books.specs.Ending.{read_ending}
use Rattle.sentences.specs.Run.{run}

abbrev pub reading : Limits → (Cascade → List ℕ → List ℕ) → List ℕ → ℕ → List ℕ → ℕ → Outcome (List ℕ)
reading lim f book end sentence room = within lim (and_then (read_ending lim book end) (λ b. run b.tags sentence room (f b sentence)))
