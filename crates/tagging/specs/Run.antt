-- The run of a book over a sentence, with an end tag: 17, the book's refusals, then 14, 13, 4 and 11, else what the rules leave of each piece,
-- joined.
use Rattle.std.specs.Prelude.{ℕ, List}
use Rattle.limits.specs.Within.{within}
use Rattle.limits.specs.declared.Limits.{Limits}
use Rattle.answers.specs.Outcome.{Outcome, and_then}
use Rattle.cascades.specs.Rewrite.{behavior}
use Rattle.books.specs.Ending.{read_ending}
use Rattle.sentences.specs.Run.{run}

abbrev pub book_run : Limits → List ℕ → ℕ → List ℕ → ℕ → Outcome (List ℕ)
book_run lim book end sentence room = within lim (and_then (read_ending lim book end) (λ b. run b.tags sentence room (behavior b sentence)))
