-- The run of a book with a second slice (document 02, W6): where the run is not refused, "the number from 1 of the last rule that rewrote this
-- place, or 0". Both slices have room for a byte a tag: "A second slice shorter than the sentence is refused with 11".
use Rattle.std.specs.Prelude.{ℕ, List}
use Rattle.limits.specs.Within.{within}
use Rattle.limits.specs.declared.Limits.{Limits}
use Rattle.answers.specs.Outcome.{Outcome, and_then}
use Rattle.books.specs.Ending.{read_ending}
use Rattle.sentences.specs.Run.{run}
use Rattle.traces.specs.Trace.{traced}

abbrev pub book_numbers : Limits → List ℕ → ℕ → List ℕ → ℕ → Outcome (List ℕ)
book_numbers lim book end sentence room = within lim (and_then (read_ending lim book end) (λ b. run b.tags sentence room (traced b sentence).numbers))
