-- Document 01's outcome for each answer of the reader of tables.
use Rattle.std.specs.Prelude.{Result, Ok, Err}
use Rattle.answers.specs.Outcome.{Outcome, result}
use Rattle.answers.specs.Answer.{refusal}
use Rattle.answers.specs.declared.Refusal.{Refusal}
use Rattle.steps.specs.declared.Size.{Size}
use Rattle.tables.specs.Run as run

abbrev pub table_outcome : Result Size Refusal → Outcome run.Size
table_outcome (Ok size) = result (record { tags = size.tags; states = size.states })
table_outcome (Err r) = refusal r
