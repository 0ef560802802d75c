-- What reading a table and running it give.
use Rattle.std.specs.Prelude.{ℕ, List, length}
use Rattle.limits.specs.declared.Limits.{Limits}
use Rattle.answers.specs.Outcome.{Outcome, result, and_then}
use Rattle.sentences.specs.Run.{run}
use Rattle.transducers.specs.Transducer.{puts}
use Rattle.transducers.specs.Table.{shape}
use Rattle.tables.specs.Decode.{decode_within}

-- the K and the S of a table
pub record Size : Type 0 where
  pub tags : ℕ
  pub states : ℕ

abbrev pub size_of : Limits → List ℕ → Outcome Size
size_of lim bytes = and_then (decode_within lim bytes) (λ d. result (record { tags = d.tags; states = length d.table }))

-- "A table is the machine that starts in state 0 with an empty initial word": what it puts out, or the first refusal
-- among 17, 12, 13, 4 and 11
abbrev pub table_run : Limits → List ℕ → List ℕ → ℕ → Outcome (List ℕ)
table_run lim bytes sentence room =
    and_then (decode_within lim bytes) (λ d. run d.tags sentence room (puts (shape d.table) 0 sentence))
