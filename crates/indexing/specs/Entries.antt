-- The index of a table: for each state one entry for its final word and then one for each tag.
use Rattle.std.specs.Prelude.{ℕ, ◌+◌, ◌*◌, ◌<◌, List, get_or}
use Rattle.transducers.specs.Table.{Step, Row, Table, no_step, row}
use Rattle.steps.specs.Entry.{FinalEntry, StepEntry}

abbrev pub StepEntries : ℕ → List ℕ → List ℕ → ℕ → List Step → Type 0
StepEntries k bs ix c vs = (a : ℕ) → a < k → StepEntry k bs ix (c + a) (get_or vs a no_step)

pub record RowEntries (k : ℕ) (bs ix : List ℕ) (c : ℕ) (r : Row) : Type 0 where
  pub final : FinalEntry bs r.final (get_or ix c 0)
  pub steps : StepEntries k bs ix (c + 1) r.steps

abbrev pub TableEntries : ℕ → ℕ → List ℕ → List ℕ → Table → Type 0
TableEntries k s bs ix t = (q : ℕ) → q < s → RowEntries k bs ix (q * (k + 1)) (row t q)
