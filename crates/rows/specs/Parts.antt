-- What the parts of writing rows promise one another.
use Rattle.std.specs.Prelude.{ℕ, ◌+◌, ◌*◌, ◌≤◌, ◌<◌, ◌≡◌, List, length, get_or}
use Rattle.std.proofs.lemmas.List.Edits.{sets}
use Rattle.limits.specs.Limits.{most_tags, most_states, InRange}
use Rattle.limits.specs.declared.Limits.{Limits}
use Rattle.transducers.specs.Table.{Step, Row, Table, no_step}
use Rattle.tables.specs.Bytes.{joined}
use Rattle.tables.specs.Valid.{ValidTable}
use Rattle.steps.specs.Entry.{FinalEntry, EntryOf, StepEntry}
use Rattle.indexing.specs.Entries.{TableEntries}
use Rattle.loaded.specs.Numbers.{row_at, step_numbers, steps_behind, row_numbers, rows_numbers, row_behind}
use Rattle.entries.specs.State.{Base}

-- the entry of a step that does not put out too much
pub record StepIs (bs : List ℕ) (k : ℕ) (s : Step) (e : ℕ) : Type 0 where
  pub entry : EntryOf bs (s.next * (k + 1) + 1) s.output e
  pub short : length s.output < 0xff

-- an entry of a step of some table
pub record StepHere (bs : List ℕ) (e : ℕ) : Type 0 where
  pub tags : ℕ
  pub step : Step
  pub is : StepIs bs tags step e
  pub low : step.next * (tags + 1) + 1 < 0x10000

-- the entries of a state's steps begin after the cell; the longer words have places
pub record StepsHere (bs ix : List ℕ) (k cell place room : ℕ) : Type 0 where
  pub steps : List Step
  pub whole : length steps ≡ k
  pub few_tags : k ≤ most_tags
  pub few_states : (a : ℕ) → a < k → (get_or steps a no_step).next < most_states
  pub short : (a : ℕ) → a < k → length (get_or steps a no_step).output < 0xff
  pub is : (a : ℕ) → a < k → StepEntry k bs ix (cell + 1 + a) (get_or steps a no_step)
  pub entries : cell + k < length ix
  pub places : place + length (steps_behind steps) < 0x1000000
  pub fits : place + length (steps_behind steps) ≤ room

-- their numbers have been written, and the longer words up to a place; the base tells which state rests
pub record StepsWritten (ss : List Step) (k rested place : ℕ) (before after : List ℕ) (p to : ℕ) : Type 0 where
  pub place_is : to ≡ place + length (steps_behind ss)
  pub wrote : (rest : ℕ) → Base k rest rested → after ≡ sets (sets before place (steps_behind ss)) p (step_numbers k rest place ss)

-- the entries of a state begin at the cell
pub record RowHere (bs ix : List ℕ) (k cell place room : ℕ) : Type 0 where
  pub row : Row
  pub held : length row.final < 0xff
  pub final : FinalEntry bs row.final (get_or ix cell 0)
  pub whole : length row.steps ≡ k
  pub few_tags : k ≤ most_tags
  pub few_states : (a : ℕ) → a < k → (get_or row.steps a no_step).next < most_states
  pub short : (a : ℕ) → a < k → length (get_or row.steps a no_step).output < 0xff
  pub is : (a : ℕ) → a < k → StepEntry k bs ix (cell + 1 + a) (get_or row.steps a no_step)
  pub entries : cell + k < length ix
  pub places : place + length (row_behind row) < 0x1000000
  pub fits : place + length (row_behind row) ≤ room

pub record RowWritten (x : Row) (k rested place : ℕ) (before after : List ℕ) (p to : ℕ) : Type 0 where
  pub place_is : to ≡ place + length (row_behind x)
  pub wrote : (rest : ℕ) → Base k rest rested → after ≡ sets (sets before place (row_behind x)) p (row_numbers k rest place x)

-- a valid table of s states is in the index; its numbers are few, and have room
pub record Source (bs ix : List ℕ) (k s room : ℕ) : Type 0 where
  pub lim : Limits
  pub ranged : InRange lim
  pub table : Table
  pub valid : ValidTable lim k table
  pub cells : TableEntries k (length table) bs ix table
  pub long : length table ≡ s
  pub entries : s * (k + 1) ≤ length ix
  pub places : row_at k s + length (joined row_behind table) < 0x1000000
  pub fits : row_at k s + length (joined row_behind table) ≤ room

pub record RowsWritten (t : Table) (k s rested : ℕ) (before after : List ℕ) (to : ℕ) : Type 0 where
  pub place_is : to ≡ row_at k s + length (joined row_behind t)
  pub wrote : (rest : ℕ) → Base k rest rested → after ≡ sets (sets before (row_at k s) (joined row_behind t)) 1 (rows_numbers k rest (row_at k s) t)
