-- A table's head, and its index once the states are read and once the whole is.
use Rattle.std.specs.Prelude.{ℕ, ◌+◌, ◌*◌, ◌<◌, ◌≤◌, ◌≡◌, Bool, true, false, Result, Ok, Err, List, length, drop}
use Rattle.limits.specs.Limits.{fewest_tags, most_tags, most_states, InRange, most_held}
use Rattle.limits.specs.declared.Limits.{Limits}
use Rattle.answers.specs.Outcome.{result}
use Rattle.answers.specs.Answer.{refusal}
use Rattle.transducers.specs.Table.{Table}
use Rattle.tables.specs.Valid.{ValidTable}
use Rattle.tables.specs.Bytes.{joined, row_bytes}
use Rattle.tables.specs.Decode.{malformed, many, read_row, read_table, decode_within}
use Rattle.steps.specs.Part.{Part}
use Rattle.indexing.specs.Entries.{TableEntries}
use Rattle.answers.specs.declared.Refusal.{Refusal}
use Rattle.steps.specs.declared.Size.{Size}

-- the head was read: what is left is the table after it
pub record Head (lim : Limits) (bs : List ℕ) (k s : ℕ) : Type 0 where
  pub ranged : InRange lim
  pub left : decode_within lim bs ≡ read_table (most_held lim) k s (drop 4 bs)
  pub inside : 4 ≤ length bs
  pub few_bytes : length bs < 0xffffff
  pub some_tags : fewest_tags ≤ k
  pub few_tags : k ≤ most_tags
  pub some_states : 1 ≤ s
  pub few_states : s ≤ most_states

abbrev pub HeadRead : Limits → List ℕ → Result Size Refusal → Type 0
HeadRead lim bs (Ok size) = Head lim bs size.tags size.states
HeadRead lim bs (Err r) = decode_within lim bs ≡ refusal r

-- the states were read up to a place
pub record RowsRead (lim : Limits) (bs : List ℕ) (k s : ℕ) (ix : List ℕ) (end : ℕ) : Type 0 where
  pub head : Head lim bs k s
  pub rows : Part (many (read_row (most_held lim) k s) row_bytes s) (joined row_bytes) (TableEntries k s bs ix) bs 4 end
  pub room : s * (k + 1) ≤ length ix

-- a valid table was read, and its index is filled
pub record Loaded (lim : Limits) (bs : List ℕ) (k : ℕ) (ix : List ℕ) : Type 0 where
  pub table : Table
  pub decodes : decode_within lim bs ≡ result (record { tags = k; table = table })
  pub valid : ValidTable lim k table
  pub cells : TableEntries k (length table) bs ix table
  pub room : length table * (k + 1) ≤ length ix

abbrev pub LoadedIf : Bool → Limits → List ℕ → ℕ → List ℕ → Type 0
LoadedIf true lim bs k ix = Loaded lim bs k ix
LoadedIf false lim bs k ix = decode_within lim bs ≡ malformed
