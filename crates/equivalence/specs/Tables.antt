-- The two tables that are compared.
use Rattle.std.specs.Prelude.{ℕ, ◌≤◌, ◌≡◌, List, [], length}
use Rattle.limits.specs.Limits.{most_tags, most_states}
use Rattle.limits.specs.declared.Limits.{Limits}
use Rattle.answers.specs.Outcome.{Outcome, result, refused}
use Rattle.transducers.specs.Transducer.{Shape}
use Rattle.transducers.specs.Table.{Table, shape}
use Rattle.transducers.specs.Canonical.{Held}
use Rattle.tables.specs.Decode.{Decoded, decode_within}
use Rattle.workspace.specs.declared.Grid.{Grid}
use Rattle.workspace.specs.Holds.{Ready, standing}
use Rattle.comparing.specs.Step.{Indexed, most}

abbrev pub table_of : Outcome Decoded → Table
table_of (result d) = d.table
table_of (refused n p) = []

-- the table in the bytes, if there is one
abbrev pub table_in : Limits → List ℕ → Table
table_in lim bytes = table_of (decode_within lim bytes)

abbrev pub given : Limits → List ℕ → Shape
given lim bytes = shape (table_in lim bytes)

-- one of s states in its bytes, with its index, and one in the first m rows of the work slice
pub record Tables (lim : Limits) (bs ix : List ℕ) (g : Grid) (W : List ℕ) (m s : ℕ) : Type 0 where
  pub indexed : Indexed g.tags (table_in lim bs) bs ix
  pub states : length (table_in lim bs) ≡ s
  pub ready : Ready g W 0 m
  pub held : Held most (standing g W 0 m)
  pub few_states : m ≤ most_states
  pub few_tags : g.tags ≤ most_tags
