-- One more rule: the table in the rows from 0 becomes the one with the rule added, if that has no more states than the ceiling.
use Rattle.std.specs.Prelude.{ℕ, ◌+◌, ◌-◌, ◌≤◌, ◌<◌, ◌≡◌, false, List, length}
use Rattle.limits.specs.Work.{rule_rows}
use Rattle.cascades.specs.Rule.{Rule, ValidRule}
use Rattle.cascades.specs.Ending.{before}
use Rattle.transducers.specs.Table.{Table, shape}
use Rattle.transducers.specs.Canonical.{Canonical}
use Rattle.minimal.specs.OneRule.{one_rule, rule_table}
use Rattle.minimal.specs.TableOf.{add}
use Rattle.workspace.specs.declared.Grid.{Grid}
use Rattle.workspace.specs.Entries.{FINAL}
use Rattle.workspace.specs.Cells.{Sized, Kept, InRows, Fits}
use Rattle.workspace.specs.Holds.{Holds, Stands, table_at}

-- the rows from 0 hold a canonical table, there is room for its composition with the rule, whose transducer has at most s states, and these
-- can be noted
pub record Addable (g : Grid) (W : List ℕ) (n ceiling s end : ℕ) (r : Rule) : Type 0 where
  pub sized : Sized g W
  pub rows : rule_rows s ceiling + s ≤ g.rows
  pub some : 1 ≤ ceiling
  pub small : rule_rows s ceiling < 0x10000
  pub few : n ≤ ceiling
  pub most : ℕ
  pub makes : List ℕ → List ℕ
  pub stands : Stands g W 0 n most makes (λ t. Canonical g.tags (shape t))
  pub longest : ℕ
  pub states : (one_rule r).count ≤ s
  pub deep : Fits g FINAL (most + (longest - 1))
  pub valid : ValidRule longest g.tags r
  pub free : before end r.pattern ≡ false

abbrev pub more : Grid → List ℕ → ℕ → ℕ → Rule → Table
more g W n end r = add g.tags (table_at g W 0 n) (rule_table g.tags end r)

-- the number of states of the table with the rule added, and that table if the states are no more than the ceiling
pub record Added (g : Grid) (W X : List ℕ) (n ceiling end : ℕ) (r : Rule) (count : ℕ) : Type 0 where
  pub count_is : count ≡ length (more g W n end r)
  pub kept : Kept g W X (InRows 0 g.rows)
  pub holds : count ≤ ceiling → Holds g X 0 (more g W n end r)
