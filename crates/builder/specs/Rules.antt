-- Compiling the rules that the reader's arrays hold.
use Rattle.std.specs.Prelude.{ℕ, ◌≤◌, ◌≡◌, false, List}
use Rattle.limits.specs.Limits.{most_states, InRange}
use Rattle.limits.specs.Work.{rule_states, rule_holds, work_rows, work_depth}
use Rattle.limits.specs.declared.Limits.{Limits}
use Rattle.cascades.specs.Rule.{ending, some_has_set}
use Rattle.cascades.specs.Ending.{bad_end}
use Rattle.books.specs.Arrays.{Arrays, rules_of, cascade_of, RulesHeld}
use Rattle.workspace.specs.declared.Grid.{Grid}
use Rattle.workspace.specs.Cells.{Sized}

-- what has been read: limits and a ceiling in their ranges, and valid rules in the arrays
pub record Readable (lim : Limits) (k ceiling m : ℕ) (a : Arrays) : Type 0 where
  pub ranged : InRange lim
  pub some : 1 ≤ ceiling
  pub most : ceiling ≤ most_states
  pub tags : k ≤ lim.tags
  pub held : RulesHeld lim.pattern k m a

-- and the rows have the size that document 02 gives them, and 14 is not given
pub record Compilable (lim : Limits) (g : Grid) (W : List ℕ) (ceiling states end m : ℕ) (a : Arrays) : Type 0 where
  pub sized : Sized g W
  pub states_are : states ≡ rule_states lim (some_has_set (rules_of a m))
  pub rows : g.rows ≡ work_rows states ceiling
  pub depth : g.depth ≡ work_depth (rule_holds lim) m
  pub readable : Readable lim g.tags ceiling m a
  pub fits : bad_end (ending end (cascade_of g.tags a m)) ≡ false
