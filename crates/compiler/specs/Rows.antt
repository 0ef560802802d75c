-- The rows of the work slice for a ceiling n and m rules over k tags, whose transducers have at most s states.
use Rattle.std.specs.Prelude.{ℕ}
use Rattle.limits.specs.declared.Limits.{Limits}
use Rattle.limits.specs.Work.{rule_holds, work_rows, work_depth}
use Rattle.workspace.specs.declared.Grid.{Grid}

abbrev pub grid_of : Limits → ℕ → ℕ → ℕ → ℕ → Grid
grid_of lim s k n m = record { rows = work_rows s n; tags = k; depth = work_depth (rule_holds lim) m }
