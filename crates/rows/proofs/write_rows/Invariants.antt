use mathlib.Core.Path.{◌≡◌}
use lib.ListN.{length}
use Rattle.loaded.specs.Numbers.{row_at}
use Rattle.rows.specs.Parts.{Source}
use Rattle.rows.proofs.Tables.{RowsGoing}
use Rattle.rows.proofs.write_rows.Given as goal

abbrev pub invariant-loop-q : goal.invariant-loop-q
invariant-loop-q l = (length l.loaded ≡ length l.initial.loaded)
    × ((x : Source l.table l.index l.size.tags l.size.states (length l.initial.loaded)) → RowsGoing x.table l.size.tags l.size.states l.rested l.initial.loaded l.loaded l.q l.place (row_at l.size.tags l.q))
