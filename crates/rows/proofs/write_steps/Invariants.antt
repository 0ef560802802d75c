use mathlib.Core.Path.{◌≡◌}
use lib.ListN.{length}
use Rattle.rows.specs.Parts.{StepsHere}
use Rattle.rows.proofs.Rows.{StepsGoing}
use Rattle.rows.proofs.write_steps.Given as goal

abbrev pub invariant-loop-a : goal.invariant-loop-a
invariant-loop-a l = (length l.loaded ≡ length l.initial.loaded)
    × ((s : StepsHere l.from.table.now l.from.index.now l.from.size.tags l.cell l.initial.place (length l.initial.loaded)) → StepsGoing s.steps l.from.size.tags l.from.rested l.initial.place l.p l.initial.loaded l.loaded l.a l.place)
