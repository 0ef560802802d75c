use mathlib.Core.Path.{◌≡◌}
use lib.ListN.{take, drop}
use Rattle.cascades.specs.Value.{places}
use Rattle.cascades.specs.Ending.{before}
use Rattle.endings.proofs.accepts_before.Given as goal

abbrev pub invariant-loop-i : goal.invariant-loop-i
invariant-loop-i l = before l.end (drop l.i (places l.u (take l.n l.sets))) ≡ before l.end (places l.u (take l.n l.sets))
