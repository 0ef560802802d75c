use mathlib.Core.Path.{◌≡◌}
use lib.ListN.{drop}
use Rattle.cascades.specs.Pattern.{plain}
use Rattle.cascades.specs.Ending.{before}
use Rattle.endings.proofs.stands_before.Given as goal

abbrev pub invariant-loop-i : goal.invariant-loop-i
invariant-loop-i l = before l.end (drop l.i (plain l.u)) ≡ before l.end (plain l.u)
