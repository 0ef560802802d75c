use mathlib.Core.Path.{◌≡◌}
use lib.ListN.{take}
use Rattle.spans.specs.Span.{last_difference}
use Rattle.spans.proofs.last_difference.Given as goal

abbrev pub invariant-loop-i : goal.invariant-loop-i
invariant-loop-i l = last_difference l.v l.w ≡ last_difference (take l.i l.v) (take l.i l.w)
