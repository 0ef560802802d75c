use Prim.Native.Nat.{◌+◌}
use mathlib.Core.Path.{◌≡◌}
use lib.ListN.{drop}
use Rattle.spans.specs.Span.{first_difference}
use Rattle.spans.proofs.first_difference.Given as goal

abbrev pub invariant-loop-i : goal.invariant-loop-i
invariant-loop-i l = first_difference l.v l.w ≡ l.i + first_difference (drop l.i l.v) (drop l.i l.w)
