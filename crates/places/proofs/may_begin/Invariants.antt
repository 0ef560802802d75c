use Prim.Native.Nat.{◌+◌}
use mathlib.Core.Path.{◌≡◌}
use mathlib.Core.Bool.{false}
use Rattle.places.specs.Places.{Free}
use Rattle.places.proofs.may_begin.Given as goal

abbrev pub invariant-loop-j : goal.invariant-loop-j
invariant-loop-j g l = l.may ≡ false → Free l.u l.s l.from (l.from + l.j)
