use Prim.Native.Nat.{ℕ, ◌+◌, ◌<◌}
use mathlib.Core.Path.{◌≡◌}
use mathlib.Core.Bool.{false}
use lib.ListN.{take, drop}
use Rattle.cascades.specs.Pattern.{fits}
use Rattle.cascades.specs.Value.{places}
use Rattle.classes.proofs.find.Given as goal

abbrev pub invariant-loop-i : goal.invariant-loop-i
invariant-loop-i l = (j : ℕ) → j < l.i → fits (places l.u (take l.n l.sets)) (drop (l.from + j) l.s) ≡ false
