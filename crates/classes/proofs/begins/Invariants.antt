use Prim.Native.Nat.{◌+◌}
use mathlib.Core.Path.{◌≡◌}
use lib.ListN.{take, drop}
use Rattle.cascades.specs.Pattern.{fits}
use Rattle.cascades.specs.Value.{places}
use Rattle.classes.proofs.begins.Given as goal

abbrev pub invariant-loop-j : goal.invariant-loop-j
invariant-loop-j l = fits (drop l.j (places l.u (take l.n l.sets))) (drop (l.j + l.i) l.s) ≡ fits (places l.u (take l.n l.sets)) (drop l.i l.s)
