use mathlib.Core.Path.{◌≡◌}
use lib.ListN.{take}
use Rattle.cascades.specs.Value.{places}
use Rattle.minimal.specs.Bits.{accepting}
use Rattle.alive.proofs.mask_of.Given as goal

abbrev pub invariant-loop-j : goal.invariant-loop-j
invariant-loop-j l = l.mask ≡ accepting (take l.j (places l.u (take l.n l.sets))) l.a
