use mathlib.Core.Path.{◌≡◌}
use lib.ListN.{length, take}
use Rattle.limits.specs.Limits.{most_tags}
use Rattle.cascades.specs.Value.{places}
use Rattle.alive.specs.Alive.{Masks}
use Rattle.alive.proofs.masks_of.Given as goal

abbrev pub invariant-loop-a : goal.invariant-loop-a
invariant-loop-a l = (length l.masks ≡ most_tags) × Masks (places l.u (take l.n l.sets)) l.a l.masks
