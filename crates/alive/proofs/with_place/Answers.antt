use Prim.Native.Nat.{◌+◌, ◌*◌, ◌^◌}
use mathlib.Core.Path.{sym, ap, ◌∙◌}
use mathlib.Core.Bool.{Bool}
use Rattle.alive.specs.Alive.{bit}
use Rattle.alive.proofs.Alive.{bit-put}
use Rattle.alive.proofs.with_place.Goals as goal

pub returns-then-accepted : goal.returns-then-accepted
returns-then-accepted c = let a = c.args in
    bit-put a.mask a.j c.requires.0 c.requires.1 ∙ ap (λ (t : Bool). a.mask + bit t * 2 ^ a.j) (sym c.if-accepted.true)
