use native.Mathlib.Omega.{arith}
use Prim.Native.Nat.{ℕ, ◌+◌, ◌*◌, ◌^◌}
use mathlib.Core.Path.{ap₂, ◌∙◌}
use mathlib.Core.Bool.{Bool}
use lib.ListN.{take}
use Rattle.alive.specs.Alive.{bit}
use Rattle.alive.proofs.Alive.{mask_below, mask_next, mask_all}
use Rattle.alive.proofs.mask_of.Goals as goal

pub with_place-mask-requires : goal.with_place-mask-requires
with_place-mask-requires c = let l = c.loop-j in
    let a = c.args in
    (omega (arith, l.invariant, mask_below a.u.now (take a.n a.sets.now) l.j a.a (omega arith)), omega arith)

pub loop-j-preserved : goal.loop-j-preserved
loop-j-preserved c = let l = c.loop-j in
    let a = c.args in
    c.with_place-mask.ensures
    ∙ ap₂ (λ (x : ℕ) (t : Bool). x + bit t * 2 ^ l.j) l.invariant c.accepts.ensures
    ∙ mask_next a.u.now (take a.n a.sets.now) l.j a.a (omega arith) c.set_at-set.result c.set_at-set.ensures

pub returns : goal.returns
returns c = let l = c.loop-j in
    let a = c.args in
    l.invariant ∙ mask_all a.u.now (take a.n a.sets.now) l.j a.a (omega arith)
