use native.Mathlib.Omega.{arith}
use Rattle.places.proofs.Places.{may_more}
use Rattle.places.proofs.may_begin.Goals as goal

pub loop-j-preserved : goal.loop-j-preserved
loop-j-preserved g c =
    let a = c.args in
    let l = c.loop-j in
    may_more a.u.now a.s.now a.from l.j _ _ (omega arith) (omega (arith, c.min-v.ensures)) _ l.may l.invariant
