use native.Mathlib.Omega.{arith}
use Rattle.cascades.specs.Pattern.{plain}
use Rattle.cascades.proofs.Pattern.{plain-length}
use Rattle.endings.proofs.Ending.{before-end, before-hit, before-miss, plain-hit, plain-miss}
use Rattle.endings.proofs.stands_before.Goals as goal

pub returns-then-u-i : goal.returns-then-u-i
returns-then-u-i c =
    let a = c.args in
    before-hit a.end (plain a.u.now) c.loop-i.i c.loop-i.invariant (omega (arith, plain-length a.u.now)) (plain-hit a.u.now c.loop-i.i a.end c.if-u-i.true)

pub loop-i-preserved : goal.loop-i-preserved
loop-i-preserved c =
    let a = c.args in
    before-miss a.end (plain a.u.now) c.loop-i.i c.loop-i.invariant (omega (arith, plain-length a.u.now)) (plain-miss a.u.now c.loop-i.i a.end c.if-u-i.false)

pub returns : goal.returns
returns c =
    let a = c.args in
    before-end a.end (plain a.u.now) c.loop-i.i c.loop-i.invariant (omega (arith, plain-length a.u.now))
