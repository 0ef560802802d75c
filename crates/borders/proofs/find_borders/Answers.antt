use Rattle.std.proofs.Common.{arith, inl, inr}
use Rattle.borders.proofs.Running.{running_on, running_shorter, border_shorter, count_small}
use Rattle.borders.proofs.find_borders.Goals as goal
use Rattle.borders.proofs.find_borders.Goals.{then-u-j, else-u-j+else-border-gt0}

pub overflow_add-count : goal.overflow_add-count
overflow_add-count c =
    let l = c.loop-j in
    omega (arith, count_small c.args.u.now c.args.borders.now c.requires l.borders l.j l.border l.count l.invariant c.loop-j-test.true)

pub loop-j-smaller-then-border-gt0 : goal.loop-j-smaller-then-border-gt0
loop-j-smaller-then-border-gt0 c =
    let l = c.loop-j in
    omega (arith, border_shorter c.args.u.now c.args.borders.now c.requires l.borders l.j l.border l.count l.invariant c.loop-j-test.true c.if-border-gt0.true)

pub loop-j-preserved-then-border-gt0 : goal.loop-j-preserved-then-border-gt0
loop-j-preserved-then-border-gt0 c =
    let l = c.loop-j in
    running_shorter c.args.u.now c.args.borders.now c.requires l.borders l.j l.border l.count l.invariant c.loop-j-test.true
    c.if-u-j.false c.if-border-gt0.true

pub loop-j-preserved : goal.loop-j-preserved
loop-j-preserved c =
    let l = c.loop-j in
    running_on c.args.u.now c.args.borders.now c.requires l.borders l.j l.border l.count l.invariant c.loop-j-test.true c.if-u-j.border
    (elim c.if-u-j.branch [
      | then-u-j w ↦ inl (w.if-u-j.true, w.border-is)
      | else-u-j+else-border-gt0 w ↦ inr (w.if-u-j.false, omega (arith, w.if-border-gt0.false), w.border-is)
    ])
