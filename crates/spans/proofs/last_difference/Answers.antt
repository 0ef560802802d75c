use native.Mathlib.Omega.{arith}
use mathlib.Core.Path.{◌∙◌}
use Rattle.spans.proofs.Span.{last_stop, last-down}
use Rattle.spans.proofs.last_difference.Goals as goal

pub returns-then-v-i : goal.returns-then-v-i
returns-then-v-i c = let l = c.loop-i in
    omega (arith, l.invariant, last_stop c.args.v.now c.args.w.now l.i c.requires (omega arith) (omega arith) c.if-v-i.true)

pub loop-i-preserved : goal.loop-i-preserved
loop-i-preserved c = let l = c.loop-i in
    l.invariant ∙ last-down c.args.v.now c.args.w.now l.i c.requires (omega arith) (omega arith) c.if-v-i.false
