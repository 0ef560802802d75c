use native.Mathlib.Omega.{arith}
use mathlib.Core.Path.{sym, ◌∙◌}
use mathlib.Core.List.{List}
use lib.ListN.{take}
use Rattle.cascades.specs.Pattern.{Class}
use Rattle.cascades.specs.Value.{places}
use Rattle.cascades.proofs.Pattern.{places-length}
use Rattle.endings.proofs.Ending.{before-end, before-hit, before-miss, place-accepts}
use Rattle.endings.proofs.accepts_before.Goals as goal
use Rattle.endings.proofs.accepts_before.Goals.{Start}

abbrev pattern : Start → List Class
pattern st = places st.args.u.now (take st.args.n st.args.sets.now)

pub returns-then-accepts : goal.returns-then-accepts
returns-then-accepts c =
    let l = c.loop-i in
    let a = c.args in
    let ss = take a.n a.sets.now in
    before-hit a.end (pattern (goal.at.returns-then-accepts c).Start) l.i l.invariant (omega (arith, places-length a.u.now ss))
    (sym (c.accepts.ensures ∙ place-accepts a.u.now ss l.i a.end (omega arith) c.set_at-set.result c.set_at-set.ensures) ∙ c.if-accepts.true)

pub loop-i-preserved : goal.loop-i-preserved
loop-i-preserved c =
    let l = c.loop-i in
    let a = c.args in
    let ss = take a.n a.sets.now in
    before-miss a.end (pattern (goal.at.loop-i-preserved c).Start) l.i l.invariant (omega (arith, places-length a.u.now ss))
    (sym (c.accepts.ensures ∙ place-accepts a.u.now ss l.i a.end (omega arith) c.set_at-set.result c.set_at-set.ensures) ∙ c.if-accepts.false)

pub returns : goal.returns
returns c =
    let l = c.loop-i in
    before-end c.args.end (pattern (goal.at.returns c).Start) l.i l.invariant (omega (arith, places-length c.args.u.now (take c.args.n c.args.sets.now)))
