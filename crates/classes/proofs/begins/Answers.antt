use native.Mathlib.Omega.{arith}
use mathlib.Core.Path.{◌∙◌, sym}
use lib.ListN.{take}
use Rattle.classes.proofs.Classes.{fits_next, fits-stops, all_fit}
use Rattle.classes.proofs.begins.Goals as goal

pub returns-then-not-accepts : goal.returns-then-not-accepts
returns-then-not-accepts c = let l = c.loop-j in
    let a = c.args in
    sym (fits-stops a.u.now (take a.n a.sets.now) a.s.now a.i l.j (omega arith) (omega arith) c.set_at-set.result c.set_at-set.ensures
    (sym (c.if-not-accepts.true) ∙ c.accepts.ensures)) ∙ l.invariant

pub loop-j-preserved : goal.loop-j-preserved
loop-j-preserved c = let l = c.loop-j in
    let a = c.args in
    sym (fits_next a.u.now (take a.n a.sets.now) a.s.now a.i l.j (omega arith) (omega arith) c.set_at-set.result c.set_at-set.ensures
    (sym (c.if-not-accepts.false) ∙ c.accepts.ensures)) ∙ l.invariant

pub returns : goal.returns
returns c = let a = c.args in
    let l = c.loop-j in
    all_fit a.u.now (take a.n a.sets.now) a.s.now a.i l.j (omega arith) ∙ l.invariant
