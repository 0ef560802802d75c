use Prim.Native.Nat.{◌-◌}
use native.Mathlib.Omega.{arith}
use mathlib.Core.Path.{◌∙◌, sym}
use lib.ListN.{length}
use Rattle.places.proofs.Places.{first-other, all_more, tag-other}
use Rattle.places.proofs.seek.Goals as goal
use Rattle.places.proofs.seek.Goals.{else-s-i-via-then-s-i+then-s-i-2+else-begins, else-s-i-via-then-s-i+else-s-i-2, else-s-i-via-else-s-i}

pub loop-i-preserved : goal.loop-i-preserved
loop-i-preserved c =
    let a = c.args in
    let l = c.loop-i in
    all_more _ a.from l.i l.invariant
    (elim c.else-s-i.branch [
      | else-s-i-via-then-s-i+then-s-i-2+else-begins w ↦ sym w.begins.ensures ∙ w.if-begins.false
      | else-s-i-via-then-s-i+else-s-i-2 w ↦ tag-other a.u.now a.s.now l.i (length a.u.now - 1) (omega arith) w.if-s-i-2.false
      | else-s-i-via-else-s-i w ↦ first-other a.u.now a.s.now l.i (omega arith) w.if-s-i.false
    ])
