use native.Mathlib.Omega.{arith}
use lib.ListN.{take}
use Rattle.cascades.specs.Value.{places}
use Rattle.cascades.proofs.Pattern.{places-length}
use Rattle.classes.proofs.Classes.{part_none}
use Rattle.classes.proofs.find.Goals as goal

pub returns-then-room-u : goal.returns-then-room-u
returns-then-room-u c = let a = c.args in
    let pre = c.requires in
    part_none (places a.u.now (take a.n a.sets.now)) a.s.now a.from (omega (arith, pre.0, places-length a.u.now (take a.n a.sets.now))) 0
    (omega (arith, places-length a.u.now (take a.n a.sets.now))) (λ j l. absurd (omega arith))

pub returns : goal.returns
returns c = let a = c.args in
    let l = c.loop-i in
    part_none (places a.u.now (take a.n a.sets.now)) a.s.now a.from (omega (arith, c.requires.0, places-length a.u.now (take a.n a.sets.now))) l.i
    (omega (arith, places-length a.u.now (take a.n a.sets.now))) l.invariant
