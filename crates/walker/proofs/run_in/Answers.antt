use Prim.Native.Nat.{ℕ}
use mathlib.Core.Path.{refl, subst}
use Rattle.ways.specs.Walk.{Walked}
use Rattle.walker.specs.Run.{way_run}
use Rattle.walker.proofs.Runs.{ran_12, way_lost}
use Rattle.walker.proofs.run_in.Goals as goal

pub returns-then-not-walk : goal.returns-then-not-walk
returns-then-not-walk c = let a = c.args in
    let w = c.walk in
    let walked = subst (λ (x : ℕ). Walked w.result a.ns.now x a.sentence.now w.new.buf) c.from.ensures w.ensures in
    ran_12 (way_run a.ns.now a.k a.sentence.now) a.sentence.now a.out.now
    (way_lost a.ns.now a.k a.sentence.now a.out.now w.new.buf w.result walked c.if-not-walk.true) _ refl
