use Prim.Native.Nat.{◌+◌}
use native.Mathlib.Omega.{arith}
use mathlib.Core.Path.{◌≡◌, ap}
use Rattle.minimal.specs.Matcher.{held}
use Rattle.workspace.proofs.Holds.{stepping_next, stepping_end}
use Rattle.workspace.proofs.Words.{written_is}
use Rattle.onerule.specs.States.{speaking}
use Rattle.onerule.proofs.Words.{roomy-words}
use Rattle.onerule.proofs.write_state.Goals as goal

pub loop-a-preserved : goal.loop-a-preserved
loop-a-preserved g c = let a = c.args in
    let p = a.pattern in
    stepping_next a.g (a.base + a.q) (speaking (g.S.States.numbered a.states.now p) p) a.q c.requires.q_in.0
    (roomy-words p a.g c.requires.room _ c.requires.within) _ _ _ _ (omega arith)
    c.loop-a.invariant c.write_step.ensures

pub returns : goal.returns
returns g c = let a = c.args in
    let all : c.loop-a.a ≡ a.g.tags = omega arith in
    let p = a.pattern in
    stepping_end a.g (a.base + a.q) (speaking (g.S.States.numbered a.states.now p) p) a.q c.requires.q_in.0
    (roomy-words p a.g c.requires.room _ c.requires.within) _ _ _ (rw all at c.loop-a.invariant)
    (written_is a.g _ _ _ _ _ _ _ (ap (held p.tags.now p.place) c.matched-matched.ensures) c.write_final.ensures)
