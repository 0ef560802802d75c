use native.Mathlib.Omega.{arith}
use mathlib.Core.Path.{sym}
use Rattle.workspace.proofs.Holds.{filling_next}
use Rattle.onerule.specs.States.{speaking}
use Rattle.onerule.proofs.Words.{roomy-words}
use Rattle.onerule.proofs.write_states.Goals as goal

pub loop-q-preserved : goal.loop-q-preserved
loop-q-preserved g c = let a = c.args in
    let p = a.pattern in
    filling_next a.g a.base a.count (speaking (g.S.States.numbered a.states.now p) p)
    (roomy-words p a.g c.requires.room _ c.requires.within) (sym c.requires.count_is.0) _ _ _ _ (omega arith)
    c.loop-q.invariant c.write_state.ensures
