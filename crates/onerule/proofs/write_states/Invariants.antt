use Rattle.workspace.specs.Holds.{Filling}
use Rattle.onerule.specs.States.{speaking}
use Rattle.onerule.proofs.write_states.Given as goal

abbrev pub invariant-loop-q : goal.invariant-loop-q
invariant-loop-q g l =
    Filling l.g l.initial.work l.work l.base l.count
    (speaking (g.S.States.numbered l.states l.pattern) l.pattern) l.q
