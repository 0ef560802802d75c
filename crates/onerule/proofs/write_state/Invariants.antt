use Prim.Native.Nat.{◌+◌}
use Rattle.workspace.specs.Holds.{Stepping}
use Rattle.onerule.specs.States.{speaking}
use Rattle.onerule.proofs.write_state.Given as goal

abbrev pub invariant-loop-a : goal.invariant-loop-a
invariant-loop-a g l =
    Stepping l.g l.initial.work l.work (l.base + l.q)
    (speaking (g.S.States.numbered l.states l.pattern) l.pattern) l.q l.a
