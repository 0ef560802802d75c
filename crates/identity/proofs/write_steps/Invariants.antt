use Rattle.minimal.specs.TableOf.{identity}
use Rattle.workspace.specs.Holds.{Stepping}
use Rattle.identity.proofs.write_steps.Given as goal

abbrev pub invariant-loop-a : goal.invariant-loop-a
invariant-loop-a l = Stepping l.g l.initial.work l.work 0 identity 0 l.a
