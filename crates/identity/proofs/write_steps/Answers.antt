use native.Mathlib.Omega.{arith}
use Rattle.minimal.specs.TableOf.{identity}
use Rattle.workspace.proofs.Holds.{stepping_next}
use Rattle.identity.proofs.Row.{roomy}
use Rattle.identity.proofs.write_steps.Goals as goal

pub loop-a-preserved : goal.loop-a-preserved
loop-a-preserved c =
    stepping_next c.args.g 0 identity 0 (omega arith) (roomy c.args.g c.requires.rows_nonzero.1) _ _ _ _ (omega arith)
    c.loop-a.invariant c.write_step.ensures
