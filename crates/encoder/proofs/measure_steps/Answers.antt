use Prim.Native.Nat.{◌+◌, ◌*◌}
use native.Mathlib.Omega.{arith}
use Rattle.tables.specs.Bytes.{step_bytes}
use Rattle.encoder.specs.Encoding.{step_in}
use Rattle.encoder.proofs.Encoding.{parts_measured, step-long}
use Rattle.encoder.proofs.measure_steps.Goals as goal

pub loop-a-preserved : goal.loop-a-preserved
loop-a-preserved c = let l = c.loop-a in (
  omega (arith, c.get.ensures.small),
  parts_measured step_bytes (step_in c.args.g c.args.work.now c.args.r) l.a l.total (3 + 2 * c.get.result) l.invariant.1
      (step-long c.args.g c.args.work.now c.args.r l.a c.get.result c.get.ensures.is),
)
