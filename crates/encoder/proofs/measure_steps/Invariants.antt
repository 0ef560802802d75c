use Prim.Native.Nat.{◌*◌, ◌≤◌}
use mathlib.Core.Path.{◌≡◌}
use lib.ListN.{length}
use Rattle.tables.specs.Bytes.{step_bytes}
use Rattle.encoder.specs.Encoding.{step_in}
use Rattle.encoder.proofs.Encoding.{first_parts}
use Rattle.encoder.proofs.measure_steps.Given as goal

abbrev pub invariant-loop-a : goal.invariant-loop-a
invariant-loop-a l = (l.total ≤ 131073 * l.a) × (l.total ≡ length (first_parts step_bytes (step_in l.g l.work l.r) l.a))
