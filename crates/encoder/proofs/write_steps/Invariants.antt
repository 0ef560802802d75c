use mathlib.Core.Path.{◌≡◌}
use lib.ListN.{length}
use Rattle.tables.specs.Bytes.{step_bytes}
use Rattle.encoder.specs.Encoding.{BytesWritten, step_in}
use Rattle.encoder.proofs.Encoding.{first_parts}
use Rattle.encoder.proofs.write_steps.Given as goal

abbrev pub invariant-loop-a : goal.invariant-loop-a
invariant-loop-a l = (length l.out ≡ length l.initial.out) × BytesWritten l.initial.out l.out l.from (first_parts step_bytes (step_in l.g l.work l.r) l.a) l.to
