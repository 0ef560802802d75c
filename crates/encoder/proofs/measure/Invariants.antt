use Prim.Native.Nat.{◌+◌, ◌*◌, ◌≤◌}
use mathlib.Core.Path.{◌≡◌}
use lib.ListN.{length}
use Rattle.tables.specs.Bytes.{row_bytes}
use Rattle.encoder.specs.Encoding.{row_in}
use Rattle.encoder.proofs.Encoding.{first_parts}
use Rattle.encoder.proofs.measure.Given as goal

abbrev pub invariant-loop-q : goal.invariant-loop-q
invariant-loop-q l = (l.total ≤ 0x3000000 * l.q) × (l.total ≡ length (first_parts row_bytes (λ k. row_in l.part.grid l.work (l.part.base + k)) l.q))
