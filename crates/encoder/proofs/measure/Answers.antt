use Prim.Native.Nat.{ℕ, ◌+◌}
use native.Mathlib.Omega.{arith}
use Rattle.transducers.specs.Table.{Row}
use Rattle.tables.specs.Bytes.{row_bytes}
use Rattle.encoder.specs.Encoding.{row_in}
use Rattle.encoder.proofs.Encoding.{parts_measured}
use Rattle.encoder.proofs.measure.Goals as goal
use Rattle.encoder.proofs.measure.Goals.{Start}

abbrev rows : Start → ℕ → Row
rows c q = row_in c.args.part.grid c.args.work.now (c.args.part.base + q)

pub loop-q-preserved : goal.loop-q-preserved
loop-q-preserved c = let l = c.loop-q in (
  omega (arith, c.measure_row-total.ensures.low),
  parts_measured row_bytes (rows (goal.at.loop-q-preserved c).Start) l.q l.total c.measure_row-total.result l.invariant.1 c.measure_row-total.ensures.is,
)
