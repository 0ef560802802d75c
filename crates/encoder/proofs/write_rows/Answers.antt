use Prim.Native.Nat.{ℕ, ◌+◌}
use native.Mathlib.Omega.{arith}
use mathlib.Core.Path.{◌∙◌}
use lib.ListN.{length}
use Rattle.transducers.specs.Table.{Row}
use Rattle.tables.specs.Bytes.{row_bytes}
use Rattle.encoder.specs.Encoding.{row_in}
use Rattle.encoder.proofs.Encoding.{parts_room, parts_wrote}
use Rattle.encoder.proofs.write_rows.Goals as goal
use Rattle.encoder.proofs.write_rows.Goals.{Start}

abbrev rows : Start → ℕ → Row
rows c q = row_in c.args.part.grid c.args.work.now (c.args.part.base + q)

pub write_row-to-requires-clause-r_in_bounds : goal.write_row-to-requires-clause-r_in_bounds
write_row-to-requires-clause-r_in_bounds c = let l = c.loop-q in parts_room row_bytes (rows (goal.at.write_row-to-requires-clause-r_in_bounds c).Start) l.q c.args.part.states c.args.from l.to (length l.out) (omega arith) (omega (arith, c.requires.n_in_bounds)) l.invariant.1.end

pub loop-q-preserved : goal.loop-q-preserved
loop-q-preserved c = let l = c.loop-q in
    let w = c.write_row-to in (
      w.auto.out ∙ l.invariant.0,
      parts_wrote row_bytes (rows (goal.at.loop-q-preserved c).Start) c.args.out.now l.out w.new.out c.args.from l.to w.result l.q l.invariant.1 w.ensures,
    )
