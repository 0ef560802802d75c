use native.Mathlib.Omega.{arith}
use Rattle.number.proofs.Rows.{rows_rowing, rows_next}
use Rattle.number.proofs.number_rows.Goals as goal

pub number_row-requires : goal.number_row-requires
number_row-requires c = let a = c.args in
    rows_rowing a.part.grid _ _ _ a.count a.to c.requires.ordered c.requires.count_bound _ _ _ (omega arith) c.loop-i.invariant c.member-q.ensures.0

pub loop-i-preserved : goal.loop-i-preserved
loop-i-preserved c = let a = c.args in
    rows_next a.part.grid _ _ _ a.count a.to c.requires.ordered c.requires.count_bound _ _ _ (omega arith) c.loop-i.invariant c.number_row.ensures
