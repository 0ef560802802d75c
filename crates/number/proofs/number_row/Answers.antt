use native.Mathlib.Omega.{arith}
use Rattle.number.proofs.Rows.{state-low, inner-final, rowing_kept, row_done}
use Rattle.number.proofs.number_row.Goals as goal

pub overflow_add-part : goal.overflow_add-part
overflow_add-part c = let a = c.args in
    omega (arith, state-low a.part.grid _ _ _ _ _ _ _ c.requires)

pub copy_word-requires-clause-inner : goal.copy_word-requires-clause-inner
copy_word-requires-clause-inner c = let a = c.args in
    let on = rowing_kept a.part.grid _ _ _ _ _ _ _ c.requires _ c.number_steps.ensures.kept in
    inner-final a.part.grid _ _ _ _ _ _ _ (on)

pub returns : goal.returns
returns c = let a = c.args in
    row_done a.part.grid _ _ _ _ _ _ _ c.requires _ _ c.number_steps.ensures c.copy_word.ensures
