use native.Mathlib.Omega.{arith}
use Rattle.number.proofs.Rows.{state-low, inner-output, step_done}
use Rattle.number.proofs.number_step.Goals as goal

pub overflow_add-part : goal.overflow_add-part
overflow_add-part c = let a = c.args in
    omega (arith, state-low a.part.grid _ _ _ _ _ _ _ c.requires.rowing)

pub copy_word-requires-clause-inner : goal.copy_word-requires-clause-inner
copy_word-requires-clause-inner c = let a = c.args in
    inner-output a.part.grid _ _ _ _ _ _ _ c.requires.rowing a.a c.requires.a_lt_tags

pub returns : goal.returns
returns c = let a = c.args in
    step_done a.part.grid _ _ _ _ _ _ _ c.requires.rowing a.a _ _ _ c.requires.a_lt_tags c.next_place-next.ensures.0 c.copy_word.ensures c.put.ensures
