use native.Mathlib.Omega.{arith}
use Rattle.compose.proofs.Pairs.{runs_output, next_small, step_done}
use Rattle.compose.proofs.Pairing.step.Goals as goal

pub run_into-r-requires : goal.run_into-r-requires
run_into-r-requires c = let a = c.args in
    runs_output a.g _ _ _ _ _ _ c.requires.composable a.i a.s a.a (omega arith) c.requires.i_lt_len.1 c.requires.i_lt_len.2

pub overflow_add-pair : goal.overflow_add-pair
overflow_add-pair c = let a = c.args in
    omega (arith, next_small a.g _ _ _ _ _ _ c.requires.composable a.i a.s a.a (omega arith) c.requires.i_lt_len.1 c.requires.i_lt_len.2 _ _ c.run_into-r.ensures _ c.get-next.ensures)

pub enter-to-requires-clause-s_lt_n : goal.enter-to-requires-clause-s_lt_n
enter-to-requires-clause-s_lt_n c = let a = c.args in
    let run = c.run_into-r.ensures in
    let got = c.get-next.ensures in
    (next_small a.g _ _ _ _ _ _ c.requires.composable a.i a.s a.a (omega arith) c.requires.i_lt_len.1 c.requires.i_lt_len.2 _ _ run _ got).1

pub place_of-state-requires-clause-s_lt_n : goal.place_of-state-requires-clause-s_lt_n
place_of-state-requires-clause-s_lt_n c = let a = c.args in
    let entered = c.enter-to.ensures in
    ((next_small a.g _ _ _ _ _ _ c.requires.composable a.i a.s a.a (omega arith) c.requires.i_lt_len.1 c.requires.i_lt_len.2 _ _ c.run_into-r.ensures _ c.get-next.ensures).1, entered.here)

pub returns : goal.returns
returns c = let a = c.args in
    step_done a.g _ _ _ _ _ _ c.requires.composable a.i a.s a.a (omega arith) c.requires.i_lt_len.1 c.requires.i_lt_len.2 _ _ c.run_into-r.ensures _ c.get-next.ensures _ c.requires.worklist _ _ c.enter-to.ensures _ c.place_of-state.ensures _ c.put.ensures
