use Rattle.compose.proofs.Pairs.{runs_final, last_inner, last-room, final_done}
use native.Mathlib.Omega.{arith}
use Rattle.compose.proofs.Pairing.held.Goals as goal

pub run_into-to-requires : goal.run_into-to-requires
run_into-to-requires c = runs_final c.args.g _ _ _ _ _ _ c.requires.composable c.args.i c.args.s c.requires.i_bound.0 c.requires.i_bound.1

pub overflow_add-second : goal.overflow_add-second
overflow_add-second c = omega (arith, last_inner c.args.g _ _ _ _ _ _ c.requires.composable c.args.i c.args.s c.requires.i_bound.0 c.requires.i_bound.1 _ _ c.run_into-to.ensures)

pub append_word-requires-clause-inner : goal.append_word-requires-clause-inner
append_word-requires-clause-inner c = last_inner c.args.g _ _ _ _ _ _ c.requires.composable c.args.i c.args.s c.requires.i_bound.0 c.requires.i_bound.1 _ _ c.run_into-to.ensures

pub append_word-requires-clause-s_bound : goal.append_word-requires-clause-s_bound
append_word-requires-clause-s_bound c = last-room c.args.g _ _ _ _ _ _ c.requires.composable c.args.i c.args.s c.requires.i_bound.0 c.requires.i_bound.1 _ _ c.run_into-to.ensures

pub returns : goal.returns
returns c = final_done c.args.g _ _ _ _ _ _ c.requires.composable c.args.i c.args.s c.requires.i_bound.0 c.requires.i_bound.1 _ _ c.run_into-to.ensures _ c.append_word.ensures
