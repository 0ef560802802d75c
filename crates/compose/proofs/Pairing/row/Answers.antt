use native.Mathlib.Omega.{arith}
use Rattle.compose.proofs.Pairs.{roomy-product, count-product, composable_kept, first-same, second_same, notes_inside}
use Rattle.compose.proofs.Reached.{row_done}
use Rattle.compose.proofs.Pairing.row.Goals as goal

pub held-requires-clause-composable : goal.held-requires-clause-composable
held-requires-clause-composable c = let a = c.args in
    let u = c.steps-to.ensures in
    composable_kept a.g _ _ _ _ _ _ c.requires.composable _ (notes_inside a.g _ _ _ _ _ _ c.requires.composable _ a.i (omega arith) u.grown.kept)

pub returns : goal.returns
returns c = let a = c.args in
    let u = c.steps-to.ensures in
    let k = notes_inside a.g _ _ _ _ _ _ c.requires.composable _ a.i (omega arith) u.grown.kept in
    row_done a.g _ _ _ _ _ _ _ _ _ _ ((roomy-product a.g _ _ _ _ _ _ c.requires.composable).finals a.s (omega (arith, count-product a.g _ _ _ _ _ _ c.requires.composable, c.requires.i_lt_len.1))) u
    (rw (first-same a.g _ _ _ _ _ _ c.requires.composable _ k, second_same a.g _ _ _ _ _ _ c.requires.composable _ k) at c.held.ensures)
