use native.Mathlib.Omega.{arith}
use Rattle.compose.proofs.Pairs.{composable_kept, first-same, second_same, notes_inside}
use Rattle.compose.proofs.Reached.{steps_next}
use Rattle.compose.proofs.Pairing.steps.Goals as goal

pub step-to-requires-clause-composable : goal.step-to-requires-clause-composable
step-to-requires-clause-composable c = let a = c.args in
    let inv = c.loop-a.invariant in
    composable_kept a.g _ _ _ _ _ _ c.requires.composable _ (notes_inside a.g _ _ _ _ _ _ c.requires.composable _ a.i (omega arith) inv.grown.kept)

pub loop-a-preserved : goal.loop-a-preserved
loop-a-preserved c = let a = c.args in
    let inv = c.loop-a.invariant in
    let k = notes_inside a.g _ _ _ _ _ _ c.requires.composable _ a.i (omega arith) inv.grown.kept in
    steps_next a.g _ _ _ _ _ a.i a.s _ _ _ _ _ (omega arith) inv (rw (first-same a.g _ _ _ _ _ _ c.requires.composable _ k, second_same a.g _ _ _ _ _ _ c.requires.composable _ k) at c.step-to.ensures)
