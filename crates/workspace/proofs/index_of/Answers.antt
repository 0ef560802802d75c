use native.Mathlib.Omega.{arith}
use Rattle.workspace.specs.Cells.{ix}
use Rattle.workspace.proofs.Places.{ix-below, ix_parts}
use borrow.Author.Rules.{rules}
use Rattle.workspace.proofs.index_of.Goals as goal

pub overflow_mul-result-2 : goal.overflow_mul-result-2
unfolding ix
overflow_mul-result-2 c = let a = c.args in
    let h = c.requires.fact in
    omega (arith, c.requires.depth_bound, ix-below a.g a.r a.c a.e h, ix_parts a.g a.r a.c a.e h)

pub overflow_add-result-3 : goal.overflow_add-result-3
unfolding ix
overflow_add-result-3 c = let a = c.args in
    let h = c.requires.fact in
    omega (arith, c.requires.depth_bound, ix-below a.g a.r a.c a.e h, ix_parts a.g a.r a.c a.e h)

pub returns-clause-value : goal.returns-clause-value
unfolding ix
returns-clause-value c = search rules

pub returns-clause-below : goal.returns-clause-below
unfolding ix
returns-clause-below c = let a = c.args in ix-below a.g a.r a.c a.e c.requires.fact
