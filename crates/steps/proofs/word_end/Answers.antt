use native.Mathlib.Omega.{arith}
use Rattle.steps.proofs.Places.{word-short, word-left}
use Rattle.steps.proofs.word_end.Goals as goal

pub returns-else-table-at : goal.returns-else-table-at
returns-else-table-at c = let a = c.args in
    let at = c.loop-at.at in
    omega (arith, word-left a.command a.k a.table.now at (omega arith) c.if-table-at.false)

pub returns-after-loop-at : goal.returns-after-loop-at
returns-after-loop-at c = let a = c.args in
    omega (arith, word-short a.command a.k a.table.now c.loop-at.at (omega arith))
