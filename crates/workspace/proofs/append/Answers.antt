use Rattle.workspace.specs.Cells.{word, Cell}
use Rattle.workspace.proofs.Words.{tag-kept, word-length}
use Rattle.workspace.proofs.Appending.{appending_next, appending_end}
use native.Mathlib.Omega.{arith}
use Rattle.workspace.proofs.append.Goals as goal

pub loop-i-preserved : goal.loop-i-preserved
loop-i-preserved c = let a = c.args in
    appending_next a.g a.work.now (word a.g a.work.now a.r a.c a.s) _ _ _ _ _ (omega (arith, word-length a.g a.work.now a.r a.c a.s))
    _ _ _ _ c.loop-i.invariant (omega arith)
    (tag-kept a.g (Cell a.r2 a.c2 a.s2) _ _ c.loop-i.invariant.kept a.r a.c a.s c.loop-i.i _ c.requires.inner (omega arith) (λ e p. c.requires.r2_lt_rows.2 p.0 p.1) c.get-tag.ensures)
    c.push.ensures

pub returns : goal.returns
returns c = let a = c.args in
    appending_end a.g a.work.now (word a.g a.work.now a.r a.c a.s) _ _ _ _ _ (omega (arith, word-length a.g a.work.now a.r a.c a.s)) _ _ c.loop-i.invariant (omega arith)
