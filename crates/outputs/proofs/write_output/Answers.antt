use native.Mathlib.Omega.{arith}
use Rattle.workspace.proofs.Words.{written-more, written_is}
use Rattle.outputs.proofs.Words.{says_short, says_back_all}
use Rattle.outputs.proofs.write_output.Goals as goal

pub returns-then-place-next : goal.returns-then-place-next
returns-then-place-next c = let a = c.args in
    written_is a.g _ _ _ _ _ _ _ (says_short a.u.now a.place a.tag a.j a.a a.next (omega arith) (omega arith) (omega arith) c.if-place-next.true)
    (written-more a.g _ _ _ _ _ _ _ _ c.clear.ensures c.push_all-then-place-next.ensures)

pub returns : goal.returns
returns c = let a = c.args in
    written_is a.g _ _ _ _ _ _ _ (says_back_all a.u.now a.place a.tag a.j a.a a.next (omega arith) (omega arith) (omega arith) _ c.min.ensures)
    (written-more a.g _ _ _ _ _ _ _ _ (written-more a.g _ _ _ _ _ _ _ _ c.clear.ensures c.push_all-2.ensures) c.push-2.ensures)
