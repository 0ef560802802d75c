use Rattle.workspace.proofs.Shifting.{shifting_end, dropped_none}
use native.Mathlib.Omega.{arith}
use Rattle.workspace.proofs.drop_front.Goals as goal

pub returns-then-n-eq0 : goal.returns-then-n-eq0
returns-then-n-eq0 c = let a = c.args in dropped_none a.g _ _ _ _ _ c.if-n-eq0.true

pub returns : goal.returns
returns c = shifting_end c.args.g _ _ _ _ _ c.requires.inner _ _ _ c.loop-i.invariant (omega (arith, c.get-len.ensures.is)) (rw c.get-len.ensures.is at c.put-2.ensures)
