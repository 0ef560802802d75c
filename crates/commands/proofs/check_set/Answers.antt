use native.Mathlib.Omega.{arith}
use Rattle.books.proofs.SoFar.{set-few, set_good}
use Rattle.commands.proofs.check_set.Goals as goal

pub returns-then-set-lt2 : goal.returns-then-set-lt2
returns-then-set-lt2 c =
    let a = c.args in set-few a.k a.set c.if-set-k-ne0.false (omega (arith, c.if-set-lt2.true))

pub returns : goal.returns
returns c =
    let a = c.args in set_good a.k a.set c.if-set-k-ne0.false (omega (arith, c.if-set-lt2.false))
