use native.Mathlib.Omega.{arith}
use mathlib.Core.Path.{sym}
use Rattle.cascades.proofs.Pattern.{member_outside}
use Rattle.cascades.proofs.member.Goals as goal

-- `cascades::member` meets its contract.
pub returns-then-a-gt63 : goal.returns-then-a-gt63
returns-then-a-gt63 c = let a = c.args in sym (member_outside a.set 64 a.a (omega arith) (omega arith))
