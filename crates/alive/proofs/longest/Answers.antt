use native.Mathlib.Omega.{arith}
use Rattle.alive.proofs.Alive.{width-leading}
use Rattle.alive.proofs.longest.Goals as goal

pub returns : goal.returns
returns c = width-leading c.args.alive (omega arith)
