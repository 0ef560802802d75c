use native.Mathlib.Omega.{arith}
use mathlib.Core.Path.{◌≡◌}
use Rattle.merge.proofs.split.Goals as goal

pub returns : goal.returns
returns c = let e : c.loop-q.q ≡ c.args.part.states = omega arith in rw e at c.loop-q.invariant
