use Rattle.workspace.proofs.Fronts.{front_next, front_ends, front_whole}
use native.Mathlib.Omega.{arith}
use Rattle.workspace.proofs.common.Goals as goal

pub returns-then-tag-other : goal.returns-then-tag-other
returns-then-tag-other c = let b = c.requires.limit_bound in
    front_ends c.args.g _ _ _ _ _ _ _ _ _ b.0 b.1 _ _ _ _ (omega arith) c.get-tag.ensures c.get-other.ensures c.loop-i.invariant c.if-tag-other.true

pub loop-i-preserved : goal.loop-i-preserved
loop-i-preserved c = let b = c.requires.limit_bound in
    front_next c.args.g _ _ _ _ _ _ _ _ _ b.0 b.1 _ _ _ _ (omega arith) c.get-tag.ensures c.get-other.ensures c.loop-i.invariant c.if-tag-other.false

pub returns : goal.returns
returns c = let b = c.requires.limit_bound in
    front_whole c.args.g _ _ _ _ _ _ _ _ _ b.0 b.1 _ _ (omega arith) c.loop-i.invariant
