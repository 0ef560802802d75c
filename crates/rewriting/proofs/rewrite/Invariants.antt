use Prim.Native.Nat.{◌-◌}
use lib.ListN.{length}
use Rattle.cascades.specs.Value.{kind_of, rule_with}
use Rattle.rewriting.proofs.Rewriting.{Going, Noted}
use Rattle.rewriting.proofs.rewrite.Given as goal

abbrev pub invariant-loop-place : goal.invariant-loop-place
invariant-loop-place g l =
    Going (rule_with (kind_of l.rule.everywhere) (g.P.Pattern.pattern l.pattern) l.rule.place l.rule.tag) l.initial.s l.s l.from × Noted l.x l.initial.s l.initial.v l.s l.v l.from

abbrev pub decreases-loop-place : goal.decreases-loop-place
decreases-loop-place g l = length l.s - l.from
