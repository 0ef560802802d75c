use Prim.Native.Nat.{ℕ, ◌+◌, ◌<◌}
use native.Mathlib.Omega.{arith}
use mathlib.Core.List.{List, []}
use mathlib.Core.Path.{◌≡◌, refl, ◌∙◌, ap}
use Rattle.limits.specs.Limits.{most_rules}
use Rattle.cascades.specs.Rule.{Rule}
use Rattle.cascades.specs.Rewrite.{apply_all}
use Rattle.cascades.specs.Value.{rule_of}
use Rattle.books.specs.Arrays.{Arrays, arrays, rule_at}
use Rattle.traces.specs.Trace.{beside, trace_from}
use Rattle.application.proofs.Rules.{none_from, rule-next, number-next, sets-read, rule_without, formed_without, changes_at}
use Rattle.application.proofs.apply_tags.Goals as goal
use Rattle.application.proofs.apply_tags.Goals.{After-rule_at-rule}

-- the rule that was read
module _ (c : After-rule_at-rule) where
  abbrev rules : Arrays
  rules = arrays c.args.rules.now c.args.sets.now

  abbrev i : ℕ
  i = c.loop-i.i

  none : c.rule_at-rule.result.sets ≡ 0
  none =
      let small : i < most_rules = omega (arith, c.requires.0.few) in
      sets-read rules i c.rule_at-rule.result _ c.requires.0.shaped small c.rule_at-rule.ensures.0 c.rule_at-rule.ensures.1
      ∙ c.requires.2 i c.loop-i.auto.i (omega arith)

  abbrev taken : Rule
  taken = rule_of c.rule_at-rule.result []

  is : taken ≡ rule_at rules i
  is = rule_without c.rule_at-rule.result _ none ∙ c.rule_at-rule.ensures.0

pub loop-i-init : goal.loop-i-init
loop-i-init c =
    let a = c.args in
    let none = none_from (arrays a.rules.now a.sets.now) a.from in (
      refl,
      ap (λ (rs : List Rule). apply_all rs a.s.now) none,
      refl,
      ap (λ (rs : List Rule). (trace_from (a.from + 1) rs (beside a.s.now a.v.now)).numbers) none,
    )

pub apply_tags-requires : goal.apply_tags-requires
apply_tags-requires c =
    let p = (goal.at.apply_tags-requires c).After-rule_at-rule in
    (formed_without c.rule_at-rule.result _ (none p) c.rule_at-rule.ensures.1, changes_at c.args.m (rules p) c.requires.0 (i p) (omega arith) (taken p) (is p))

pub loop-i-preserved : goal.loop-i-preserved
loop-i-preserved c =
    let p = (goal.at.loop-i-preserved c).After-rule_at-rule in
    let a = c.args in
    let l = c.loop-i in
    let called = c.apply_tags in (
      called.auto.s ∙ l.invariant.0,
      called.ensures.s ∙ rule-next (rules p) l.i (l.i + 1) refl (taken p) (is p) a.from c.loop-i.auto.i a.s.now l.s l.invariant.1,
      called.auto.v ∙ l.invariant.2,
      called.ensures.v ∙ number-next (rules p) l.i (l.i + 1) refl (taken p) (is p) a.from c.loop-i.auto.i a.s.now l.s l.v a.v.now l.invariant.1 l.invariant.3,
    )
