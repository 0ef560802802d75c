use Prim.Native.Nat.{ℕ, ◌+◌, ◌-◌}
use native.Mathlib.Omega.{arith}
use mathlib.Core.List.{List}
use mathlib.Core.Path.{◌≡◌, refl, ◌∙◌}
use lib.ListN.{length}
use Rattle.cascades.specs.Rule.{Rule}
use Rattle.cascades.specs.Rewrite.{apply, apply_all}
use Rattle.books.specs.Arrays.{Arrays, arrays, rule_at, rules_of}
use Rattle.traces.specs.Trace.{beside, mark, trace_from}
use Rattle.application.proofs.Rules.{rule_alone, number_alone, rule-next, number-next, changes_at}
use Rattle.application.proofs.+apply_sets.Goals as goal
use Rattle.application.proofs.+apply_sets.Goals.{After-rule_at-rule}

-- the last rule
module _ (t : ℕ) (c : After-rule_at-rule t) where
  abbrev rules : Arrays
  rules = arrays c.args.rules.now c.args.sets.now

  abbrev i : ℕ
  i = c.args.m - 1

  next : c.args.m ≡ i + 1
  next = omega (arith, c.if-m-eq0.false)

  -- the tags and numbers that the rules before it left, and what it makes of them
  abbrev x : List ℕ
  x = c.apply_sets.new.s

  abbrev v : List ℕ
  v = c.apply_sets.new.v

  tags : (r : Rule) → r ≡ rule_at rules i → (y : List ℕ) → y ≡ apply r x → y ≡ apply_all (rules_of rules c.args.m) c.args.s.now
  tags r read y e = e ∙ rule-next rules i c.args.m next r read 0 (omega arith) c.args.s.now x c.apply_sets.ensures.s

  numbers : (r : Rule) → r ≡ rule_at rules i → (z : List ℕ) → z ≡ mark (length x) r c.args.m x v → z ≡ (trace_from 1 (rules_of rules c.args.m) (beside c.args.s.now c.args.v.now)).numbers
  numbers r read z f =
      f ∙ number-next rules i c.args.m next r read 0 (omega arith) c.args.s.now x v c.args.v.now c.apply_sets.ensures.s c.apply_sets.ensures.v

pub apply_sets-requires-else-rule-eq0 : goal.apply_sets-requires-else-rule-eq0
apply_sets-requires-else-rule-eq0 t c =
    let p = (goal.at.apply_sets-requires-else-rule-eq0 t c).After-rule_at-rule in
    let u = c.requires.0 in
    let r = c.rule_at-rule in
    (r.ensures.1, u.shaped.set_long (i t p) (omega (arith, next t p, u.few, c.requires.1)), changes_at c.args.m (rules t p) u (i t p) (omega (arith, next t p)) _ r.ensures.0)

pub returns-then-rule-eq0-clause-s : goal.returns-then-rule-eq0-clause-s
returns-then-rule-eq0-clause-s t c =
    let p = (goal.at.returns-then-rule-eq0-clause-s t c).After-rule_at-rule in
    let a = rules t p in
    tags t p (rule_at a (i t p)) refl _ (rule_alone a (i t p) c.args.m (next t p) (rule_at a (i t p)) refl (x t p) _ c.apply_tags.ensures.s)

pub returns-then-rule-eq0-clause-v : goal.returns-then-rule-eq0-clause-v
returns-then-rule-eq0-clause-v t c =
    let p = (goal.at.returns-then-rule-eq0-clause-v t c).After-rule_at-rule in
    let a = rules t p in
    numbers t p (rule_at a (i t p)) refl _ (number_alone a (i t p) c.args.m (next t p) (rule_at a (i t p)) refl (x t p) (v t p) _ c.apply_tags.ensures.v)

pub returns-else-rule-eq0-clause-s : goal.returns-else-rule-eq0-clause-s
returns-else-rule-eq0-clause-s t c =
    tags t (goal.at.returns-else-rule-eq0-clause-s t c).After-rule_at-rule _ c.rule_at-rule.ensures.0 _ c.apply_sets-else-rule-eq0.ensures.s

pub returns-else-rule-eq0-clause-v : goal.returns-else-rule-eq0-clause-v
returns-else-rule-eq0-clause-v t c =
    numbers t (goal.at.returns-else-rule-eq0-clause-v t c).After-rule_at-rule _ c.rule_at-rule.ensures.0 _ c.apply_sets-else-rule-eq0.ensures.v
