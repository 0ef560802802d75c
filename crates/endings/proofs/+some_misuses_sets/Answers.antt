use Prim.Native.Nat.{◌-◌}
use native.Mathlib.Omega.{arith}
use mathlib.Core.List.{[]}
use mathlib.Core.Path.{ap, ◌∙◌}
use lib.ListN.{get_or}
use Rattle.cascades.specs.Ending.{misused}
use Rattle.books.specs.Arrays.{arrays, rule_at}
use Rattle.endings.proofs.Ending.{rule-inside, some-before, some-last}
use Rattle.endings.proofs.+some_misuses_sets.Goals as goal

pub returns-then-some_misuses_sets : goal.returns-then-some_misuses_sets
returns-then-some_misuses_sets t c =
    let a = c.args in
    let b = c.some_misuses_sets in
    some-before a.end (arrays a.rules.now a.sets.now) a.m (a.m - 1) (omega arith) b.result b.ensures c.if-some_misuses_sets.true

pub misuses-requires : goal.misuses-requires
misuses-requires t c =
    let a = c.args in
    let u = c.requires.0 in
    let r = c.rule_at-rule in (
      rule-inside (arrays a.rules.now a.sets.now) (a.m - 1) r.result _ r.ensures.0 r.ensures.1 u.shaped (omega (arith, u.few)) (u.inside (a.m - 1) (omega arith)),
      r.ensures.1.length_short,
      r.ensures.1.row_long,
    )

pub returns : goal.returns
returns t c =
    let a = c.args in
    let rules = arrays a.rules.now a.sets.now in
    let r = c.rule_at-rule in
    let b = c.some_misuses_sets in
    let i = a.m - 1 in
    c.misuses.ensures (get_or a.sets.now i []) r.ensures.1 c.accepts_before-early.ensures ∙ ap (misused a.end) {y = rule_at rules i} r.ensures.0
    ∙ some-last a.end rules a.m i (omega (arith, c.if-m-eq0.false)) b.result b.ensures c.if-some_misuses_sets.false
