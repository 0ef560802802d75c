use native.Mathlib.Omega.{arith}
use mathlib.Core.Path.{refl, ◌∙◌}
use mathlib.Core.List.{[]}
use lib.ListN.{get_or}
use Rattle.cascades.specs.Value.{rule_of}
use Rattle.minimal.specs.OneRule.{states}
use Rattle.onerule.proofs.Formed.{formed-plain, formed_lengths, formed_ruled}
use Rattle.onerule.proofs.write_rule.Goals as goal

pub write_by_lengths-requires-clause-length_bound : goal.write_by_lengths-requires-clause-length_bound
write_by_lengths-requires-clause-length_bound c = let a = c.args in
    let ss = get_or a.sets.now a.i [] in
    let f = c.requires.formed in
    let none = c.if-rule-eq0.true in (
      omega (arith, (formed_lengths a.rule ss f none a.g.tags (states (rule_of a.rule ss).kind a.rule.length) refl).count_is, c.requires.tags_le_most_tags.1),
      formed-plain a.rule ss f none a.end ∙ c.requires.tags_le_most_tags.2,
    )

pub returns-then-rule-eq0 : goal.returns-then-rule-eq0
returns-then-rule-eq0 c = let a = c.args in
    let ss = get_or a.sets.now a.i [] in
    let got = c.write_by_lengths in
    formed_ruled a.rule ss c.requires.formed a.g a.work.now _ a.base got.result a.end _
    (formed_lengths a.rule ss c.requires.formed c.if-rule-eq0.true a.g.tags got.result got.ensures.value) c.requires.tags_le_most_tags.2 refl
    c.requires.tags_le_most_tags.1 c.requires.room got.ensures.filling
