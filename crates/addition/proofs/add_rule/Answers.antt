use mathlib.Core.List.{[]}
use lib.ListN.{get_or}
use Rattle.cascades.specs.Rule.{Rule}
use Rattle.cascades.specs.Value.{rule_of}
use Rattle.addition.proofs.Phases.{room, composable, ready_composed, ready_normalized, early_normalized, is-classed, added}
use Rattle.addition.proofs.add_rule.Goals as goal
use Rattle.addition.proofs.add_rule.Goals.{Start}

-- `addition::add_rule` meets its contract: the laws of the phases, one after the other.
abbrev the_rule : Start → Rule
the_rule st = rule_of st.args.rule (get_or st.args.sets.now st.args.i [])

pub write_rule-m-requires-clause-room : goal.write_rule-m-requires-clause-room
write_rule-m-requires-clause-room c = let a = c.args in room a.g a.work.now a.n a.ceiling a.s a.end (the_rule (goal.at.write_rule-m-requires-clause-room c).Start) c.requires.addable

pub compose-count-requires : goal.compose-count-requires
compose-count-requires c = let w = c.write_rule-m in
    composable c.args.g c.args.work.now c.args.n c.args.ceiling c.args.s c.args.end (the_rule (goal.at.compose-count-requires c).Start) c.requires.addable _ w.result w.ensures

pub normalize-requires : goal.normalize-requires
normalize-requires c = let w = c.write_rule-m in
    let d = c.compose-count in
    ready_composed c.args.g c.args.work.now c.args.n c.args.ceiling c.args.s c.args.end (the_rule (goal.at.normalize-requires c).Start) c.requires.addable _ w.result w.ensures _ _ d.ensures

pub merge-requires-clause-ready : goal.merge-requires-clause-ready
merge-requires-clause-ready c = let w = c.write_rule-m in
    let d = c.compose-count in
    let e = c.normalize in
    ready_normalized c.args.g c.args.work.now c.args.n c.args.ceiling c.args.s c.args.end (the_rule (goal.at.merge-requires-clause-ready c).Start) c.requires.addable _ w.result w.ensures _ _ d.ensures _ e.ensures

pub merge-requires-clause-early : goal.merge-requires-clause-early
merge-requires-clause-early c = let w = c.write_rule-m in
    let d = c.compose-count in
    let e = c.normalize in
    early_normalized c.args.g c.args.work.now c.args.n c.args.ceiling c.args.s c.args.end (the_rule (goal.at.merge-requires-clause-early c).Start) c.requires.addable _ w.result w.ensures _ _ d.ensures _ e.ensures

pub number-requires-clause-classed : goal.number-requires-clause-classed
number-requires-clause-classed c = let w = c.write_rule-m in
    let d = c.compose-count in
    let e = c.normalize in
    let m = c.merge in
    is-classed c.args.g c.args.work.now c.args.n c.args.ceiling c.args.s c.args.end (the_rule (goal.at.number-requires-clause-classed c).Start) c.requires.addable _ w.result w.ensures _ _ d.ensures _ e.ensures _ m.ensures

pub returns : goal.returns
returns c = let w = c.write_rule-m in
    let d = c.compose-count in
    let e = c.normalize in
    let m = c.merge in
    let u = c.number in
    added c.args.g c.args.work.now c.args.n c.args.ceiling c.args.s c.args.end (the_rule (goal.at.returns c).Start) c.requires.addable _ w.result w.ensures _ _ d.ensures _ e.ensures _ m.ensures _ _ u.ensures
