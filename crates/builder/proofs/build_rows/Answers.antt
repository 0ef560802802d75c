use Prim.Native.Nat.{ℕ, ◌≤◌}
use native.Mathlib.Omega.{arith}
use mathlib.Core.Path.{◌≡◌, sym, subst}
use mathlib.Core.Bool.{false}
use mathlib.Core.List.{List, []}
use lib.ListN.{length, get_or}
use Rattle.cascades.specs.Rule.{Rule, ValidRule}
use Rattle.cascades.specs.Value.{rule_of}
use Rattle.cascades.specs.Ending.{misused}
use Rattle.minimal.specs.OneRule.{one_rule}
use Rattle.addition.specs.Addition.{Added}
use Rattle.books.specs.Arrays.{Arrays, arrays}
use Rattle.builder.specs.Rules.{Compilable}
use Rattle.builder.proofs.Progress.{used, begun, progress_start, states_fit, addable, progress_next, too_many, kept_too_many, all-kept, all_done}
use Rattle.builder.proofs.build_rows.Goals as goal
use Rattle.builder.proofs.build_rows.Goals.{Start}

abbrev the_arrays : Start → Arrays
the_arrays st = arrays st.args.rules.now st.args.sets.now

-- after the identity's row
now_ok : (c : Start) (X : List ℕ) → length X ≡ length c.args.work.now → Compilable c.args.lim c.args.g X c.args.ceiling c.args.states c.args.end c.args.m (the_arrays c)
now_ok c X long = begun c.args.g c.args.work.now X c.args.ceiling c.args.end c.args.m (the_arrays c) c.requires long

pub loop-i-init : goal.loop-i-init
loop-i-init c = let w = c.write_identity in
    progress_start c.args.g w.new.work c.args.ceiling c.args.end c.args.m (the_arrays (goal.at.loop-i-init c).Start) (now_ok (goal.at.loop-i-init c).Start w.new.work w.ensures.kept.long) w.ensures.holds

pub add_rule-count-requires-clause-addable : goal.add_rule-count-requires-clause-addable
add_rule-count-requires-clause-addable c = let w = c.write_identity in
    let l = c.loop-i in
    let r = c.rule_at-rule in addable c.args.g w.new.work c.args.ceiling c.args.end c.args.m (the_arrays (goal.at.add_rule-count-requires-clause-addable c).Start) (now_ok (goal.at.add_rule-count-requires-clause-addable c).Start w.new.work w.ensures.kept.long) l.work l.i l.n l.invariant (omega arith)
    (rule_of r.result (get_or c.args.sets.now l.i [])) (subst (ValidRule c.args.lim.pattern c.args.g.tags) (sym r.ensures.0) (c.requires.readable.held.valid _ (omega arith)))
    (subst (λ (x : Rule). misused c.args.end x ≡ false) (sym r.ensures.0) (used c.args.g c.args.work.now c.args.ceiling c.args.end c.args.m (the_arrays (goal.at.add_rule-count-requires-clause-addable c).Start) c.requires _ (omega arith)))
    (subst (λ (x : Rule). (one_rule x).count ≤ c.args.states) (sym r.ensures.0) (states_fit c.args.g c.args.work.now c.args.ceiling c.args.end c.args.m (the_arrays (goal.at.add_rule-count-requires-clause-addable c).Start) c.requires _ (omega arith)))

pub returns-then-ceiling-count-clause-built : goal.returns-then-ceiling-count-clause-built
returns-then-ceiling-count-clause-built c = let w = c.write_identity in
    let l = c.loop-i in
    let r = c.rule_at-rule in
    let u = c.add_rule-count in
    let added = subst (λ (x : Rule). Added c.args.g l.work u.new.work l.n c.args.ceiling c.args.end x u.result) r.ensures.0 u.ensures in too_many c.args.g w.new.work c.args.ceiling c.args.end c.args.m (the_arrays (goal.at.returns-then-ceiling-count-clause-built c).Start) (now_ok (goal.at.returns-then-ceiling-count-clause-built c).Start w.new.work w.ensures.kept.long) l.work l.i l.n l.invariant (omega arith) u.new.work u.result added (omega arith)

pub returns-then-ceiling-count-clause-kept : goal.returns-then-ceiling-count-clause-kept
returns-then-ceiling-count-clause-kept c = let w = c.write_identity in
    let l = c.loop-i in
    let r = c.rule_at-rule in
    let u = c.add_rule-count in
    let added = subst (λ (x : Rule). Added c.args.g l.work u.new.work l.n c.args.ceiling c.args.end x u.result) r.ensures.0 u.ensures in all-kept c.args.g c.args.work.now w.new.work u.new.work (omega (arith, c.requires.rows, c.requires.states_are, c.requires.readable.some)) w.ensures.kept
    (kept_too_many c.args.g w.new.work c.args.ceiling c.args.end c.args.m (the_arrays (goal.at.returns-then-ceiling-count-clause-kept c).Start) (now_ok (goal.at.returns-then-ceiling-count-clause-kept c).Start w.new.work w.ensures.kept.long) l.work l.i l.n l.invariant (omega arith) u.new.work u.result added)

pub loop-i-preserved : goal.loop-i-preserved
loop-i-preserved c = let w = c.write_identity in
    let l = c.loop-i in
    let r = c.rule_at-rule in
    let u = c.add_rule-count in
    let added = subst (λ (x : Rule). Added c.args.g l.work u.new.work l.n c.args.ceiling c.args.end x u.result) r.ensures.0 u.ensures in
    progress_next c.args.g w.new.work c.args.ceiling c.args.end c.args.m (the_arrays (goal.at.loop-i-preserved c).Start) (now_ok (goal.at.loop-i-preserved c).Start w.new.work w.ensures.kept.long) l.work l.i l.n l.invariant (omega arith) u.new.work u.result added (omega arith)

pub returns-clause-built : goal.returns-clause-built
returns-clause-built c = let w = c.write_identity in
    let l = c.loop-i in all_done c.args.g w.new.work c.args.ceiling c.args.end c.args.m (the_arrays (goal.at.returns-clause-built c).Start) (now_ok (goal.at.returns-clause-built c).Start w.new.work w.ensures.kept.long) l.work l.i l.n l.invariant (omega arith)
