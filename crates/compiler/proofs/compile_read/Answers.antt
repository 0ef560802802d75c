use Prim.Native.Nat.{ℕ}
use native.Mathlib.Omega.{arith}
use mathlib.Core.Path.{◌≡◌, refl, ap, ◌∙◌}
use mathlib.Core.List.{◌++◌}
use lib.ListN.{drop, replicate}
use Rattle.limits.specs.Work.{rule_states}
use Rattle.cascades.specs.Rule.{some_has_set}
use Rattle.books.specs.Arrays.{Arrays, arrays, rules_of}
use Rattle.compiler.proofs.Reading.{compilable, with_end, short, ended}
use Rattle.compiler.proofs.compile_read.Goals as goal
use Rattle.compiler.proofs.compile_read.Goals.{After-rule_states-states, Start}

-- `compiler::compile_read` meets its contract.
abbrev the_arrays : Start → Arrays
the_arrays st = arrays st.args.rules.now st.args.sets.now

-- the states of the book's rules
states_are : (c : After-rule_states-states) → c.rule_states-states.result ≡ rule_states c.args.lim (some_has_set (rules_of (arrays c.args.rules.now c.args.sets.now) c.args.m))
states_are c = c.rule_states-states.ensures ∙ ap (rule_states c.args.lim) c.some_set-some.ensures

pub returns-then-work-entries : goal.returns-then-work-entries
returns-then-work-entries c = let g = c.grid_of-g in
    short c.args.lim c.args.k c.args.ceiling c.args.end c.args.m (the_arrays (goal.at.returns-then-work-entries c).Start) _ (states_are (goal.at.returns-then-work-entries c).After-rule_states-states) g.result g.ensures c.args.work.now c.args.out.now
    (omega (arith, c.entries_of-entries.ensures)) _ refl

pub build-answer-requires : goal.build-answer-requires
build-answer-requires c = let g = c.grid_of-g in
    let n = c.entries_of-entries in
    let l = c.from-last in
    let fits = with_end c.args.lim c.args.k c.args.ceiling c.args.end c.args.m (the_arrays (goal.at.build-answer-requires c).Start) _ (states_are (goal.at.build-answer-requires c).After-rule_states-states) g.result g.ensures c.requires.m_value l.result l.ensures in
    compilable c.args.lim c.args.k c.args.ceiling c.args.m (the_arrays (goal.at.build-answer-requires c).Start) c.requires.readable _ (states_are (goal.at.build-answer-requires c).After-rule_states-states) g.result g.ensures l.result c.args.work.now fits
    (omega (arith, n.ensures))

pub returns : goal.returns
returns c = let g = c.grid_of-g in
    let n = c.entries_of-entries in
    let l = c.from-last in
    let u = c.build-answer in
    ended c.args.lim c.args.k c.args.ceiling c.args.end c.args.m (the_arrays (goal.at.returns c).Start) _ (states_are (goal.at.returns c).After-rule_states-states) g.result g.ensures l.result l.ensures
    c.args.work.now u.new.work _ c.args.out.now _ _ (omega (arith, n.ensures, c.if-work-entries.false)) u.ensures.gave u.ensures.kept
    (c.wipe.ensures ∙ ap (λ (i : ℕ). replicate i 0 ++ drop i u.new.work) n.ensures)
