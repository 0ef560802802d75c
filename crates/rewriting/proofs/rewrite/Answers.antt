use Prim.Native.Nat.{◌+◌}
use native.Mathlib.Omega.{arith}
use mathlib.Core.Path.{refl, sym, ◌∙◌}
use lib.ListN.{length-set}
use Rattle.words.proofs.Parts.{begun_start}
use Rattle.cascades.specs.Value.{kind_of, rule_with}
use Rattle.cascades.specs.Rewrite.{apply}
use Rattle.traces.proofs.Note.{note-same}
use Rattle.rewriting.proofs.Rewriting.{room-behind, match-noted, none-behind, fired_next, again_noted}
use Rattle.rewriting.proofs.rewrite.Goals as goal

pub loop-place-init : goal.loop-place-init
loop-place-init g c =
    let a = c.args in
    (begun_start (apply (rule_with (kind_of a.rule.now.everywhere) (g.P.Pattern.pattern a.pattern.now) a.rule.now.place a.rule.now.tag)) a.s.now a.s.now refl, record { numbers = sym (note-same a.x a.s.now a.v.now); rest = refl })

pub overflow_add-at : goal.overflow_add-at
overflow_add-at g c = omega (arith, room-behind _ c.requires _ _ _ c.loop-place.invariant.0 _ c.in-Some.ensures)

pub overflow_add-at-in-Some : goal.overflow_add-at-in-Some
overflow_add-at-in-Some g c = omega (arith, room-behind _ c.requires _ _ _ c.loop-place.invariant.0 _ c.in-Some.ensures)

pub bounds-s-at : goal.bounds-s-at
bounds-s-at g c = omega (arith, room-behind _ c.requires _ _ _ c.loop-place.invariant.0 _ c.in-Some.ensures)

pub returns-then-not-rule-clause-s : goal.returns-then-not-rule-clause-s
returns-then-not-rule-clause-s g c =
    fired_next _ _ _ _ c.requires _ _ _ c.loop-place.invariant.0 _ c.in-Some.ensures c.if-not-rule.true

pub returns-then-not-rule-clause-v : goal.returns-then-not-rule-clause-v
returns-then-not-rule-clause-v g c =
    c.put.ensures ∙ (match-noted _ c.requires _ _ _ c.loop-place.invariant.0 _ c.in-Some.ensures _ _ _ c.loop-place.invariant.1).numbers

pub overflow_add-from : goal.overflow_add-from
overflow_add-from g c = omega (arith, room-behind _ c.requires _ _ _ c.loop-place.invariant.0 _ c.in-Some.ensures)

pub overflow_add-from-in-Some : goal.overflow_add-from-in-Some
overflow_add-from-in-Some g c = omega (arith, room-behind _ c.requires _ _ _ c.loop-place.invariant.0 _ c.in-Some.ensures)

pub loop-place-smaller : goal.loop-place-smaller
loop-place-smaller g c = omega (arith, length-set c.loop-place.s (c.loop-place.from + c.in-Some.place + c.args.rule.now.place) c.args.rule.now.tag, room-behind _ c.requires _ _ _ c.loop-place.invariant.0 _ c.in-Some.ensures)

pub loop-place-preserved : goal.loop-place-preserved
loop-place-preserved g c =
    let l = c.loop-place in
    again_noted _ _ _ _ c.requires _ _ _ l.invariant.0 _ c.in-Some.ensures c.if-not-rule.false _ _ _ _ c.put.ensures l.invariant.1 _ c.len-length.ensures

pub returns-clause-s : goal.returns-clause-s
returns-clause-s g c = none-behind _ c.requires _ _ _ c.loop-place.invariant.0 c.in_default.ensures
