use native.Mathlib.Omega.{arith}
use mathlib.Core.List.{[]}
use mathlib.Core.Path.{◌≡◌, refl, sym, ap, ◌∙◌}
use lib.ListN.{length, get_or, get_or-eq_default}
use Rattle.cascades.specs.Ending.{before, misused, some_misused}
use Rattle.cascades.proofs.Pattern.{plain-pattern}
use Rattle.books.specs.Arrays.{Arrays, arrays, rule_at}
use Rattle.books.proofs.Some.{none_more, one_of}
use Rattle.endings.proofs.some_misuses.Goals as goal
use Rattle.endings.proofs.some_misuses.Goals.{After-misuses}

-- the rule that was read
module _ (c : After-misuses) where
  abbrev rules : Arrays
  rules = arrays c.args.rules.now c.args.sets.now

  told : c.misuses.result ≡ misused c.args.end (rule_at rules c.loop-i.i)
  told =
      let r = c.rule_at-rule in
      let row = get_or c.args.sets.now c.loop-i.i [] in
      let none : length row ≡ 0 = ap length (get_or-eq_default c.args.sets.now [] {n = c.loop-i.i} (omega (arith, c.requires.1))) in
      c.misuses.ensures row r.ensures.1 (c.stands_before-early.ensures ∙ ap (before c.args.end) (plain-pattern r.result row (omega (arith, none, r.ensures.1.sets_long))))
      ∙ ap (misused c.args.end) {y = rule_at rules c.loop-i.i} r.ensures.0

pub returns-then-misuses : goal.returns-then-misuses
returns-then-misuses c =
    let m = (goal.at.returns-then-misuses c).After-misuses in
    sym (one_of (misused c.args.end) (some_misused c.args.end) refl (λ q qs. refl) (rules m) c.args.m c.loop-i.i (sym (told m) ∙ c.if-misuses.true) (omega arith))

pub loop-i-preserved : goal.loop-i-preserved
loop-i-preserved c =
    let m = (goal.at.loop-i-preserved c).After-misuses in
    let l = c.loop-i in
    none_more (misused c.args.end) (some_misused c.args.end) refl (λ q qs. refl) (rules m) l.i l.invariant (sym (told m) ∙ c.if-misuses.false)
