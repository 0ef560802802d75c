use Prim.Native.Nat.{◌+◌}
use native.Mathlib.Omega.{arith}
use Rattle.books.proofs.Resume.{rule-goes_on, tags-end, tags_done}
use Rattle.std.proofs.lemmas.Result.{err_from_is_err_and}
use Rattle.std.specs.Prelude.{Err}
use Rattle.std.proofs.Common.{ap, ◌∙◌}
use Rattle.reader.proofs.read_plain.Goals as goal

pub returns-in_err-tags : goal.returns-in_err-tags
returns-in_err-tags c =
    let l = c.loop-at in
    let s = c.args.s.now in
    let r = c.read_rule in
    let on = rule-goes_on s _ _ c.args.k l.m (l.at + 1 + 1 + 1) (l.at + 3) _ r.result c.in_ok-count.count r.ensures.resumes r.ensures.opens c.in_ok-count.was l.invariant.4 (omega arith) in
    let tags = c.read_tags in
    let p = err_from_is_err_and c.from_residual-in_err-tags.result c.from_residual-in_err-tags.ensures.1 in
    tags-end c.args.lim s c.args.k l.m (l.at + 3) _ on.3 on.1 on.4 on.5 _ tags.result tags.ensures _ on.6 c.in_err-tags.field-0.0 c.from_residual-in_err-tags.result c.in_err-tags.was (p.1 ∙ ap Err p.2)

pub loop-at-smaller : goal.loop-at-smaller
loop-at-smaller c =
    let inside = c.read_tags.ensures.inside _ c.in_ok-tags.was in
    omega (arith, inside.0, inside.1)

pub loop-at-preserved : goal.loop-at-preserved
loop-at-preserved c =
    let l = c.loop-at in
    let s = c.args.s.now in
    let r = c.read_rule in
    let on = rule-goes_on s _ _ c.args.k l.m (l.at + 1 + 1 + 1) (l.at + 3) _ r.result c.in_ok-count.count r.ensures.resumes r.ensures.opens c.in_ok-count.was l.invariant.4 (omega arith) in
    let tags = c.read_tags in
    let done = tags_done c.args.lim s c.args.k l.m (l.at + 3) _ on.3 on.1 on.4 on.5 _ tags.result tags.ensures _ on.6 c.in_ok-tags.tags c.in_ok-count.count.rules c.in_ok-tags.was on.0 in
    let inside = tags.ensures.inside _ c.in_ok-tags.was in (
      omega (arith, on.0, on.1),
      inside.1,
      λ i e. absurd (inside.3 i e),
      done.1,
      done.0,
    )
