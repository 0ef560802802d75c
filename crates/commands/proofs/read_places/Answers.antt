use Prim.Native.Nat.{ℕ, ◌≤◌, ◌<◌}
use native.Mathlib.Omega.{arith}
use mathlib.Core.Path.{◌≡◌, ap, ◌∙◌}
use mathlib.Core.List.{List}
use lib.ListN.{length, take, length-set}
use lib.Seq.{length-take-le}
use Rattle.limits.specs.Limits.{longest_pattern}
use Rattle.cascades.specs.Pattern.{Class}
use Rattle.cascades.specs.Value.{places}
use Rattle.books.specs.Resume.{read_tags, place_outcome}
use Rattle.books.proofs.Commands.{place_too_many}
use Rattle.books.proofs.Resume.{places-refused, places-to}
use Rattle.cascades.proofs.Pattern.{places-length}
use Rattle.books.proofs.SoFar.{place-more, place_so_far}
use Rattle.answers.specs.declared.Reason.TheVariants.{BadPattern}
use Rattle.answers.specs.declared.Refusal.TheVariants.{AtByte}
use Rattle.std.proofs.lemmas.Result.{err_from_is_err_and}
use Rattle.commands.proofs.read_places.Goals as goal

-- so many places so far
counted : (row sets : List ℕ) (n : ℕ) → n ≤ longest_pattern → length row ≡ longest_pattern → length (places (take n row) (take n sets)) ≡ n
counted row sets n h long = places-length (take n row) (take n sets) ∙ length-take-le n row (omega arith)

pub returns-then-ends_pattern : goal.returns-then-ends_pattern
returns-then-ends_pattern c =
    let l = c.loop-at in
    let other = c.ends_pattern.ensures.0 c.if-ends_pattern.true in
    places-to c.args.s.now c.args.from c.args.k c.args.most l.row l.invariant.3 l.sets l.invariant.4 (record { at = l.at; n = l.n; last = l.last }) l.invariant.0 l.invariant.1 l.invariant.5 (λ i. other) l.invariant.6

pub returns-then-n-most : goal.returns-then-n-most
returns-then-n-most c =
    let l = c.loop-at in
    let s = c.args.s.now in
    let is = c.ends_pattern.ensures.1 c.if-ends_pattern.false in
    let u = places (take l.n l.row) (take l.n l.sets) in
    places-refused s c.args.from c.args.k c.args.most l.row l.invariant.3 l.sets l.invariant.4 (AtByte BadPattern l.at)
    (λ lim r rs e. l.invariant.6 lim r rs e ∙ place_too_many lim s c.args.k r rs u l.at (omega arith) is (omega (arith, counted l.row l.sets l.n l.invariant.5.few l.invariant.3)))

pub returns-in_err-place : goal.returns-in_err-place
returns-in_err-place c =
    let l = c.loop-at in
    let s = c.args.s.now in
    let got = c.read_place in
    let u = places (take l.n l.row) (take l.n l.sets) in
    let p = err_from_is_err_and c.from_residual.result c.from_residual.ensures.1 in
    rw (p.1, p.2)
    (places-refused s c.args.from c.args.k c.args.most l.row l.invariant.3 l.sets l.invariant.4 c.in_err-place.field-0.0
    (λ lim r rs e.
    l.invariant.6 lim r rs e
    ∙ got.ensures.goes_on lim r rs u (omega (arith, counted l.row l.sets l.n l.invariant.5.few l.invariant.3))
    ∙ ap (place_outcome lim s c.args.k r rs u) c.in_err-place.was))

pub loop-at-preserved : goal.loop-at-preserved
loop-at-preserved c =
    let l = c.loop-at in
    let s = c.args.s.now in
    let got = c.read_place in
    let told = c.in_ok-place in
    let t = told.place.tag in
    let set = told.place.set in
    let i = got.ensures.inside _ told.was in
    let u = places (take l.n l.row) (take l.n l.sets) in
    let room : l.n < longest_pattern = omega (arith, l.invariant.2, c.requires.3) in (
      omega (arith, l.invariant.0, i.0),
      i.1,
      omega arith,
      length-set l.row l.n t ∙ l.invariant.3,
      length-set l.sets l.n set ∙ l.invariant.4,
      place_so_far l.row l.sets l.n l.last room l.invariant.3 l.invariant.4 t set i.2 c.last_set-last.result c.last_set-last.ensures.0 c.last_set-last.ensures.1 l.invariant.5,
      λ lim r rs e.
          l.invariant.6 lim r rs e
          ∙ got.ensures.goes_on lim r rs u (omega (arith, counted l.row l.sets l.n l.invariant.5.few l.invariant.3))
          ∙ ap (place_outcome lim s c.args.k r rs u) told.was
          ∙ ap (λ (v : List Class). read_tags lim s c.args.k r rs v told.place.at) (place-more l.row l.sets l.n l.last room l.invariant.3 l.invariant.4 t set i.2),
    )

pub returns : goal.returns
returns c =
    let l = c.loop-at in
    places-to c.args.s.now c.args.from c.args.k c.args.most l.row l.invariant.3 l.sets l.invariant.4 (record { at = l.at; n = l.n; last = l.last }) l.invariant.0 l.invariant.1 l.invariant.5 (λ i. absurd (omega arith)) l.invariant.6
