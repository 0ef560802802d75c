use Prim.Native.Nat.{◌+◌, ◌<◌}
use native.Mathlib.Omega.{arith}
use native.Mathlib.Nat.{mul-le-mul}
use mathlib.Core.Path.{sym, ◌∙◌}
use lib.ListN.{length, get_or}
use Rattle.limits.specs.Limits.{most_tags, most_states}
use Rattle.transducers.specs.Table.{no_step}
use Rattle.entries.proofs.Numbers.{behind-some}
use Rattle.rows.specs.Parts.{StepIs}
use Rattle.rows.proofs.Steps.{step_count}
use Rattle.rows.proofs.Rows.{places-left, steps_next}
use Rattle.rows.proofs.write_steps.Goals as goal

pub write_step-requires : goal.write_step-requires
write_step-requires c = let x = c.args in
    let s = c.requires.0 in
    let l = c.loop-a in
    let g = l.invariant.1 s in
    let ha : l.a < x.from.now.size.tags = omega arith in
    let h : l.a < length s.steps = omega (arith, s.whole) in
    let is : StepIs x.from.now.table.now x.from.now.size.tags (get_or s.steps l.a no_step) _ = record { entry = s.is l.a ha; short = s.short l.a ha } in
    let n = step_count x.from.now.table.now x.from.now.size.tags (get_or s.steps l.a no_step) _ is in
    let left = places-left s.steps x.from.now.size.tags x.from.now.rested x.place x.p x.loaded.now l.loaded l.a l.place g h in (
      record { tags = x.from.now.size.tags; step = get_or s.steps l.a no_step; is = is; low = omega (arith, mul-le-mul {n₁ = (get_or s.steps l.a no_step).next} {m₁ = x.from.now.size.tags + 1} {n₂ = most_states} {m₂ = most_tags + 1} (omega (arith, s.few_states l.a ha)) (omega (arith, s.few_tags))) },
      omega (arith, left, s.places),
      omega (arith, l.invariant.0, c.requires.1, s.fits),
      λ many. omega (arith, l.invariant.0, n, behind-some (get_or s.steps l.a no_step).output (omega (arith, n, many)), left, s.fits),
    )

pub loop-a-preserved : goal.loop-a-preserved
loop-a-preserved c = let x = c.args in
    let l = c.loop-a in
    let w = c.write_step in (
      omega (arith, w.auto.loaded, l.invariant.0),
      λ s.
          let g = l.invariant.1 s in
          let ha : l.a < x.from.now.size.tags = omega arith in
          let is : StepIs x.from.now.table.now x.from.now.size.tags (get_or s.steps l.a no_step) _ = record { entry = s.is l.a ha; short = s.short l.a ha } in
          let n = c.count_of.ensures.0 ∙ step_count x.from.now.table.now x.from.now.size.tags (get_or s.steps l.a no_step) _ is in
          steps_next s.steps x.from.now.size.tags x.from.now.rested x.place x.p x.loaded.now l.loaded l.a l.place g (omega (arith, s.whole)) w.new.loaded c.behind_of-place.result (omega (arith, c.requires.1, g.later))
          (λ rest r. w.ensures x.from.now.size.tags rest (get_or s.steps l.a no_step) is r) (c.behind_of-place.ensures.0 (get_or s.steps l.a no_step).output (sym n)),
    )
