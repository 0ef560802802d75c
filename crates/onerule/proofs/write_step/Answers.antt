use native.Mathlib.Omega.{arith}
use Prim.Native.Nat.{ℕ}
use mathlib.Core.Path.{ap₂}
use Rattle.minimal.specs.Matcher.{said}
use Rattle.workspace.proofs.Holds.{stepped-after}
use Rattle.onerule.proofs.Words.{said_le, stepped_as}
use Rattle.onerule.proofs.write_step.Goals as goal

pub returns : goal.returns
returns g c = let a = c.args in
    let u = a.pattern.tags.now in
    let to = c.step-to in
    stepped_as to.ensures.next.0 (ap₂ (λ (j i : ℕ). said u a.pattern.place a.pattern.tag j a.a i) to.ensures.matched to.ensures.grown)
    (stepped-after a.g _ _ _ _ _ _ _ (omega arith)
    (omega (arith, c.requires.room.deep, said_le u a.pattern.place a.pattern.tag c.requires.room.place_inside to.result.matched a.a to.result.grown (omega (arith, to.ensures.matched, c.requires.within.matched_few a.q c.requires.q_in.0))))
    c.write_output.ensures c.put.ensures)
