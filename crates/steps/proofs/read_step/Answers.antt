use Prim.Native.Nat.{◌+◌}
use native.Mathlib.Omega.{arith}
use mathlib.Core.Path.{◌≡◌, ◌∙◌}
use Rattle.steps.proofs.Places.{is_single_true, single_part}
use Rattle.steps.proofs.read_step.Goals as goal

pub returns-clause-read : goal.returns-clause-read
returns-clause-read c = let a = c.args in
    let one = is_single_true a.table.now a.at a.size.tags a.size.states c.is_single.result c.is_single.ensures (c.if-not-is_single.false) in
    let then : a.at + 1 + 1 ≡ a.at + 2 = omega arith in
    let tag = c.from.ensures in
    let e = c.entry.ensures in single_part a.table.now a.at a.size.tags a.size.states one a.index.now a.cell c.number_at-next.result c.base_at.result c.entry.result
    (rw then at c.number_at-next.ensures.0)
    c.base_at.ensures.0
    e.0
    e.1
    (e.2 ∙ tag)
    (omega (arith, tag))
    c.requires.1
