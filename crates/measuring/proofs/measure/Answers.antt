use Prim.Native.Nat.{ℕ, ◌+◌}
use native.Mathlib.Omega.{arith}
use mathlib.Core.Path.{refl, sym, ap, ◌∙◌}
use lib.ListN.{length}
use Rattle.tables.specs.Bytes.{joined}
use Rattle.loaded.specs.Numbers.{row_at, row_behind}
use Rattle.entries.proofs.Numbers.{rows-most}
use Rattle.measuring.proofs.Total.{total-start, total-next, total-end}
use Rattle.measuring.proofs.measure.Goals as goal

pub loop-q-init : goal.loop-q-init
loop-q-init c = let a = c.args in (
  omega (arith, rows-most a.size.states a.size.tags c.requires.2 c.requires.1),
  λ lim bs l e. ap (λ (n : ℕ). row_at a.size.tags n + length (joined row_behind l.table)) (sym e) ∙ total-start bs a.index.now a.size.tags l,
)

pub loop-q-preserved : goal.loop-q-preserved
loop-q-preserved c = let a = c.args in
    let lp = c.loop-q in
    let m = c.measure_row-total in (
      omega (arith, lp.invariant.0, m.ensures.1),
      λ lim bs l e.
          total-next bs a.index.now a.size.tags l lp.total m.result lp.q (omega (arith, e)) (lp.invariant.1 lim bs l e) (m.ensures.0 lim bs l lp.q (omega (arith, e)) refl),
    )

pub returns : goal.returns
returns c = λ lim bs l e.
    let a = c.args in
    let lp = c.loop-q in
    total-end bs a.index.now a.size.tags l lp.total lp.q (omega (arith, e)) (lp.invariant.1 lim bs l e)
