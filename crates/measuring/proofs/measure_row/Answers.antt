use native.Mathlib.Omega.{arith}
use mathlib.Core.Path.{sym, ◌∙◌}
use lib.ListN.{get_or}
use Rattle.transducers.specs.Table.{no_step, row}
use Rattle.measuring.proofs.Total.{step_count, measure_next, measure_end}
use Rattle.measuring.proofs.measure_row.Goals as goal

pub loop-a-preserved : goal.loop-a-preserved
loop-a-preserved c = let x = c.args in
    let lp = c.loop-a in
    let n = c.count_of-in-loop-a in
    let b = c.behind_of-total-in-loop-a in (
      omega (arith, lp.invariant.0, b.ensures.1, n.ensures),
      λ lim bs l q h is.
          measure_next bs x.index.now x.k l q x.cell h is lp.total b.result lp.a (omega arith) (lp.invariant.1 lim bs l q h is)
          (b.ensures.0 (get_or (row l.table q).steps lp.a no_step).output (sym (n.ensures.0 ∙ step_count bs x.index.now x.k l q x.cell h is lp.a (omega arith)))),
    )

pub returns : goal.returns
returns c = let x = c.args in
    let lp = c.loop-a in
    (λ lim bs l q h is. measure_end bs x.index.now x.k l q x.cell h is lp.total lp.a (omega arith) (lp.invariant.1 lim bs l q h is), omega (arith, lp.invariant.0, c.requires.1))
