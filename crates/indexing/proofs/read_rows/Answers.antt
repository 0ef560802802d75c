use Prim.Native.Nat.{◌+◌, ◌*◌}
use native.Mathlib.Omega.{arith}
use borrow.Author.Rules.{rules}
use mathlib.Core.Path.{◌≡◌}
use Rattle.transducers.specs.Table.{no_row}
use Rattle.tables.specs.Bytes.{row_bytes}
use Rattle.tables.specs.Decode.{read_row}
use Rattle.indexing.specs.Entries.{RowEntries}
use Rattle.indexing.proofs.Progress.{progress_all, progress_next, progress_not}
use Rattle.indexing.proofs.Rows.{row_kept}
use Rattle.indexing.proofs.read_rows.Goals as goal

pub returns-in_err-to : goal.returns-in_err-to
returns-in_err-to c = let a = c.args in
    let k = a.size.tags in
    let l = c.loop-q in
    rw c.from_residual.ensures
    (progress_not (read_row a.most k a.size.states) row_bytes no_row a.table.now 4
    (λ i r. RowEntries k a.table.now l.index (i * (k + 1)) r)
    l.q l.to l.invariant.1 a.size.states (omega arith) c.in_err-to.ensures.read)

pub loop-q-preserved : goal.loop-q-preserved
loop-q-preserved c = let a = c.args in
    let k = a.size.tags in
    let bs = a.table.now in
    let l = c.loop-q in
    let y = c.read_row.new.index in (
      search rules,
      progress_next (read_row a.most k a.size.states) row_bytes no_row bs 4
          (λ i r. RowEntries k bs l.index (i * (k + 1)) r)
          (λ i r. RowEntries k bs y (i * (k + 1)) r)
          (λ r. RowEntries k bs y (l.q * (k + 1)) r)
          l.q l.to c.in_ok-to.to l.invariant.1 c.in_ok-to.ensures.read
          (λ i r h g. row_kept k l.q i l.index y bs r h c.read_row.ensures.kept g)
          c.in_ok-to.ensures.read.holds,
    )

pub returns : goal.returns
returns c = let a = c.args in
    let e : c.loop-q.q ≡ a.size.states = omega arith in
    rw e at (progress_all (read_row a.most a.size.tags a.size.states) row_bytes no_row a.table.now 4 _ c.loop-q.q c.loop-q.to c.loop-q.invariant.1)
