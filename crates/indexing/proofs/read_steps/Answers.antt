use Prim.Native.Nat.{◌+◌, ◌*◌}
use native.Mathlib.Omega.{arith}
use borrow.Author.Rules.{rules}
use mathlib.Core.Path.{◌≡◌}
use Rattle.transducers.specs.Table.{no_step}
use Rattle.tables.specs.Bytes.{step_bytes}
use Rattle.tables.specs.Decode.{read_step}
use Rattle.steps.specs.Entry.{EntryOf, StepEntry}
use Rattle.indexing.proofs.Progress.{progress_all, progress_next, progress_not}
use Rattle.steps.proofs.Places.{kept_at, kept_then}
use Rattle.indexing.proofs.read_steps.Goals as goal

pub returns-in_err-to-clause-read : goal.returns-in_err-to-clause-read
returns-in_err-to-clause-read c = let a = c.args in
    let k = a.size.tags in
    let l = c.loop-a in
    rw c.from_residual.ensures
    (progress_not (read_step k a.size.states) step_bytes no_step a.table.now a.at
    (λ i v. StepEntry k a.table.now l.index (a.first + i) v)
    l.a l.to l.invariant.1 k (omega arith) c.in_err-to.ensures.read)

pub loop-a-preserved : goal.loop-a-preserved
loop-a-preserved c = let a = c.args in
    let k = a.size.tags in
    let bs = a.table.now in
    let l = c.loop-a in
    let y = c.read_step.new.index in (
      search rules,
      progress_next (read_step k a.size.states) step_bytes no_step bs a.at
          (λ i v. StepEntry k bs l.index (a.first + i) v)
          (λ i v. StepEntry k bs y (a.first + i) v)
          (λ v. StepEntry k bs y (a.first + l.a) v)
          l.a l.to c.in_ok-to.to l.invariant.1 c.in_ok-to.ensures.read
          (λ i v h g. kept_at (λ e. EntryOf bs (v.next * (k + 1) + 1) v.output e) (a.first + l.a) (a.first + i) l.index y c.read_step.ensures.kept (omega arith) g)
          c.in_ok-to.ensures.read.holds,
      kept_then a.first (a.first + l.a) a.index.now l.index y (omega arith) l.invariant.2 c.read_step.ensures.kept,
    )

pub returns-clause-read : goal.returns-clause-read
returns-clause-read c = let a = c.args in
    let e : c.loop-a.a ≡ a.size.tags = omega arith in
    rw e at (progress_all (read_step a.size.tags a.size.states) step_bytes no_step a.table.now a.at _ c.loop-a.a c.loop-a.to c.loop-a.invariant.1)
