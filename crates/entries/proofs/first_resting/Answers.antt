use Prim.Native.Nat.{ℕ, ◌+◌, ◌*◌}
use native.Mathlib.Omega.{arith}
use mathlib.Core.Path.{◌≡◌, sym, ap, ◌∙◌}
use Rattle.loaded.specs.Numbers.{first_resting}
use Rattle.steps.proofs.Places.{row_next}
use Rattle.entries.proofs.Resting.{resting-next, resting-here, resting-none}
use Rattle.entries.proofs.first_resting.Goals as goal
use Rattle.entries.proofs.first_resting.Goals.{else-loop-q-test, then-loop-q-test+then-rests}

pub loop-q-preserved : goal.loop-q-preserved
loop-q-preserved c = let a = c.args in
    let l = c.loop-q in
    let r = c.rests in (
      omega (arith, row_next l._q a.size.tags, l.invariant.0),
      λ lim bs t e.
          l.invariant.1 lim bs t e
          ∙ resting-next bs a.index.now a.size.tags t a.size.states l._q l.cell r.result (omega arith) e l.invariant.0 r.ensures c.if-rests.false,
    )

pub returns : goal.returns
returns c = λ lim bs t e.
    let a = c.args in
    let l = c.loop-q in
    let at : first_resting t.table a.size.states 0 ≡ l._q =
    l.invariant.1 lim bs t e
    ∙ elim c.loop-q-test.branch [
      | else-loop-q-test w ↦ resting-none bs a.index.now a.size.tags t a.size.states l._q (omega arith)
      | then-loop-q-test+then-rests w ↦ resting-here bs a.index.now a.size.tags t a.size.states l._q l.cell w.rests.result (omega arith) e l.invariant.0 w.rests.ensures w.if-rests.true
    ] in
    ap (λ (n : ℕ). n + 1) l.invariant.0 ∙ ap (λ (n : ℕ). n * (a.size.tags + 1) + 1) (sym at)
