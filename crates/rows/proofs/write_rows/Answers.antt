use Prim.Native.Nat.{ℕ, ◌+◌, ◌*◌}
use native.Mathlib.Omega.{arith}
use mathlib.Core.Path.{refl, ◌∙◌, subst}
use lib.ListN.{length}
use Rattle.loaded.specs.Numbers.{row_at}
use Rattle.steps.proofs.Places.{row_inside}
use Rattle.rows.proofs.Tables.{RowsGoing, rows_end, row_here, rows_next, row_step, row_before}
use Rattle.rows.proofs.write_rows.Goals as goal

pub write_row-place-requires : goal.write_row-place-requires
write_row-place-requires c = let a = c.args in
    let x = c.requires in
    let l = c.loop-q in (
      row_here a.table.now a.index.now a.size.tags a.size.states (length a.loaded.now) a.rested x a.loaded.now l.loaded l.q l.place (row_at a.size.tags l.q) (l.invariant.1 x) (omega arith) (l.q * (a.size.tags + 1)) (length l.loaded) refl l.invariant.0 (row_inside l.q a.size.states a.size.tags (length a.index.now) (omega arith) c.requires.entries),
      omega (arith, (l.invariant.1 x).later, row_before a.size.tags l.q a.size.states (omega arith)),
    )

pub loop-q-preserved : goal.loop-q-preserved
loop-q-preserved c = let a = c.args in
    let l = c.loop-q in
    let w = c.write_row-place in (
      w.auto.loaded ∙ l.invariant.0,
      λ x.
          let g = l.invariant.1 x in
          let here = row_here a.table.now a.index.now a.size.tags a.size.states (length a.loaded.now) a.rested x a.loaded.now l.loaded l.q l.place (row_at a.size.tags l.q) g (omega arith) (l.q * (a.size.tags + 1)) (length l.loaded) refl l.invariant.0 (row_inside l.q a.size.states a.size.tags (length a.index.now) (omega arith) c.requires.entries) in
          subst (λ (p : ℕ). RowsGoing x.table a.size.tags a.size.states a.rested a.loaded.now w.new.loaded (l.q + 1) w.result p) (row_step a.size.tags l.q)
          (rows_next a.table.now a.index.now a.size.tags a.size.states (length a.loaded.now) a.rested x a.loaded.now l.loaded l.q l.place (row_at a.size.tags l.q) g (omega arith) w.new.loaded w.result
          (omega (arith, g.later, row_before a.size.tags l.q a.size.states (omega arith))) (w.ensures here)),
    )

pub returns : goal.returns
returns c = λ x.
    let a = c.args in
    let l = c.loop-q in
    rows_end a.table.now a.index.now a.size.tags a.size.states (length a.loaded.now) a.rested x a.loaded.now l.loaded l.q l.place (row_at a.size.tags l.q) (l.invariant.1 x) (omega arith)
