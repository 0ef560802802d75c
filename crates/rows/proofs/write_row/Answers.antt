use Prim.Native.Nat.{ℕ, ◌+◌}
use native.Mathlib.Omega.{arith}
use mathlib.Core.Path.{◌≡◌, sym, ◌∙◌, subst}
use mathlib.Core.List.{List}
use lib.ListN.{length, length-set}
use Rattle.steps.specs.Entry.{TagsAt}
use Rattle.rows.specs.Parts.{StepsWritten}
use Rattle.rows.proofs.Rows.{row-steps, row_written}
use Rattle.rows.proofs.write_row.Goals as goal

pub returns : goal.returns
returns c = λ x.
    let y = c.args in
    let n = c.count_of-count.ensures.0 ∙ x.final.count_is in
    let b = c.behind_of in
    let m = b.ensures.0 x.row.final (sym n) in
    let at = c.place_of.ensures in
    let at2 = c.place_of-2.ensures in
    let e = c.word_number in
    let word = e.ensures x.row.final (sym n) (subst (λ (i : ℕ). TagsAt y.from.now.table.now i x.row.final) (sym at) x.final.stands) in
    let t = c.put_tags in
    let tags = t.ensures x.row.final (sym n) (subst (λ (i : ℕ). TagsAt y.from.now.table.now i x.row.final) (sym at2) x.final.stands) in
    let long : length t.new.loaded ≡ length y.loaded.now = t.auto.loaded ∙ (simp length-set) in
    let w = c.write_steps in
    let wrote = w.ensures (row-steps y.from.now.table.now y.from.now.index.now y.from.now.size.tags y.cell y.place (length y.loaded.now) x b.result (length t.new.loaded) m long) in
    row_written y.from.now.table.now y.from.now.index.now y.from.now.size.tags y.cell y.place (length y.loaded.now) x y.from.now.rested b.result e.result y.p w.result y.loaded.now w.new.loaded m word (omega (arith, c.requires.1))
    (subst (λ (l : List ℕ). StepsWritten x.row.steps y.from.now.size.tags y.from.now.rested (y.place + b.result) l w.new.loaded (y.p + 2) w.result) tags wrote)
