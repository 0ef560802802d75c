use native.Mathlib.Omega.{arith}
use borrow.Author.Rules.{rules}
use Rattle.tables.proofs.Words.{below_of}
use Rattle.decoder.proofs.Whole.{load_longer, load_other, load_start, load_all, load_linked}
use Rattle.decoder.proofs.load_end.Goals as goal
use Rattle.decoder.proofs.load_end.Goals.{then-table-end-ne1-via-then-table-end-ne1, then-table-end-ne1-via-else-table-end-ne1+then-table-end-ne0, then-table-end-ne1-via-else-table-end-ne1+else-table-end-ne0+then-count_of-ne0}

pub returns-then-table-end-ne1 : goal.returns-then-table-end-ne1
returns-then-table-end-ne1 c = let a = c.args in
    let bs = a.table.now in
    let bytes = below_of 0x100 bs (λ i. (c.type_inv.table i).fits) in
    let k = a.size.tags in
    let s = a.size.states in
    let r = c.requires in
    elim c.then-table-end-ne1.branch [
      | then-table-end-ne1-via-then-table-end-ne1 w ↦ load_longer k s bs a.index.now a.end r.head bytes r.rows (omega arith)
      | then-table-end-ne1-via-else-table-end-ne1+then-table-end-ne0 w ↦
          load_other k s bs a.index.now a.end r.head bytes r.rows (omega arith) w.if-table-end-ne0.true
      | then-table-end-ne1-via-else-table-end-ne1+else-table-end-ne0+then-count_of-ne0 w ↦
          load_start k s bs a.index.now a.end r.head bytes r.rows (omega arith) (omega arith) (omega arith)
    ]

pub level_rows-requires : goal.level_rows-requires
level_rows-requires c = let a = c.args in
    let bs = a.table.now in
    let bytes = below_of 0x100 bs (λ i. (c.type_inv.table i).fits) in
    (search rules, load_linked a.size.tags a.size.states bs a.index.now a.end c.requires.head bytes c.requires.rows c.requires.room)

pub returns : goal.returns
returns c = let a = c.args in
    let bs = a.table.now in
    let bytes = below_of 0x100 bs (λ i. (c.type_inv.table i).fits) in
    load_all a.size.tags a.size.states bs a.index.now a.end c.requires.head bytes c.requires.rows (search rules) (search rules) c.requires.room (omega arith) c.level_rows.result c.level_rows.ensures
