use borrow.Author.Rules.{rules}
use Rattle.tables.proofs.Words.{below_of}
use Rattle.transduction.proofs.Runs.{found_none, found_entry}
use Rattle.transduction.proofs.find_read.Goals as goal

pub returns-in_err-told : goal.returns-in_err-told
returns-in_err-told c = let a = c.args in
    let bytes = below_of 0x100 a.table.now (λ i. (c.type_inv.table i).fits) in
    let none = found_none a.lim a.table.now bytes 0 c.in_err-told.field-0.0 c.in_err-told.ensures.answered in
    search rules

pub returns : goal.returns
returns c = let a = c.args in
    let bytes = below_of 0x100 a.table.now (λ i. (c.type_inv.table i).fits) in
    found_entry a.lim a.table.now bytes a.size.tags a.size.states c.cell_of-cell.result _ _ c.in_ok-told.told c.in_ok-told.ensures c.requires a.state a.column c.cell_of-cell.ensures.0
