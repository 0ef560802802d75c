use borrow.Author.Rules.{rules}
use Rattle.typing.proofs.Stands.{open_refused}
use Rattle.typing.proofs.Sentence.open.Goals as goal

pub returns-in_err-read_table : goal.returns-in_err-read_table
returns-in_err-read_table c = let a = c.args in
    let e = open_refused a.lim a.table.now c.in_err-read_table.field-0.0 c.in_err-read_table.ensures in
    search rules
