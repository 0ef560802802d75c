use Rattle.books.proofs.Held.{was_read, rules-held}
use Rattle.books.proofs.Resume.{sizes_book}
use Rattle.reader.proofs.read_with_sets.Goals as goal

pub some_set-requires-clause-m_le_most_rules : goal.some_set-requires-clause-m_le_most_rules
some_set-requires-clause-m_le_most_rules c =
    let w = c.read_sets_into in
    (rules-held c.args.book.now _ w.result w.ensures c.in-Ok.count c.in-Ok.is c.requires).few

pub returns-in-Ok : goal.returns-in-Ok
returns-in-Ok c =
    let w = c.read_sets_into in
    sizes_book _ _ c.in-Ok.count.tags c.in-Ok.count.rules c.some_set.result (was_read c.args.book.now _ w.result w.ensures c.in-Ok.count c.in-Ok.is) c.some_set.ensures
