use lib.ListN.{length}
use Rattle.books.specs.Arrays.{arrays}
use Rattle.compiler.proofs.Reading.{read-readable}
use Rattle.compiler.proofs.compile_book.Goals as goal

pub compile_rules-requires : goal.compile_rules-requires
compile_rules-requires c = let a = c.args in
    let r = c.read_into in
    read-readable a.lim c.requires.0 a.book.now a.end a.ceiling (length a.work.now) c.requires.1 c.requires.2 (arrays r.new.rules r.new.sets) r.result r.ensures c.in_ok-count.count c.in_ok-count.was
