use mathlib.Core.Bool.{false}
use mathlib.Core.List.{[]}
use mathlib.Core.Path.{refl, sym}
use Rattle.books.specs.Arrays.{arrays}
use Rattle.books.proofs.Arrays.{plain-rules}
use Rattle.books.proofs.Held.{was_read}
use Rattle.books.proofs.Resume.{sizes_book}
use Rattle.reader.proofs.read_within.Goals as goal

pub returns-in-Ok : goal.returns-in-Ok
returns-in-Ok c =
    let w = c.read_plain_into in
    let b = c.in-Ok in
    let a = arrays w.new.rules [] in
    sizes_book _ a b.count.tags b.count.rules false (was_read c.args.book.now a w.result w.ensures b.count b.is) (sym (plain-rules a refl b.count.rules))
