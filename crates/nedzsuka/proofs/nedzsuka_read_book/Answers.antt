use Rattle.nedzsuka.proofs.Legible.{legible_book_answer}
use Rattle.nedzsuka.proofs.nedzsuka_read_book.Goals as goal

pub pack_book-requires : goal.pack_book-requires
pack_book-requires c = legible_book_answer c.args.book.now c.read_book.result c.read_book.ensures
