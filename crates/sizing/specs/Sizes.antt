-- The sizes of a book and of a table as one number, for C, which has the limits of document 01.
use Rattle.std.specs.Prelude.{ℕ, ◌+◌, ◌*◌, List}
use Rattle.limits.specs.Limits.{standard}
use Rattle.answers.specs.Outcome.{Outcome, result, and_then}
use Rattle.books.specs.Read.{read}
use Rattle.books.specs.Answer.{Sizes, sizes}
use Rattle.tables.specs.Run.{Size, size_of}

-- K × 256 + the number of rules
abbrev pub book_size : Outcome Sizes → Outcome ℕ
book_size o = and_then o (λ z. result (z.tags * 256 + z.rules))

abbrev pub book_sizes : List ℕ → Outcome ℕ
book_sizes book = book_size (sizes (read standard book))

-- K × 65,536 + S
abbrev pub table_size : Outcome Size → Outcome ℕ
table_size o = and_then o (λ z. result (z.tags * 65536 + z.states))

abbrev pub table_sizes : List ℕ → Outcome ℕ
table_sizes table = table_size (size_of standard table)
