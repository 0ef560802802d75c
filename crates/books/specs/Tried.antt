-- What a call has done that was tried without room for sets: all of it, or nothing where the book has a set.
use Rattle.std.specs.Prelude.{Result, Ok, Err}
use Rattle.answers.specs.declared.Refusal.{Refusal}
use Rattle.books.specs.declared.Unread.{Unread}
use Rattle.books.specs.declared.Unread.TheVariants.{Refused, Sets}

abbrev pub Tried : {A : Type 0} → Result A Unread → (Result A Refusal → Type 0) → Type 0 → Type 0
Tried (Ok a) done nothing = done (Ok a)
Tried (Err (Refused r)) done nothing = done (Err r)
Tried (Err Sets) done nothing = nothing
