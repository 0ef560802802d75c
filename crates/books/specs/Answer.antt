-- Document 01's values of what a book is read to.
use Rattle.std.specs.Prelude.{ℕ, Bool, length, Result, Ok, Err}
use Rattle.answers.specs.Outcome.{Outcome, result, refused}
use Rattle.answers.specs.Answer.{refusal}
use Rattle.answers.specs.declared.Refusal.{Refusal}
use Rattle.cascades.specs.Rule.{Cascade, some_has_set}
use Rattle.books.specs.declared.Book.{Book}

-- K, the number of rules, and whether one of them has a set
pub record Sizes : Type 0 where
  pub tags : ℕ
  pub rules : ℕ
  pub sets : Bool

abbrev pub sizes : Outcome Cascade → Outcome Sizes
sizes (result b) = result (record { tags = b.tags; rules = length b.rules; sets = some_has_set b.rules })
sizes (refused n p) = refused n p

abbrev pub book_outcome : Result Book Refusal → Outcome Sizes
book_outcome (Ok b) = result (record { tags = b.tags; rules = b.rules; sets = b.sets })
book_outcome (Err r) = refusal r
