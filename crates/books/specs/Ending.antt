-- A book with the end tag of a call (document 02, W1).
use Rattle.std.specs.Prelude.{ℕ, ◌≡◌, false, not, List}
use Rattle.limits.specs.Limits.{no_end}
use Rattle.limits.specs.declared.Limits.{Limits}
use Rattle.answers.specs.Outcome.{Outcome, result, and_then, provided}
use Rattle.cascades.specs.Rule.{Cascade, ending}
use Rattle.cascades.specs.Ending.{bad_end}
use Rattle.books.specs.Book.{Valid}
use Rattle.books.specs.Read.{read}

-- 14 "tested once the whole book is read", "naming nothing"
abbrev pub fitted : ℕ → Cascade → Outcome Cascade
fitted e c = provided 14 (not (bad_end (ending e c))) (result (ending e c))

abbrev pub read_ending : Limits → List ℕ → ℕ → Outcome Cascade
read_ending lim book e = and_then (read lim book) (fitted e)

-- "A book that gives 14 with the call's end tag isn't one of demand 3's valid books"
pub record ValidEnding (lim : Limits) (c : Cascade) : Type 0 where
  pub book_valid : Valid lim (ending no_end c)
  pub end_fits : bad_end c ≡ false
