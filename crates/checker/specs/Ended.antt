-- What the stages of the check ask and promise.
use Rattle.std.specs.Prelude.{ℕ, ◌≤◌, ◌<◌, ◌≡◌, List, length, Option, Some, None, Result, Ok, Err}
use Rattle.limits.specs.declared.Limits.{Limits}
use Rattle.answers.specs.Outcome.{Outcome, and_then}
use Rattle.answers.specs.declared.Reason.TheVariants.{ShortOutput}
use Rattle.answers.specs.declared.Refusal.{Refusal}
use Rattle.answers.specs.declared.Refusal.TheVariants.{Bare}
use Rattle.cascades.specs.Rule.{Cascade}
use Rattle.books.specs.Ending.{fitted}
use Rattle.transducers.specs.Transducer.{Shape, puts}
use Rattle.transducers.specs.Canonical as canonical
use Rattle.decoder.specs.Index.{Loaded}
use Rattle.equivalence.specs.Tables.{table_in}
use Rattle.equivalence.specs.Search as equivalence
use Rattle.checking.specs.Check.{longest_shown, Pair, paired, roomy, compared, Answers, wiped}

-- the cascade and the table in the bytes
abbrev pub pair_of : Limits → List ℕ → Cascade → Pair
pair_of lim bytes c = record { cascade = c; table = table_in lim bytes }

-- a table of s states over k tags is read, and its index is filled
pub record Given (lim : Limits) (bs : List ℕ) (k s : ℕ) (ix : List ℕ) : Type 0 where
  pub loaded : Loaded lim bs k ix
  pub states : length loaded.table ≡ s

-- 11, or what was found of two transducers over k tags
abbrev pub Judges : ℕ → Shape → Shape → List ℕ → List ℕ → Result (Option ℕ) Refusal → Type 0
Judges k S T before after (Ok None) = (longest_shown ≤ length before) × canonical.Same k (puts S 0) (puts T 0) × (after ≡ before)
Judges k S T before after (Ok (Some n)) = (longest_shown ≤ length before) × equivalence.Shown k S T before after n
Judges k S T before after (Err r) = (length before < longest_shown) × (r ≡ Bare ShortOutput) × (after ≡ before)

-- what is left to be tested after a table over as many tags was read, after 14, and after the book was read
abbrev pub after_table : Limits → List ℕ → ℕ → Cascade → Outcome Pair
after_table lim bytes work c = roomy lim work (pair_of lim bytes c)

abbrev pub after_end : Limits → List ℕ → ℕ → Cascade → Outcome Pair
after_end lim bytes work c = and_then (paired lim bytes c) (roomy lim work)

abbrev pub after_book : Limits → ℕ → List ℕ → ℕ → Cascade → Outcome Pair
after_book lim end bytes work c = and_then (fitted end c) (after_end lim bytes work)

-- where t is what was tested before a state was built: the answer, the output slice and the work slice
pub record Ended (lim : Limits) (t : Outcome Pair) (W X before after : List ℕ) (r : Result (Option ℕ) Refusal) : Type 0 where
  pub said : Answers (and_then t (compared (length before))) before after r
  pub wiped_is : X ≡ wiped lim t W
