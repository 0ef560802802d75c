-- The check of a table (document 02, W10): "Houses hold tables that others built and want to know whether they do what the book says."
use Rattle.std.specs.Prelude.{ℕ, ◌≤◌, ◌≡◌, List, ◌++◌, eqb, leb, length, drop, replicate, Option, Some, None, Result, Ok, Err}
use Rattle.words.specs.Word.{Below}
use Rattle.limits.specs.Limits.{most_states}
use Rattle.limits.specs.Within.{within}
use Rattle.limits.specs.declared.Limits.{Limits}
use Rattle.answers.specs.Outcome.{Outcome, result, refused, and_then, provided}
use Rattle.answers.specs.Answer.{refusal}
use Rattle.answers.specs.declared.Refusal.{Refusal}
use Rattle.cascades.specs.Rule.{Cascade}
use Rattle.cascades.specs.Rewrite.{behavior}
use Rattle.books.specs.Ending.{read_ending}
use Rattle.transducers.specs.Transducer.{puts}
use Rattle.transducers.specs.Table.{Table, shape}
use Rattle.tables.specs.Decode.{decode}
use Rattle.compilation.specs.Compile.{entries, compile_cascade}

-- "a sentence of that length, at most 1,024 tags"
abbrev pub longest_shown : ℕ
longest_shown = 1024

-- what is compared: "a valid book, an end tag, a well-formed table"
pub record Pair : Type 0 where
  pub cascade : Cascade
  pub table : Table

-- 12; "20: the table's K isn't the book's; after 12 and before 9"
abbrev pub paired : Limits → List ℕ → Cascade → Outcome Pair
paired lim bytes c = and_then (decode lim bytes) (λ d. provided 20 (eqb d.tags c.tags) (result (record { cascade = c; table = d.table })))

-- 9, of a work slice for a ceiling of 256
abbrev pub roomy : Limits → ℕ → Pair → Outcome Pair
roomy lim work p = provided 9 (leb (entries lim most_states p.cascade) work) (result p)

-- what is tested before a state is built: 17; "the book's refusals and 14 come before 12"; 12, 20, 9
abbrev pub checkable : Limits → List ℕ → ℕ → List ℕ → ℕ → Outcome Pair
checkable lim book end bytes work = within lim (and_then (read_ending lim book end) (λ c. and_then (paired lim bytes c) (roomy lim work)))

-- "It compiles with a ceiling of 256, so 10 may come as before. After that, 11 comes exactly if the output slice has fewer than 1,024 tags, also
-- where the answer would be yes."
abbrev pub compared : ℕ → Pair → Outcome Pair
compared room p = and_then (compile_cascade most_states p.cascade) (λ t. provided 11 (leb longest_shown room) (result p))

-- what is compared, or the first refusal: 17, the book's, 14, 12, 20, 9, 10, 11
abbrev pub checked : Limits → List ℕ → ℕ → List ℕ → ℕ → ℕ → Outcome Pair
checked lim book end bytes work room = and_then (checkable lim book end bytes work) (compared room)

-- "both make the same of every sentence"
abbrev pub Alike : Pair → Type 0
Alike p = (w : List ℕ) → Below p.cascade.tags w → puts (shape p.table) 0 w ≡ behavior p.cascade w

-- "it says no with a length and writes a sentence of that length, at most 1,024 tags, on which they differ, in front of its output slice; which of
-- several it is may stay free"
pub record Shown (p : Pair) (n : ℕ) (before after : List ℕ) : Type 0 where
  pub sentence : List ℕ
  pub long : length sentence ≡ n
  pub some : 1 ≤ n
  pub short : n ≤ longest_shown
  pub below : Below p.cascade.tags sentence
  pub differs : puts (shape p.table) 0 sentence ≡ behavior p.cascade sentence → ⊥
  pub front : after ≡ sentence ++ drop n before

-- the answer, and the output slice before and after the call: yes, "A yes writes nothing there"; no; a refusal
abbrev pub Answers : Outcome Pair → List ℕ → List ℕ → Result (Option ℕ) Refusal → Type 0
Answers o before after (Ok None) = (p : Pair) × (o ≡ result p) × Alike p × (after ≡ before)
Answers o before after (Ok (Some n)) = (p : Pair) × (o ≡ result p) × Shown p n before after
Answers o before after (Err r) = (o ≡ refusal r) × (after ≡ before)

-- a yes is 0, and a no the length of the sentence
abbrev pub check_outcome : Result (Option ℕ) Refusal → Outcome ℕ
check_outcome (Ok None) = result 0
check_outcome (Ok (Some n)) = result n
check_outcome (Err r) = refusal r

-- the work slice at exit, as of the compile call: unchanged on every refusal that comes before 10
abbrev pub wiped : Limits → Outcome Pair → List ℕ → List ℕ
wiped lim (result p) work = replicate (entries lim most_states p.cascade) 0 ++ drop (entries lim most_states p.cascade) work
wiped lim (refused j i) work = work
