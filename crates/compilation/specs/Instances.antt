-- The marked lines of document 01, as one table of instances with a test for each.
use Rattle.std.specs.Prelude.{ℕ, ◌*◌, ◌+◌, Bool, true, false, ◌&&◌, List, [], ◌∷◌, eqb, length, get_or}
use Rattle.limits.specs.Limits.{most_tags, most_rules, most_states, no_end, standard}
use Rattle.limits.specs.Work.{work_entries}
use Rattle.words.specs.Word.{differences, same}
use Rattle.answers.specs.Outcome.{Outcome, result, refused, nothing, byte, rule}
use Rattle.cascades.specs.Rule.{Rule, Cascade}
use Rattle.books.specs.Read.{read}
use Rattle.tagging.specs.Run.{book_run}
use Rattle.tables.specs.Bytes.{number}
use Rattle.compilation.specs.Compile.{compile_answer}

-- "Book A is 20 02 21 00 01 22 00 22 01 00, the rule 0 1 → 1 1"
abbrev pub book_a : List ℕ
book_a = 0x20 ∷ 0x02 ∷ 0x21 ∷ 0x00 ∷ 0x01 ∷ 0x22 ∷ 0x00 ∷ 0x22 ∷ 0x01 ∷ 0x00 ∷ []

-- "Book B, K = 2: 0 → 1, then 1 → 0"
abbrev pub book_b : List ℕ
book_b = 0x20 ∷ 0x02 ∷ 0x21 ∷ 0x00 ∷ 0x01 ∷ 0x22 ∷ 0x00 ∷ 0x21 ∷ 0x00 ∷ 0x00 ∷ 0x22 ∷ 0x01 ∷ 0x00 ∷ []

-- "Book C, K = 5": "0 1 → 0 2, then 2 3 → 1 3"
abbrev pub book_c : List ℕ
book_c = 0x20 ∷ 0x05 ∷ 0x21 ∷ 0x01 ∷ 0x02 ∷ 0x22 ∷ 0x00 ∷ 0x22 ∷ 0x01 ∷ 0x21 ∷ 0x00 ∷ 0x01 ∷ 0x22 ∷ 0x02 ∷ 0x22 ∷ 0x03 ∷ 0x00 ∷ []

-- the table of A, as document 01 prints it
abbrev pub table_a : List ℕ
table_a =
    0x30 ∷ 0x02 ∷ 0x00 ∷ 0x03
    ∷ 0x31 ∷ 0x00 ∷ 0x33 ∷ 0x00 ∷ 0x01 ∷ 0x33 ∷ 0x00 ∷ 0x00 ∷ 0x34 ∷ 0x01
    ∷ 0x31 ∷ 0x01 ∷ 0x32 ∷ 0x00 ∷ 0x33 ∷ 0x00 ∷ 0x01 ∷ 0x34 ∷ 0x00 ∷ 0x33 ∷ 0x00 ∷ 0x02 ∷ 0x34 ∷ 0x01 ∷ 0x34 ∷ 0x01
    ∷ 0x31 ∷ 0x00 ∷ 0x33 ∷ 0x00 ∷ 0x02 ∷ 0x34 ∷ 0x00 ∷ 0x33 ∷ 0x00 ∷ 0x02 ∷ 0x34 ∷ 0x01
    ∷ 0x00 ∷ []

pub data Instance : Type 0 where
  -- the book makes this of the sentence, with so many changed tags
  turns : List ℕ → List ℕ → List ℕ → ℕ → Instance
  -- with the ceiling, and slices that are long enough, compile refuses with 10 and the rule
  needs_more : List ℕ → ℕ → ℕ → Instance
  -- or answers with these bytes
  compiles : List ℕ → ℕ → List ℕ → Instance
  -- the smallest table has so many states, and the states of the single rules multiplied are so many
  states : List ℕ → ℕ → ℕ → Instance

abbrev pub product : List Rule → ℕ
product [] = 1
product (r ∷ rs) = (length r.pattern + 1) * product rs

abbrev pub gives : Outcome (List ℕ) → List ℕ → Bool
gives (result w) v = same w v
gives (refused n p) v = false

abbrev pub gives_10 : Outcome (List ℕ) → ℕ → Bool
gives_10 (result w) i = false
gives_10 (refused n nothing) i = false
gives_10 (refused n (byte b)) i = false
gives_10 (refused n (rule j)) i = eqb n 10 && eqb j i

abbrev pub carries : Outcome (List ℕ) → ℕ → Bool
carries (result bytes) s = eqb (number (get_or bytes 2 0) (get_or bytes 3 0)) s
carries (refused n p) s = false

abbrev pub multiplied : Outcome Cascade → ℕ → Bool
multiplied (result b) p = eqb (product b.rules) p
multiplied (refused n q) p = false

-- slices that are long enough for these books
abbrev pub long_work : ℕ
long_work = work_entries standard false most_states most_tags most_rules

abbrev pub long_out : ℕ
long_out = 65536

abbrev pub holds : Instance → Bool
holds (turns book sentence made changes) = gives (book_run standard book no_end sentence (length sentence)) made && eqb (differences sentence made) changes
holds (needs_more book n i) = gives_10 (compile_answer standard book no_end n long_work long_out) i
holds (compiles book n bytes) = gives (compile_answer standard book no_end n long_work long_out) bytes
holds (states book s p) = carries (compile_answer standard book no_end most_states long_work long_out) s && multiplied (read standard book) p

abbrev pub instances : List Instance
instances =
    turns book_a [] [] 0
    ∷ turns book_a (0 ∷ []) (0 ∷ []) 0
    ∷ turns book_a (0 ∷ 0 ∷ 1 ∷ 0 ∷ 1 ∷ []) (0 ∷ 1 ∷ 1 ∷ 0 ∷ 1 ∷ []) 1
    ∷ needs_more book_a 2 1
    ∷ compiles book_a 3 table_a
    ∷ states book_a 3 3
    ∷ turns book_b (0 ∷ 0 ∷ []) (0 ∷ 0 ∷ []) 0
    ∷ turns book_b (1 ∷ 0 ∷ 0 ∷ []) (0 ∷ 1 ∷ 0 ∷ []) 2
    ∷ states book_b 3 4
    ∷ turns book_c (0 ∷ 1 ∷ 0 ∷ 0 ∷ []) (0 ∷ 2 ∷ 0 ∷ 0 ∷ []) 1
    ∷ turns book_c (0 ∷ 0 ∷ 2 ∷ 2 ∷ 3 ∷ 0 ∷ []) (0 ∷ 0 ∷ 2 ∷ 1 ∷ 3 ∷ 0 ∷ []) 1
    ∷ turns book_c (4 ∷ 2 ∷ 0 ∷ 1 ∷ 3 ∷ 0 ∷ []) (4 ∷ 2 ∷ 0 ∷ 1 ∷ 3 ∷ 0 ∷ []) 0
    ∷ []

abbrev pub all : List Instance → Bool
all [] = true
all (i ∷ is) = elim (holds i) [ true ↦ all is | false ↦ false ]
