-- Limits (document 02, W8), computed on examples that were worked out by hand.
use Prim.Native.Nat.{ℕ}
use mathlib.Core.Path.{◌≡◌, refl}
use mathlib.Core.Bool.{false}
use mathlib.Core.List.{List, [], ◌∷◌}
use Rattle.limits.specs.Limits.{no_end, standard, limits_of}
use Rattle.limits.specs.Work.{work_entries}
use Rattle.answers.specs.Outcome.{result, refused, nothing, byte, rule}
use Rattle.books.specs.Read.{read}
use Rattle.tagging.specs.Run.{book_run}
use Rattle.tables.specs.Run.{table_run}
use Rattle.compilation.specs.Compile.{compile_answer}
use Rattle.compilation.specs.Instances.{book_a, table_a, book_b, long_out}

-- 17 comes before 8 and all others, for each limit one below and one above its range
before_8 : compile_answer (limits_of 9 16 48) [] 77 0 0 0 ≡ refused 17 nothing
before_8 = refl

no_pattern : compile_answer (limits_of 0 16 48) book_a no_end 3 10000 100 ≡ refused 17 nothing
no_pattern = refl

no_rules : compile_answer (limits_of 6 0 48) book_a no_end 3 10000 100 ≡ refused 17 nothing
no_rules = refl

many-rules : compile_answer (limits_of 6 17 48) book_a no_end 3 10000 100 ≡ refused 17 nothing
many-rules = refl

one_tag : book_run (limits_of 6 16 1) book_a no_end (0 ∷ 1 ∷ []) 2 ≡ refused 17 nothing
one_tag = refl

many-tags : table_run (limits_of 6 16 49) [] (0 ∷ 1 ∷ []) 2 ≡ refused 17 nothing
many-tags = refl

-- within the narrowest limits that allow it book A has the same table, in a work slice of 2 × (2 + 2) × 3 × (2 + 1) × ((2 − 1) × 1 + 8) entries
-- and not in one that is shorter
narrow : work_entries (limits_of 2 1 2) false 3 2 1 ≡ 648
narrow = refl

narrow_table : compile_answer (limits_of 2 1 2) book_a no_end 3 648 43 ≡ result table_a
narrow_table = refl

one-short : compile_answer (limits_of 2 1 2) book_a no_end 3 647 43 ≡ refused 9 nothing
one-short = refl

old-entries : compile_answer standard book_a no_end 3 648 43 ≡ refused 9 nothing
old-entries = refl

-- each limit one lower: 3 at the second tag, 7 at the second rule, 2 at K
short_pattern : read (limits_of 1 1 2) book_a ≡ refused 3 (byte 7)
short_pattern = refl

few_rules : read (limits_of 1 1 2) book_b ≡ refused 7 (byte 7)
few_rules = refl

few_tags : read (limits_of 6 16 2) (0x20 ∷ 0x03 ∷ 0x00 ∷ []) ≡ refused 2 (byte 1)
few_tags = refl

-- one tag in a pattern: nothing is held
abbrev single : List ℕ
single = 0x20 ∷ 0x02 ∷ 0x21 ∷ 0x00 ∷ 0x01 ∷ 0x22 ∷ 0x00 ∷ 0x00 ∷ []

one_of_one : compile_answer (limits_of 1 1 2) single no_end 2 288 long_out
    ≡ result (
    0x30 ∷ 0x02 ∷ 0x00 ∷ 0x02
    ∷ 0x31 ∷ 0x00 ∷ 0x33 ∷ 0x00 ∷ 0x01 ∷ 0x34 ∷ 0x01 ∷ 0x33 ∷ 0x00 ∷ 0x00 ∷ 0x34 ∷ 0x01
    ∷ 0x31 ∷ 0x00 ∷ 0x33 ∷ 0x00 ∷ 0x01 ∷ 0x34 ∷ 0x00 ∷ 0x33 ∷ 0x00 ∷ 0x01 ∷ 0x34 ∷ 0x01
    ∷ 0x00 ∷ []
    )
one_of_one = refl

-- 0 0 0 0 0 0 0 1 → 1 0 0 0 0 0 0 1: eight tags, where six are allowed a seventh is refused at its command
abbrev eight : List ℕ
eight =
    0x20 ∷ 0x02 ∷ 0x21 ∷ 0x00 ∷ 0x01
    ∷ 0x22 ∷ 0x00 ∷ 0x22 ∷ 0x00 ∷ 0x22 ∷ 0x00 ∷ 0x22 ∷ 0x00 ∷ 0x22 ∷ 0x00 ∷ 0x22 ∷ 0x00 ∷ 0x22 ∷ 0x00 ∷ 0x22 ∷ 0x01
    ∷ 0x00 ∷ []

eight_run : book_run (limits_of 8 16 48) eight no_end (0 ∷ 0 ∷ 0 ∷ 0 ∷ 0 ∷ 0 ∷ 0 ∷ 0 ∷ 1 ∷ []) 9 ≡ result (0 ∷ 1 ∷ 0 ∷ 0 ∷ 0 ∷ 0 ∷ 0 ∷ 0 ∷ 1 ∷ [])
eight_run = refl

eight_states : compile_answer (limits_of 8 16 48) eight no_end 8 10000000 long_out ≡ refused 10 (rule 1)
eight_states = refl

eight_refused : read standard eight ≡ refused 3 (byte 17)
eight_refused = refl
