-- End tags (document 02, W1), computed on examples that were worked out by hand. Over four tags, with 3 for the full stop.
use Prim.Native.Nat.{ℕ}
use mathlib.Core.Path.{◌≡◌, refl}
use mathlib.Core.List.{List, [], ◌∷◌}
use Rattle.limits.specs.Limits.{no_end, standard}
use Rattle.words.specs.Pieces.{pieces}
use Rattle.answers.specs.Outcome.{result, refused, nothing, byte, rule}
use Rattle.tagging.specs.Run.{book_run}
use Rattle.compilation.specs.Compile.{compile_answer}
use Rattle.compilation.specs.Instances.{long_work, long_out}

-- 0 1 → 0 2
abbrev noun : List ℕ
noun = 0x20 ∷ 0x04 ∷ 0x21 ∷ 0x01 ∷ 0x02 ∷ 0x22 ∷ 0x00 ∷ 0x22 ∷ 0x01 ∷ 0x00 ∷ []

-- 0 3 → 1 3: the pattern ends with the full stop
abbrev closing : List ℕ
closing = 0x20 ∷ 0x04 ∷ 0x21 ∷ 0x00 ∷ 0x01 ∷ 0x22 ∷ 0x00 ∷ 0x22 ∷ 0x03 ∷ 0x00 ∷ []

-- three sentences, the last without its full stop
abbrev paragraph : List ℕ
paragraph = 0 ∷ 1 ∷ 0 ∷ 1 ∷ 3 ∷ 0 ∷ 1 ∷ 3 ∷ 1 ∷ 0 ∷ 1 ∷ []

cut : pieces 3 paragraph ≡ (0 ∷ 1 ∷ 0 ∷ 1 ∷ 3 ∷ []) ∷ (0 ∷ 1 ∷ 3 ∷ []) ∷ (1 ∷ 0 ∷ 1 ∷ []) ∷ []
cut = refl

-- two full stops beside one another, and one at the end: the last piece is empty
cut-empty : pieces 3 (1 ∷ 3 ∷ 3 ∷ []) ≡ (1 ∷ 3 ∷ []) ∷ (3 ∷ []) ∷ [] ∷ []
cut-empty = refl

-- once in each sentence, and once in the paragraph
once_in_each : book_run standard noun 3 paragraph 11 ≡ result (0 ∷ 2 ∷ 0 ∷ 1 ∷ 3 ∷ 0 ∷ 2 ∷ 3 ∷ 1 ∷ 0 ∷ 2 ∷ [])
once_in_each = refl

once_in_all : book_run standard noun no_end paragraph 11 ≡ result (0 ∷ 2 ∷ 0 ∷ 1 ∷ 3 ∷ 0 ∷ 1 ∷ 3 ∷ 1 ∷ 0 ∷ 1 ∷ [])
once_in_all = refl

-- 14's reasons: not below K and not 255; before the last place; changed; made
not_a_tag : book_run standard noun 4 paragraph 11 ≡ refused 14 nothing
not_a_tag = refl

inside-pattern : book_run standard noun 0 paragraph 11 ≡ refused 14 nothing
inside-pattern = refl

changed-tag : book_run standard noun 1 paragraph 11 ≡ refused 14 nothing
changed-tag = refl

made-tag : book_run standard noun 2 paragraph 11 ≡ refused 14 nothing
made-tag = refl

-- 14 comes after the book's refusals (here three bytes, and more are missing) and before 9; 8 comes before both
after_the_book : compile_answer standard (0x20 ∷ 0x04 ∷ 0x21 ∷ []) 4 256 0 0 ≡ refused 1 (byte 3)
after_the_book = refl

before_9 : compile_answer standard noun 4 256 0 0 ≡ refused 14 nothing
before_9 = refl

after_8 : compile_answer standard noun 4 0 0 0 ≡ refused 8 nothing
after_8 = refl

-- two states for the two tags of a pattern that ends with the end tag: behind a whole match the next sentence begins
closing-table : compile_answer standard closing 3 2 long_work long_out
    ≡ result (
    0x30 ∷ 0x04 ∷ 0x00 ∷ 0x02
    ∷ 0x31 ∷ 0x00 ∷ 0x33 ∷ 0x00 ∷ 0x01 ∷ 0x33 ∷ 0x00 ∷ 0x00 ∷ 0x34 ∷ 0x01 ∷ 0x33 ∷ 0x00 ∷ 0x00 ∷ 0x34 ∷ 0x02 ∷ 0x33 ∷ 0x00 ∷ 0x00 ∷ 0x34 ∷ 0x03
    ∷ 0x31 ∷ 0x01 ∷ 0x32 ∷ 0x00 ∷ 0x33 ∷ 0x00 ∷ 0x01 ∷ 0x34 ∷ 0x00 ∷ 0x33 ∷ 0x00 ∷ 0x00 ∷ 0x34 ∷ 0x00 ∷ 0x34 ∷ 0x01
    ∷ 0x33 ∷ 0x00 ∷ 0x00 ∷ 0x34 ∷ 0x00 ∷ 0x34 ∷ 0x02 ∷ 0x33 ∷ 0x00 ∷ 0x00 ∷ 0x34 ∷ 0x01 ∷ 0x34 ∷ 0x03
    ∷ 0x00 ∷ []
    )
closing-table = refl

-- and three with any other end tag, or none
closing-more : compile_answer standard closing 2 2 long_work long_out ≡ refused 10 (rule 1)
closing-more = refl

closing-none : compile_answer standard closing no_end 2 long_work long_out ≡ refused 10 (rule 1)
closing-none = refl
