-- Sets of tags (document 02, W9), computed on examples that were worked out by hand.
use Prim.Native.Nat.{ℕ}
use mathlib.Core.Path.{◌≡◌, refl}
use mathlib.Core.Bool.{true}
use mathlib.Core.List.{List, [], ◌∷◌}
use Rattle.limits.specs.Limits.{no_end, standard}
use Rattle.limits.specs.Work.{work_entries}
use Rattle.answers.specs.Outcome.{result, refused, nothing, rule}
use Rattle.tagging.specs.Run.{book_run}
use Rattle.compilation.specs.Compile.{compile_answer}
use Rattle.compilation.specs.Instances.{long_out}

-- any of the nouns 0 and 1 before the verb 2, which becomes 0
abbrev noun : List ℕ
noun = 0x20 ∷ 0x03 ∷ 0x21 ∷ 0x01 ∷ 0x00 ∷ 0x23 ∷ 0x00 ∷ 0x00 ∷ 0x00 ∷ 0x00 ∷ 0x00 ∷ 0x03 ∷ 0x22 ∷ 0x02 ∷ 0x00 ∷ []

first_noun : book_run standard noun no_end (2 ∷ 1 ∷ 2 ∷ 0 ∷ 2 ∷ []) 5 ≡ result (2 ∷ 1 ∷ 0 ∷ 0 ∷ 2 ∷ [])
first_noun = refl

no_noun : book_run standard noun no_end (2 ∷ 2 ∷ 1 ∷ []) 3 ≡ result (2 ∷ 2 ∷ 1 ∷ [])
no_noun = refl

-- it has three states, and needs a work slice of 2 × (2^(6 − 1) + 2) × 3 × (3 + 1) × (5 × 1 + 8) entries
room : work_entries standard true 3 3 1 ≡ 10608
room = refl

table : compile_answer standard noun no_end 3 10608 long_out
    ≡ result (
    0x30 ∷ 0x03 ∷ 0x00 ∷ 0x03
    ∷ 0x31 ∷ 0x00 ∷ 0x33 ∷ 0x00 ∷ 0x01 ∷ 0x34 ∷ 0x00 ∷ 0x33 ∷ 0x00 ∷ 0x01 ∷ 0x34 ∷ 0x01 ∷ 0x33 ∷ 0x00 ∷ 0x00 ∷ 0x34 ∷ 0x02
    ∷ 0x31 ∷ 0x00 ∷ 0x33 ∷ 0x00 ∷ 0x01 ∷ 0x34 ∷ 0x00 ∷ 0x33 ∷ 0x00 ∷ 0x01 ∷ 0x34 ∷ 0x01 ∷ 0x33 ∷ 0x00 ∷ 0x02 ∷ 0x34 ∷ 0x00
    ∷ 0x31 ∷ 0x00 ∷ 0x33 ∷ 0x00 ∷ 0x02 ∷ 0x34 ∷ 0x00 ∷ 0x33 ∷ 0x00 ∷ 0x02 ∷ 0x34 ∷ 0x01 ∷ 0x33 ∷ 0x00 ∷ 0x02 ∷ 0x34 ∷ 0x02
    ∷ 0x00 ∷ []
    )
table = refl

short : compile_answer standard noun no_end 3 10607 long_out ≡ refused 9 nothing
short = refl

fewer : compile_answer standard noun no_end 2 10608 long_out ≡ refused 10 (rule 1)
fewer = refl

-- "an end tag in a set counts as in W1"
end_in_set : compile_answer standard noun 1 3 10608 long_out ≡ refused 14 nothing
end_in_set = refl

-- {0, 1} {0, 2} 0, and the last becomes 1: after 0 0 and after 1 2 two places match, but after 0 0 another match is alive
abbrev several : List ℕ
several =
    0x20 ∷ 0x03 ∷ 0x21 ∷ 0x02 ∷ 0x01 ∷ 0x23 ∷ 0x00 ∷ 0x00 ∷ 0x00 ∷ 0x00 ∷ 0x00 ∷ 0x03 ∷ 0x23 ∷ 0x00 ∷ 0x00 ∷ 0x00 ∷ 0x00 ∷ 0x00 ∷ 0x05 ∷ 0x22 ∷ 0x00 ∷ 0x00 ∷ []

another_alive : book_run standard several no_end (0 ∷ 0 ∷ 2 ∷ 0 ∷ []) 4 ≡ result (0 ∷ 0 ∷ 2 ∷ 1 ∷ [])
another_alive = refl

none_alive : book_run standard several no_end (1 ∷ 2 ∷ 2 ∷ 0 ∷ []) 4 ≡ result (1 ∷ 2 ∷ 2 ∷ 0 ∷ [])
none_alive = refl
