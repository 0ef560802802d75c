-- Rules that fire everywhere (document 02, W4), computed on examples that were worked out by hand.
use Prim.Native.Nat.{ℕ}
use mathlib.Core.Path.{◌≡◌, refl}
use mathlib.Core.List.{List, [], ◌∷◌}
use Rattle.limits.specs.Limits.{no_end, standard}
use Rattle.answers.specs.Outcome.{result, refused, nothing, rule}
use Rattle.tagging.specs.Run.{book_run}
use Rattle.compilation.specs.Compile.{compile_answer}
use Rattle.compilation.specs.Instances.{long_work, long_out}

-- 0 0 → 1 0 everywhere, over four tags, with 3 for the full stop
abbrev pairs : List ℕ
pairs = 0x20 ∷ 0x04 ∷ 0x24 ∷ 0x00 ∷ 0x01 ∷ 0x22 ∷ 0x00 ∷ 0x22 ∷ 0x00 ∷ 0x00 ∷ []

-- "no tag of the old match counts for the next"
three : book_run standard pairs no_end (0 ∷ 0 ∷ 0 ∷ []) 3 ≡ result (1 ∷ 0 ∷ 0 ∷ [])
three = refl

four : book_run standard pairs no_end (0 ∷ 0 ∷ 0 ∷ 0 ∷ []) 4 ≡ result (1 ∷ 0 ∷ 1 ∷ 0 ∷ [])
four = refl

-- 0 1 0 → 0 2 0: the second match overlaps the first, or stands behind it and ends the sentence
abbrev between : List ℕ
between = 0x20 ∷ 0x03 ∷ 0x24 ∷ 0x01 ∷ 0x02 ∷ 0x22 ∷ 0x00 ∷ 0x22 ∷ 0x01 ∷ 0x22 ∷ 0x00 ∷ 0x00 ∷ []

overlapping : book_run standard between no_end (0 ∷ 1 ∷ 0 ∷ 1 ∷ 0 ∷ []) 5 ≡ result (0 ∷ 2 ∷ 0 ∷ 1 ∷ 0 ∷ [])
overlapping = refl

behind : book_run standard between no_end (0 ∷ 1 ∷ 0 ∷ 0 ∷ 1 ∷ 0 ∷ []) 6 ≡ result (0 ∷ 2 ∷ 0 ∷ 0 ∷ 2 ∷ 0 ∷ [])
behind = refl

-- "With an end tag, matching begins again in each piece": the full stop keeps 0 3 0 apart
each-piece : book_run standard pairs 3 (0 ∷ 3 ∷ 0 ∷ 0 ∷ 0 ∷ 3 ∷ 0 ∷ 0 ∷ []) 8 ≡ result (0 ∷ 3 ∷ 1 ∷ 0 ∷ 0 ∷ 3 ∷ 1 ∷ 0 ∷ [])
each-piece = refl

-- 0 → 1 once and 1 → 2 everywhere, in both orders
abbrev once-first : List ℕ
once-first = 0x20 ∷ 0x03 ∷ 0x21 ∷ 0x00 ∷ 0x01 ∷ 0x22 ∷ 0x00 ∷ 0x24 ∷ 0x00 ∷ 0x02 ∷ 0x22 ∷ 0x01 ∷ 0x00 ∷ []

abbrev everywhere-first : List ℕ
everywhere-first = 0x20 ∷ 0x03 ∷ 0x24 ∷ 0x00 ∷ 0x02 ∷ 0x22 ∷ 0x01 ∷ 0x21 ∷ 0x00 ∷ 0x01 ∷ 0x22 ∷ 0x00 ∷ 0x00 ∷ []

mixed : book_run standard once-first no_end (0 ∷ 1 ∷ 0 ∷ 1 ∷ []) 4 ≡ result (2 ∷ 2 ∷ 0 ∷ 2 ∷ [])
mixed = refl

mixed-other : book_run standard everywhere-first no_end (0 ∷ 1 ∷ 0 ∷ 1 ∷ []) 4 ≡ result (1 ∷ 2 ∷ 0 ∷ 2 ∷ [])
mixed-other = refl

-- the table of 0 0 → 1 0 everywhere over two tags: "|u| states". State 1 holds a 0, and where another follows puts out 1 0 and begins again
abbrev two_tags : List ℕ
two_tags = 0x20 ∷ 0x02 ∷ 0x24 ∷ 0x00 ∷ 0x01 ∷ 0x22 ∷ 0x00 ∷ 0x22 ∷ 0x00 ∷ 0x00 ∷ []

two_states :
    compile_answer standard two_tags no_end 2 long_work long_out
    ≡ result (0x30 ∷ 0x02 ∷ 0x00 ∷ 0x02
    ∷ 0x31 ∷ 0x00 ∷ 0x33 ∷ 0x00 ∷ 0x01 ∷ 0x33 ∷ 0x00 ∷ 0x00 ∷ 0x34 ∷ 0x01
    ∷ 0x31 ∷ 0x01 ∷ 0x32 ∷ 0x00 ∷ 0x33 ∷ 0x00 ∷ 0x00 ∷ 0x34 ∷ 0x01 ∷ 0x34 ∷ 0x00 ∷ 0x33 ∷ 0x00 ∷ 0x00 ∷ 0x34 ∷ 0x00 ∷ 0x34 ∷ 0x01
    ∷ 0x00 ∷ [])
two_states = refl

one_is_too_few : compile_answer standard two_tags no_end 1 long_work long_out ≡ refused 10 (rule 1)
one_is_too_few = refl

-- 14 is given as for a leftmost rule: the full stop is 0 here, in the pattern before its last place
misuses : book_run standard pairs 0 (0 ∷ 0 ∷ []) 2 ≡ refused 14 nothing
misuses = refl
