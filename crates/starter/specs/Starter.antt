-- The starter book, and what compile answers for it (document 02, W7).
use Rattle.std.specs.Prelude.{ℕ, ◌≤◌, ◌≡◌, false, List, [], ◌∷◌}
use Rattle.limits.specs.Limits.{most_states, no_end, standard}
use Rattle.limits.specs.Work.{work_entries}
use Rattle.answers.specs.Outcome.{Outcome}
use Rattle.cascades.specs.Pattern.{one}
use Rattle.cascades.specs.Rule.{Cascade, once}
use Rattle.compilation.specs.Compile.{compile_answer}

-- "K = 48, pattern 0 1, place 1, new tag 2", "with no end tag"
abbrev pub starter_cascade : Cascade
starter_cascade =
    record { tags = 48; rules = record { kind = once; pattern = one 0 ∷ one 1 ∷ []; place = 1; tag = 2 } ∷ []; end = no_end }

-- as a book
abbrev pub starter_book : List ℕ
starter_book = 0x20 ∷ 48 ∷ 0x21 ∷ 1 ∷ 2 ∷ 0x22 ∷ 0 ∷ 0x22 ∷ 1 ∷ 0x00 ∷ []

-- what compile answers for it, by the length of the output slice; with the lowest ceiling and the shortest work slice,
unfoldable pub starter_answer : ℕ → Outcome (List ℕ)
starter_answer room = compile_answer standard starter_book no_end 3 (work_entries standard false 3 48 1) room

-- and "wherever the ceiling is 3 to 256 and the slices are long enough"
abbrev pub AtEveryCeiling : Type 0
AtEveryCeiling = (n work room : ℕ) → 3 ≤ n → n ≤ most_states → work_entries standard false n 48 1 ≤ work → compile_answer standard starter_book no_end n work room ≡ starter_answer room
