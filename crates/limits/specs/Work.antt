-- The compiler's work slice of 16-bit numbers: "2 × (L + 2) × N × (K + 1) × ((L − 1) × m + 8) entries" (document 02, W8), which are rows of
-- K + 1 cells of so many entries; "For a valid book with a set, the work slice's 2 × (L + 2) becomes 2 × (2^(L − 1) + 2)" (W9). A rule's transducer has
-- at most s = L + 1 states, in a book with a set s = 2^(L − 1) + 1, and holds at most h = L − 1 tags.
use Rattle.std.specs.Prelude.{ℕ, ◌+◌, ◌-◌, ◌*◌, ◌^◌, Bool, true, false}
use Rattle.limits.specs.declared.Limits.{Limits}

-- in a book with a set, or without
abbrev pub rule_states : Limits → Bool → ℕ
rule_states lim true = 2 ^ (lim.pattern - 1) + 1
rule_states lim false = lim.pattern + 1

abbrev pub rule_holds : Limits → ℕ
rule_holds lim = lim.pattern - 1

-- The rows: the table in those below the ceiling n; from there its composition with the rule's transducer; then the rule's transducer.
abbrev pub rule_rows : ℕ → ℕ → ℕ
rule_rows s n = (s + 1) * n

abbrev pub work_rows : ℕ → ℕ → ℕ
work_rows s n = 2 * (s + 1) * n

abbrev pub work_depth : ℕ → ℕ → ℕ
work_depth h m = h * m + 8

abbrev pub work_entries : Limits → Bool → ℕ → ℕ → ℕ → ℕ
work_entries lim sets n k m = work_rows (rule_states lim sets) n * (k + 1) * work_depth (rule_holds lim) m
