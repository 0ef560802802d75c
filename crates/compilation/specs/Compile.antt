-- The answer of compile, as a function of the limits, the book's bytes, the end tag, the ceiling and the lengths of the two slices: the bytes
-- of the table, or the first refusal in the order of documents 01 and 02: 17, 8, the book's, 14, 9; then 10 with the rule, 11.
use Rattle.std.specs.Prelude.{ℕ, suc, true, false, ◌&&◌, List, [], ◌∷◌, leb, length}
use Rattle.limits.specs.Limits.{most_states}
use Rattle.limits.specs.Work.{work_entries}
use Rattle.limits.specs.Within.{within}
use Rattle.limits.specs.declared.Limits.{Limits}
use Rattle.answers.specs.Outcome.{Outcome, result, refused, rule, and_then, provided}
use Rattle.answers.specs.Slice.{fitting}
use Rattle.cascades.specs.Rule.{Rule, Cascade, some_has_set}
use Rattle.books.specs.Ending.{read_ending}
use Rattle.transducers.specs.Table.{Table}
use Rattle.transducers.specs.Tabulate.{table}
use Rattle.minimal.specs.TableOf.{identity, add_rule}
use Rattle.tables.specs.Bytes.{encode}

-- the entries that the work slice has to have for a ceiling and a cascade
abbrev pub entries : Limits → ℕ → Cascade → ℕ
entries lim n c = work_entries lim (some_has_set c.rules) n c.tags (length c.rules)

-- "9: work slice too short"
abbrev pub roomed : Limits → ℕ → ℕ → Cascade → Outcome Cascade
roomed lim n work c = provided 9 (leb (entries lim n c) work) (result c)

-- what is tested before a state is built: 17, "8: ceiling outside 1 to 256", the book's refusals, 14, 9
abbrev pub tested : Limits → List ℕ → ℕ → ℕ → ℕ → Outcome Cascade
tested lim book end n work = within lim (provided 8 (leb 1 n && leb n most_states) (and_then (read_ending lim book end) (roomed lim n work)))

-- the rules one by one, after the first i of them, whose table is t: "10 with i: the first i rules need more than N states in every
-- machine, i the least such"
abbrev pub with_rules : ℕ → ℕ → ℕ → ℕ → Table → List Rule → Outcome Table
with_rules k end n i t [] = result t
with_rules k end n i t (r ∷ rs) =
    let u = add_rule k end t r in
    elim (leb (length u) n) [ true ↦ with_rules k end n (suc i) u rs | false ↦ refused 10 (rule (suc i)) ]

abbrev pub compile_cascade : ℕ → Cascade → Outcome Table
compile_cascade n c = with_rules c.tags c.end n 0 (table c.tags identity) c.rules

-- what becomes of a cascade: 10, 11 or the bytes of its table
abbrev pub built : ℕ → ℕ → Cascade → Outcome (List ℕ)
built n room c = and_then (compile_cascade n c) (λ t. fitting room (encode c.tags t))

abbrev pub compile_answer : Limits → List ℕ → ℕ → ℕ → ℕ → ℕ → Outcome (List ℕ)
compile_answer lim book end n work room = and_then (tested lim book end n work) (built n room)
