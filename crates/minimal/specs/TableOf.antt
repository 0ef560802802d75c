-- The table of a cascade: it does what the cascade does, is the smallest one that does, early and numbered.
-- Time grows with the rules times the work of the phases on the table so far, composed with one rule.
use Rattle.std.specs.Prelude.{ℕ, List, [], ◌∷◌}
use Rattle.cascades.specs.Rule.{Rule, Cascade}
use Rattle.transducers.specs.Transducer.{Shape}
use Rattle.transducers.specs.Table.{Table}
use Rattle.transducers.specs.Tabulate.{table}
use Rattle.transducers.specs.Compose.{compose}
use Rattle.transducers.specs.Normalize.{normalize}
use Rattle.transducers.specs.Merge.{merge}
use Rattle.transducers.specs.Number.{number}
use Rattle.minimal.specs.OneRule.{rule_table}

-- one state that puts out what it reads
abbrev pub identity : Shape
identity = record { count = 1; next = λ q a. 0; output = λ q a. a ∷ []; final = λ q. [] }

-- the phases for one more rule, whose transducer is u
abbrev pub add : ℕ → Table → Table → Table
add k t u =
    let composed = compose k t u in
    let normalized = normalize k composed in
    let merged = merge k normalized in
    number k merged

-- the table with one more rule, for an end tag
abbrev pub add_rule : ℕ → ℕ → Table → Rule → Table
add_rule k e t r = add k t (rule_table k e r)

abbrev pub add_all : ℕ → ℕ → Table → List Rule → Table
add_all k e t [] = t
add_all k e t (r ∷ rs) = add_all k e (add_rule k e t r) rs

abbrev pub table_of : Cascade → Table
table_of c = add_all c.tags c.end (table c.tags identity) c.rules
