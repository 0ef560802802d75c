-- Where a step of a rule's transducer leads. A state is how many tags of the pattern are matched.
use Rattle.std.specs.Prelude.{ℕ, ◌<◌, ◌≡◌, true, false, List, eqb, length}
use Rattle.borders.specs.Border.{border}
use Rattle.cascades.specs.Rule.{once}
use Rattle.minimal.specs.Matcher.{moves}
use Rattle.minimal.specs.OneRule.{borders}
use Rattle.workspace.specs.declared.Grid.{Grid}
use Rattle.workspace.specs.Entries.{NEXT}
use Rattle.workspace.specs.Cells.{at}

-- Of a rule with the pattern u, from the state j on the tag a.

-- how many tags of u are matched then; all of them where they were before
abbrev pub goes : List ℕ → ℕ → ℕ → ℕ
goes u j a = moves (length u) (borders once u) j a

-- the start where there is no state for what is matched, and after an end tag
abbrev pub turns : ℕ → ℕ → ℕ
turns count next = elim (eqb next count) [ true ↦ 0 | false ↦ next ]

abbrev pub restarts : ℕ → ℕ → ℕ → ℕ → ℕ
restarts count e a next = elim (eqb a e) [ true ↦ 0 | false ↦ turns count next ]

-- where some tags of u are matched, but not all, the row `back` has the next states of their longest border
pub record Behind (g : Grid) (W : List ℕ) (back : ℕ) (u : List ℕ) (j : ℕ) : Type 0 where
  pub inside : back < g.rows
  pub next_is : 0 < j → j < length u → (a : ℕ) → a < g.tags → at g W back a NEXT ≡ goes u (border u j) a
