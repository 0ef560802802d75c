use Prim.Native.Nat.{ℕ, ◌+◌}
use native.Mathlib.Omega.{arith}
use borrow.Author.Rules.{rules}
use mathlib.Core.Path.{◌≡◌}
use lib.ListN.{drop}
use Rattle.tables.specs.Decode.{word}
use Rattle.steps.proofs.Places.{step-short, step_part, word_stands}
use Rattle.steps.proofs.read_any_step.Goals as goal

-- `steps::read_any_step` meets its contract: each return is a case of `read_step`.
then : (n : ℕ) → n + 1 + 1 ≡ n + 2
then n = omega arith

pub returns-then-table-at-lt3-clause-read : goal.returns-then-table-at-lt3-clause-read
returns-then-table-at-lt3-clause-read c = let a = c.args in
    step-short a.size.tags a.size.states a.table.now a.at (omega arith)

pub returns-clause-read : goal.returns-clause-read
returns-clause-read c = let a = c.args in
    let w = word 0x34 a.size.tags (drop (a.at + 3) a.table.now) in
    step_part a.size.tags a.size.states a.table.now a.at (omega arith) a.index.now a.cell
    c.word_end-end.result
    c.number_at-next.result
    c.base_at.result
    c.word_entry.result
    (search rules)
    (rw (then a.at) at c.number_at-next.ensures.0)
    (omega arith)
    (search rules)
    (search rules)
    (search rules)
    (c.word_entry.ensures w (search rules) (word_stands 0x34 a.size.tags a.table.now (a.at + 3) (omega arith)))
    (search rules)
