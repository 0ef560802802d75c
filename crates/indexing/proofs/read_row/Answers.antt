use Prim.Native.Nat.{◌+◌}
use native.Mathlib.Omega.{arith}
use borrow.Author.Rules.{rules}
use mathlib.Core.Path.{refl}
use lib.ListN.{length, drop}
use lib.Seq.{get_or-set_same}
use Rattle.tables.specs.Decode.{word}
use Rattle.steps.proofs.Places.{word_stands, final-cell}
use Rattle.indexing.proofs.Rows.{row-short, row-whole}
use Rattle.indexing.proofs.read_row.Goals as goal

pub returns-then-table-at-lt2-clause-read : goal.returns-then-table-at-lt2-clause-read
returns-then-table-at-lt2-clause-read c = let a = c.args in
    row-short a.most a.size.tags a.size.states a.table.now a.at (omega arith)

pub returns-clause-read : goal.returns-clause-read
returns-clause-read c = let a = c.args in
    let bs = a.table.now in
    let w = word 0x32 a.size.tags (drop (a.at + 2) bs) in
    let x = a.index.now in
    let e = c.entry.result in
    let y = c.read_steps.new.index in
    let kept = c.read_steps.ensures.kept in
    let here =
    final-cell bs w (a.at + 2) (length w) e (omega (arith, c.entry.ensures)) c.entry.ensures.2 refl
    (word_stands 0x32 a.size.tags bs (a.at + 2) (omega arith)) in row-whole a.most a.size.tags a.size.states bs a.at (omega arith) c.if-table-at-ne49.false (omega arith) y a.cell
    c.word_end-end.result
    (omega arith)
    (search rules)
    (rw (kept a.cell (omega arith), get_or-set_same x a.cell e 0 (omega (arith, c.requires.1))) here)
    c.read_steps.result
    c.read_steps.ensures.read
