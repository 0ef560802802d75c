use native.Mathlib.Omega.{arith}
use borrow.Author.Rules.{rules}
use Rattle.tables.proofs.Words.{below_of}
use Rattle.decoder.proofs.Head.{head-short, head_long, head-command, head_read}
use Rattle.decoder.proofs.read_ranged.Goals as goal
use Rattle.decoder.proofs.read_ranged.Goals.{then-table-lt4-via-then-table-lt4, then-table-lt4-via-else-table-lt4+then-table-ge16777215, then-table-lt4-via-else-table-lt4+else-table-ge16777215+then-table-ne48}

pub returns-then-table-lt4 : goal.returns-then-table-lt4
returns-then-table-lt4 c = let a = c.args in
    let bs = a.table.now in
    elim c.then-table-lt4.branch [
      | then-table-lt4-via-then-table-lt4 w ↦ head-short a.lim c.requires bs (omega arith)
      | then-table-lt4-via-else-table-lt4+then-table-ge16777215 w ↦
          head_long a.lim c.requires bs (below_of 0x100 bs (λ i. (c.type_inv.table i).fits)) (omega arith)
      | then-table-lt4-via-else-table-lt4+else-table-ge16777215+then-table-ne48 w ↦
          head-command a.lim c.requires bs (omega arith) w.if-table-ne48.true
    ]

pub returns : goal.returns
returns c = head_read c.args.lim c.requires c.args.table.now (omega arith) _ _ (omega arith) (search rules) (search rules) (search rules) (omega arith) (omega arith) (omega arith) (omega arith)
