use Prim.Native.Nat.{◌+◌, ◌*◌}
use mathlib.Core.Path.{◌≡◌}
use lib.ListN.{length}
use Rattle.transducers.specs.Table.{no_row}
use Rattle.tables.specs.Bytes.{row_bytes}
use Rattle.tables.specs.Decode.{read_row}
use Rattle.indexing.specs.Entries.{RowEntries}
use Rattle.indexing.proofs.Progress.{Progress}
use Rattle.indexing.proofs.read_rows.Given as goal

abbrev pub invariant-loop-q : goal.invariant-loop-q
invariant-loop-q l = (length l.index ≡ length l.initial.index)
    × Progress (read_row l.most l.size.tags l.size.states) row_bytes no_row (λ i r. RowEntries l.size.tags l.table l.index (i * (l.size.tags + 1)) r) l.table 4 l.q l.to
