use Prim.Native.Nat.{ℕ, ◌+◌, ◌*◌, ◌≤◌, ◌<◌}
use mathlib.Core.Path.{◌≡◌}
use mathlib.Core.List.{List}
use lib.ListN.{length, drop}
use Rattle.transducers.specs.Table.{row}
use Rattle.limits.specs.declared.Limits.{Limits}
use Rattle.decoder.specs.Index.{Loaded}
use Rattle.loaded.specs.Numbers.{steps_behind, row_behind}
use Rattle.measuring.proofs.measure_row.Given as goal

abbrev pub invariant-loop-a : goal.invariant-loop-a
invariant-loop-a l = (l.total ≤ 0x100 * (l.a + 1))
    × ((lim : Limits) (bs : List ℕ) (held : Loaded lim bs l.k l.index) (q : ℕ) → q < length held.table → l.cell ≡ q * (l.k + 1)
    → l.total + length (steps_behind (drop l.a (row held.table q).steps)) ≡ length (row_behind (row held.table q)))
