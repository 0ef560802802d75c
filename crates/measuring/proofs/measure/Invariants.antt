use Prim.Native.Nat.{ℕ, ◌+◌, ◌*◌, ◌≤◌}
use mathlib.Core.Path.{◌≡◌}
use mathlib.Core.List.{List}
use lib.ListN.{length, drop}
use Rattle.tables.specs.Bytes.{joined}
use Rattle.limits.specs.declared.Limits.{Limits}
use Rattle.decoder.specs.Index.{Loaded}
use Rattle.loaded.specs.Numbers.{row_behind, numbers}
use Rattle.measuring.proofs.measure.Given as goal

abbrev pub invariant-loop-q : goal.invariant-loop-q
invariant-loop-q l = (l.total ≤ 25089 + 12544 * l.q)
    × ((lim : Limits) (bs : List ℕ) (held : Loaded lim bs l.size.tags l.index) → length held.table ≡ l.size.states → l.total + length (joined row_behind (drop l.q held.table)) ≡ length (numbers l.size.tags held.table))
