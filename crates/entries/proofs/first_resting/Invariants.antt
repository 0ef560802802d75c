use Prim.Native.Nat.{ℕ, ◌+◌, ◌*◌, ◌-◌}
use mathlib.Core.Path.{◌≡◌}
use mathlib.Core.List.{List}
use lib.ListN.{length}
use Rattle.limits.specs.declared.Limits.{Limits}
use Rattle.decoder.specs.Index.{Loaded}
use Rattle.loaded.specs.Numbers.{first_resting}
use Rattle.entries.proofs.first_resting.Given as goal

abbrev pub invariant-loop-q : goal.invariant-loop-q
invariant-loop-q l = (l.cell ≡ l._q * (l.size.tags + 1))
    × ((lim : Limits) (bs : List ℕ) (held : Loaded lim bs l.size.tags l.index) → length held.table ≡ l.size.states → first_resting held.table l.size.states 0 ≡ first_resting held.table (l.size.states - l._q) l._q)
