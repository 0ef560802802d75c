use Prim.Native.Nat.{◌+◌, ◌-◌, ◌≤◌}
use mathlib.Core.Path.{◌≡◌}
use lib.ListN.{length}
use Rattle.agreement.specs.Stored.{Searching}
use Rattle.equivalence.specs.Both.{first, second}
use Rattle.equivalence.specs.Search.{Stored}
use Rattle.equivalence.proofs.seek.Given as goal

abbrev pub invariant-loop-i : goal.invariant-loop-i
invariant-loop-i l = Stored l.both.states l.both.rows l.labels l.pairs
    × Searching l.both.grid.tags (first l.both) (second l.both) l.n l.i 0 l.labels l.pairs
    × (l.i ≤ l.n)
    × (length l.labels ≡ length l.initial.labels)
    × (length l.pairs ≡ length l.initial.pairs)
    × (length l.one ≡ 128)
    × (length l.two ≡ 128)

abbrev pub decreases-loop-i : goal.decreases-loop-i
decreases-loop-i l = (l.both.states + l.both.rows) - l.i
