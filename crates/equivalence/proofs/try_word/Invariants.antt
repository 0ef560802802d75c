use mathlib.Core.Path.{◌≡◌}
use lib.ListN.{length}
use Rattle.equivalence.specs.Both.{first, second}
use Rattle.equivalence.specs.Search.{Buffers, Followed}
use Rattle.equivalence.proofs.try_word.Given as goal

abbrev pub invariant-loop-a : goal.invariant-loop-a
invariant-loop-a l = Followed l.both.grid.tags (first l.both) (second l.both) l.both.states l.both.rows l.i l.a l.labels l.pairs l.count
    × Buffers l.one l.two
    × (length l.labels ≡ length l.initial.labels)
    × (length l.pairs ≡ length l.initial.pairs)
    × (length l.one ≡ length l.initial.one)
    × (length l.two ≡ length l.initial.two)
