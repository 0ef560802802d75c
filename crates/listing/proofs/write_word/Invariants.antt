use Prim.Native.Nat.{ℕ, ◌≤◌, ◌<◌}
use mathlib.Core.Path.{◌≡◌}
use mathlib.Core.List.{List, ◌++◌}
use lib.ListN.{length, drop}
use Rattle.agreement.specs.Stored.{Chained}
use Rattle.listing.proofs.write_word.Given as goal

abbrev pub invariant-loop-at : goal.invariant-loop-at
invariant-loop-at l = (l.at < l.n)
    × (l.left ≤ l.long)
    × (length l.out ≡ length l.initial.out)
    × ((word : ℕ → List ℕ) → Chained l.k l.n word l.pairs → (l.left ≡ length (word l.at)) × (word l.at ++ drop l.left l.out ≡ word l.j ++ drop l.long l.initial.out))

abbrev pub decreases-loop-at : goal.decreases-loop-at
decreases-loop-at l = l.at
