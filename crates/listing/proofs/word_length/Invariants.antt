use Prim.Native.Nat.{ℕ, ◌+◌, ◌≤◌, ◌<◌}
use mathlib.Core.Path.{◌≡◌}
use mathlib.Core.List.{List}
use lib.ListN.{length}
use Rattle.agreement.specs.Stored.{Chained}
use Rattle.listing.proofs.word_length.Given as goal

abbrev pub invariant-loop-at : goal.invariant-loop-at
invariant-loop-at l = (l.at < l.n) × (l.long + l.at ≤ l.j) × ((word : ℕ → List ℕ) → Chained l.k l.n word l.pairs → l.long + length (word l.at) ≡ length (word l.j))

abbrev pub decreases-loop-at : goal.decreases-loop-at
decreases-loop-at l = l.at
