use Prim.Native.Nat.{◌-◌, ◌≤◌}
use mathlib.Core.Path.{◌≡◌}
use mathlib.Core.List.{List, []}
use lib.ListN.{length, take}
use Rattle.limits.specs.Limits.{longest_pattern}
use Rattle.limits.specs.declared.Limits.{Limits}
use Rattle.cascades.specs.Rule.{Rule}
use Rattle.cascades.specs.Value.{places}
use Rattle.books.specs.Resume.{read_tags}
use Rattle.books.proofs.SoFar.{SoFar}
use Rattle.commands.proofs.read_places.Given as goal

abbrev pub invariant-loop-at : goal.invariant-loop-at
invariant-loop-at l = (l.from ≤ l.at) × (l.at ≤ length l.s) × (l.n ≤ l.most) × (length l.row ≡ longest_pattern) × (length l.sets ≡ longest_pattern) × SoFar l.row l.sets l.n l.last
    × ((lim : Limits) (r : Rule) (rs : List Rule) → lim.pattern ≡ l.most → read_tags lim l.s l.k r rs [] l.from ≡ read_tags lim l.s l.k r rs (places (take l.n l.row) (take l.n l.sets)) l.at)

abbrev pub decreases-loop-at : goal.decreases-loop-at
decreases-loop-at l = length l.s - l.at
