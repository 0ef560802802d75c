use Prim.Native.Nat.{ℕ, ◌+◌}
use mathlib.Core.Path.{◌≡◌}
use mathlib.Core.List.{List}
use lib.ListN.{length, drop}
use lib.Seq.{sets}
use Rattle.steps.specs.Entry.{TagsAt}
use Rattle.entries.proofs.put_tags.Given as goal

abbrev pub invariant-loop-j : goal.invariant-loop-j
invariant-loop-j l = (length l.loaded ≡ length l.initial.loaded)
    × ((w : List ℕ) → length w ≡ l.count → TagsAt l.table l.from w → sets l.initial.loaded l.at w ≡ sets l.loaded (l.at + l.j) (drop l.j w))
