use Prim.Native.Nat.{ℕ}
use mathlib.Core.Path.{◌≡◌}
use mathlib.Core.List.{List}
use lib.ListN.{length}
use lib.Seq.{paste}
use Rattle.steps.specs.Entry.{TagsAt}
use Rattle.transduction.proofs.put_word.Given as goal

abbrev pub invariant-loop-j : goal.invariant-loop-j
invariant-loop-j l = (length l.out ≡ length l.initial.out)
    × ((w : List ℕ) → length w ≡ l.count → TagsAt l.table l.place w → l.out ≡ paste l.initial.out l.at w l.j)
