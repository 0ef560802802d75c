use Rattle.workspace.specs.Cells.{word}
use Rattle.words.specs.Front.{meet}
use lib.ListN.{length, take, drop}
use mathlib.Core.Path.{◌≡◌}
use Prim.Native.Nat.{◌+◌}
use Rattle.workspace.proofs.common.Given as goal

abbrev pub invariant-loop-i : goal.invariant-loop-i
invariant-loop-i l = length (meet (drop l.from (word l.g l.work l.r l.c l.s)) (take l.limit (word l.g l.work l.r2 l.c2 l.s2))) ≡ l.i + length (meet (drop (l.from + l.i) (word l.g l.work l.r l.c l.s)) (drop l.i (take l.limit (word l.g l.work l.r2 l.c2 l.s2))))
