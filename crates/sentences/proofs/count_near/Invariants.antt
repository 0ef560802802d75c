use Prim.Native.Nat.{◌≤◌, ◌+◌}
use mathlib.Core.Path.{◌≡◌}
use lib.ListN.{drop}
use Rattle.words.specs.Word.{differences}
use Rattle.sentences.proofs.count_near.Given as goal

abbrev pub invariant-loop-i : goal.invariant-loop-i
invariant-loop-i l = (l.n + l.from ≤ l.i) × (l.n + differences (drop l.i l.a) (drop l.i l.b) ≡ differences (drop l.from l.a) (drop l.from l.b))
