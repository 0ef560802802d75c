use Prim.Native.Nat.{◌+◌}
use mathlib.Core.Path.{◌≡◌}
use lib.ListN.{drop}
use Rattle.words.specs.Word.{prefix}
use Rattle.places.proofs.begins.Given as goal

abbrev pub invariant-loop-j : goal.invariant-loop-j
invariant-loop-j l = prefix (drop l.j l.u) (drop (l.j + l.i) l.s) ≡ prefix l.u (drop l.i l.s)
