use mathlib.Core.Path.{◌≡◌}
use mathlib.Core.Bool.{false}
use Rattle.cascades.specs.Rule.{some_has_set}
use Rattle.books.specs.Arrays.{arrays, rules_of}
use Rattle.reader.proofs.some_set.Given as goal

abbrev pub invariant-loop-i : goal.invariant-loop-i
invariant-loop-i l = some_has_set (rules_of (arrays l.rules l.sets) l.i) ≡ false
