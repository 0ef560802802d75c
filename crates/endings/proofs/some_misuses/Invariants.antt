use mathlib.Core.Path.{◌≡◌}
use mathlib.Core.Bool.{false}
use Rattle.cascades.specs.Ending.{some_misused}
use Rattle.books.specs.Arrays.{arrays, rules_of}
use Rattle.endings.proofs.some_misuses.Given as goal

abbrev pub invariant-loop-i : goal.invariant-loop-i
invariant-loop-i l = some_misused l.end (rules_of (arrays l.rules l.sets) l.i) ≡ false
