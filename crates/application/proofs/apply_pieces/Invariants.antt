use Prim.Native.Nat.{ℕ, ◌-◌}
use mathlib.Core.List.{List}
use mathlib.Core.Path.{◌≡◌}
use lib.ListN.{length}
use Rattle.words.specs.Parts.{Begun}
use Rattle.words.specs.Pieces.{piecewise}
use Rattle.cascades.specs.Rewrite.{apply_all}
use Rattle.cascades.specs.Rule.{Rule}
use Rattle.books.specs.Arrays.{arrays, rules_of}
use Rattle.traces.specs.Trace.{numbers_of}
use Rattle.books.specs.declared.Rules.{Rules}
use Rattle.application.proofs.apply_pieces.Given as goal

-- what the rules make of each piece, and their numbers there
abbrev pub making : List Rule → ℕ → List ℕ → List ℕ
making rs end = piecewise end (apply_all rs)

abbrev pub numbering : List Rule → ℕ → List ℕ → List ℕ
numbering rs end = piecewise end (numbers_of rs)

abbrev pub rules_in : Rules → List (List ℕ) → ℕ → List Rule
rules_in rules sets m = rules_of (arrays rules sets) m

abbrev pub invariant-loop-from : goal.invariant-loop-from
invariant-loop-from l =
    Begun (making (rules_in l.rules l.sets l.m) l.end) (making (rules_in l.rules l.sets l.m) l.end) l.initial.s l.s l.s l.from
    × (length l.v ≡ length l.initial.v)
    × (length l.initial.v ≡ length l.initial.s → Begun (numbering (rules_in l.rules l.sets l.m) l.end) (numbering (rules_in l.rules l.sets l.m) l.end) l.initial.s l.s l.v l.from)

abbrev pub decreases-loop-from : goal.decreases-loop-from
decreases-loop-from l = length l.s - l.from
