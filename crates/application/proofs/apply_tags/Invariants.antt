use Prim.Native.Nat.{◌+◌}
use mathlib.Core.Path.{◌≡◌}
use lib.ListN.{length, drop}
use Rattle.cascades.specs.Rewrite.{apply_all}
use Rattle.books.specs.Arrays.{arrays, rules_of}
use Rattle.traces.specs.Trace.{beside, trace_from}
use Rattle.application.proofs.apply_tags.Given as goal

abbrev pub invariant-loop-i : goal.invariant-loop-i
invariant-loop-i l = (length l.s ≡ length l.initial.s) × (l.s ≡ apply_all (drop l.from (rules_of (arrays l.rules l.sets) l.i)) l.initial.s) × (length l.v ≡ length l.initial.v)
    × (l.v ≡ (trace_from (l.from + 1) (drop l.from (rules_of (arrays l.rules l.sets) l.i)) (beside l.initial.s l.initial.v)).numbers)
