use Prim.Native.Nat.{◌-◌, ◌≤◌, ◌<◌}
use mathlib.Core.Path.{◌≡◌}
use lib.ListN.{length, get_or}
use Rattle.limits.specs.Limits.{most_rules}
use Rattle.books.specs.Arrays.{arrays, Shaped}
use Rattle.books.specs.Resume.{read_commands}
use Rattle.reader.proofs.read_plain.Given as goal

abbrev pub invariant-loop-at : goal.invariant-loop-at
invariant-loop-at l = (l.m ≤ most_rules) × (l.at ≤ length l.s) × (l.at < length l.s → get_or l.s l.at 0 ≡ 0x22 → l.m ≡ 0) × Shaped (arrays l.rules l.sets)
    × (read_commands l.lim l.s l.k l.m (arrays l.rules l.sets) l.at ≡ read_commands l.lim l.s l.k 0 (arrays l.initial.rules l.sets) 2)

abbrev pub decreases-loop-at : goal.decreases-loop-at
decreases-loop-at l = length l.s - l.at
