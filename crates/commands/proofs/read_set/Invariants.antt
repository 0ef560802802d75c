use Prim.Native.Nat.{◌<◌, ◌^◌}
use mathlib.Core.Path.{◌≡◌}
use Rattle.books.specs.Resume.{number_at}
use Rattle.commands.proofs.read_set.Given as goal

abbrev pub invariant-loop-i : goal.invariant-loop-i
invariant-loop-i l = (l.set ≡ number_at l.s l.at l.i) × (l.set < 0x100 ^ l.i)
