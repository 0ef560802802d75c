use Prim.Native.Nat.{◌+◌, ◌*◌, ◌≤◌}
use mathlib.Core.Path.{◌≡◌}
use lib.ListN.{length, take}
use Rattle.tables.specs.Bytes.{tagged}
use Rattle.workspace.specs.Cells.{word}
use Rattle.encoder.specs.Encoding.{BytesWritten}
use Rattle.encoder.proofs.write_word.Given as goal

abbrev pub invariant-loop-i : goal.invariant-loop-i
invariant-loop-i l = (length l.out ≡ length l.initial.out) × (l.to ≡ l.from + 2 * l.i) × (l.from + 2 * l.n ≤ length l.initial.out) × BytesWritten l.initial.out l.out l.from (tagged l.command (take l.i (word l.g l.work l.r l.c l.s))) l.to
