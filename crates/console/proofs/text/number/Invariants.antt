use Rattle.std.proofs.Common.{◌≤◌}
use Rattle.console.proofs.text.number.Given as goal

abbrev pub invariant-loop-byte : goal.invariant-loop-byte
invariant-loop-byte l = l.n ≤ l.most
