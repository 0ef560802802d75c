use Rattle.std.proofs.Common.{◌≡◌, max, drop}
use Rattle.sentences.specs.Run.{highest}
use Rattle.sentences.proofs.highest_of.Given as goal

abbrev pub invariant-loop-a : goal.invariant-loop-a
invariant-loop-a l = max l.top (highest (drop l.a-index l.s)) ≡ highest l.s
