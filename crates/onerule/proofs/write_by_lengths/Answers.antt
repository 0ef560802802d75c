use native.Mathlib.Omega.{arith}
use lib.ListN.{take}
use lib.Seq.{length-take-le}
use Rattle.cascades.specs.Value.{kind_of}
use Rattle.minimal.proofs.OneRule.{states-few}
use Rattle.onerule.proofs.Words.{lengths_within}
use Rattle.onerule.proofs.write_by_lengths.Goals as goal

pub write_states-requires-clause-within : goal.write_states-requires-clause-within
write_states-requires-clause-within c = let a = c.args in
    let r = a.rule in
    lengths_within c.count_states-count.result (take r.length r.row) a.end
    (omega (arith, c.count_states-count.ensures, states-few (kind_of r.everywhere) r.length, length-take-le r.length r.row (omega (arith, c.requires.row_len))))
