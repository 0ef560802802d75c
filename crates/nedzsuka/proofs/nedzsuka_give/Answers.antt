use native.Mathlib.Omega.{arith}
use lib.ListN.{length}
use Rattle.limits.specs.Limits.{standard}
use Rattle.tables.proofs.Words.{below_of}
use Rattle.handing.proofs.Legible.{legible_give}
use Rattle.handing.proofs.Handing.{legible_typed}
use Rattle.nedzsuka.proofs.nedzsuka_give.Goals as goal

pub hand_on-requires : goal.hand_on-requires
hand_on-requires c = let a = c.args in
    let sentence = c.sentence_of-sentence.result in
    let bytes = below_of 0x100 a.table.now (λ i. omega (arith, c.type_inv.table i)) in
    legible_typed _ _ _ c.give-typed.result c.give-typed.ensures (legible_give standard a.table.now bytes sentence (length a.out.now) _)
