use native.Mathlib.Omega.{arith}
use lib.ListN.{length}
use Rattle.limits.specs.Limits.{standard}
use Rattle.tables.proofs.Words.{below_of}
use Rattle.handing.proofs.Legible.{legible_held}
use Rattle.handing.proofs.Handing.{legible_typed}
use Rattle.nedzsuka.proofs.nedzsuka_look.Goals as goal

pub pack_answer-requires : goal.pack_answer-requires
pack_answer-requires c = let a = c.args in
    let bytes = below_of 0x100 a.table.now (λ i. omega (arith, c.type_inv.table i)) in
    legible_typed _ _ _ c.look-typed.result c.look-typed.ensures (legible_held standard a.table.now bytes c.sentence_of-sentence.result (length a.out.now))
