use native.Mathlib.Omega.{arith}
use mathlib.Core.Path.{sym, subst}
use lib.ListN.{length}
use Rattle.tables.proofs.Words.{below_of}
use Rattle.packing.specs.Packed.{Legible}
use Rattle.nedzsuka.proofs.Legible.{legible_load}
use Rattle.nedzsuka.proofs.nedzsuka_load_table.Goals as goal

pub pack_answer-requires : goal.pack_answer-requires
pack_answer-requires c = let a = c.args in
    let bytes = below_of 0x100 a.table.now (λ i. omega (arith, c.type_inv.table i)) in
    subst Legible (sym c.load_table-answer.ensures.answered) (legible_load a.table.now bytes (length a.loaded.now))
