use native.Mathlib.Omega.{arith}
use Rattle.tables.proofs.Words.{below_of}
use Rattle.nedzsuka.proofs.Legible.{legible_table_answer}
use Rattle.nedzsuka.proofs.nedzsuka_read_table.Goals as goal

pub pack_table-requires : goal.pack_table-requires
pack_table-requires c = let bs = c.args.table.now in
    let bytes = below_of 0x100 bs (λ i. omega (arith, c.type_inv.table i)) in
    legible_table_answer bs bytes c.read_table.result c.read_table.ensures
