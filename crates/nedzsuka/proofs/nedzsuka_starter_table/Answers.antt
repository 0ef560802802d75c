use mathlib.Core.Path.{sym, subst}
use lib.ListN.{length}
use Rattle.packing.specs.Packed.{Legible}
use Rattle.nedzsuka.proofs.Legible.{legible_starter}
use Rattle.nedzsuka.proofs.nedzsuka_starter_table.Goals as goal

pub pack_answer-requires : goal.pack_answer-requires
pack_answer-requires c = let out = c.args.out.now in
    subst Legible (sym c.write_table-answer.ensures.answer) (legible_starter (length out))
