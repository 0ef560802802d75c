use mathlib.Core.Path.{sym, subst}
use lib.ListN.{length}
use Rattle.packing.specs.Packed.{Legible}
use Rattle.nedzsuka.proofs.Legible.{legible_table}
use Rattle.nedzsuka.proofs.nedzsuka_run_table_within.Goals as goal

pub pack_answer-requires : goal.pack_answer-requires
pack_answer-requires c = let a = c.args in
    subst Legible (sym c.run_table-answer.ensures.answered) (legible_table c.limits_of-lim.result a.table.now a.sentence.now (length a.out.now))
