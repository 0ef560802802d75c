use mathlib.Core.Path.{sym, subst}
use lib.ListN.{length}
use Rattle.packing.specs.Packed.{Legible}
use Rattle.nedzsuka.proofs.Legible.{legible_loaded}
use Rattle.nedzsuka.proofs.nedzsuka_run_loaded.Goals as goal

pub pack_answer-requires : goal.pack_answer-requires
pack_answer-requires c = let a = c.args in
    subst Legible (sym c.run_loaded-answer.ensures.answered) (legible_loaded a.loaded.now a.sentence.now (length a.out.now))
