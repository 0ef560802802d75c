use mathlib.Core.Path.{sym, subst}
use lib.ListN.{length}
use Rattle.limits.specs.Limits.{standard}
use Rattle.packing.specs.Packed.{Legible}
use Rattle.nedzsuka.proofs.Legible.{legible_compile}
use Rattle.nedzsuka.proofs.nedzsuka_compile_ending.Goals as goal

pub pack_answer-requires : goal.pack_answer-requires
pack_answer-requires c = let a = c.args in
    subst Legible (sym c.compile_ending-answer.ensures.answer) (legible_compile standard a.book.now a.end a.ceiling (length a.work.now) (length a.out.now))
