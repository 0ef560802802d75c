use Rattle.limits.specs.declared.Limits.{Limits}
use Rattle.transduction.specs.Parts.{Runnable}
use Rattle.transduction.proofs.Turn.{Going}
use Rattle.transduction.proofs.transduce.Given as goal

abbrev pub invariant-loop-tag : goal.invariant-loop-tag
invariant-loop-tag l = (lim : Limits) → Runnable lim l.table l.index l.sentence l.initial.out → Going lim l.table l.index l.sentence l.initial.out l.out l.tag-index l.at l.base
