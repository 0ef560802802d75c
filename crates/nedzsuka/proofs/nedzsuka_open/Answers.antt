use mathlib.Core.Path.{sym, subst}
use Rattle.limits.specs.Limits.{standard}
use Rattle.answers.specs.Outcome.{Outcome}
use Rattle.packing.specs.Packed.{Legible}
use Rattle.typing.specs.declared.Sentence.{Sentence}
use Rattle.handing.specs.Typing.{opened_as}
use Rattle.handing.proofs.Legible.{legible_open}
use Rattle.nedzsuka.proofs.nedzsuka_open.Goals as goal

pub hand_opened-requires : goal.hand_opened-requires
hand_opened-requires c = subst (λ (o : Outcome Sentence). Legible (opened_as o)) (sym c.«open».ensures) (legible_open standard c.args.table.now)
