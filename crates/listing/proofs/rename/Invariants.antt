use Rattle.agreement.specs.Search.{renamed}
use Rattle.agreement.specs.Stored.{label_at}
use Rattle.listing.proofs.Labels.{Labeling}
use Rattle.listing.proofs.rename.Given as goal

abbrev pub invariant-loop-label : goal.invariant-loop-label
invariant-loop-label l = Labeling l.initial.label-items l.label-items (λ y. renamed l.one l.other (label_at l.initial.label-items y)) l.label-index
