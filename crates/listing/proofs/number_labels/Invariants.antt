use Rattle.listing.proofs.Labels.{Labeling}
use Rattle.listing.proofs.number_labels.Given as goal

abbrev pub invariant-loop-x : goal.invariant-loop-x
invariant-loop-x l = Labeling l.initial.label-items l.label-items (λ y. y) l.x
