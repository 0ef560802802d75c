use Rattle.application.proofs.+apply_sets.Given as goal

abbrev pub decreases-apply_sets : goal.decreases-apply_sets
decreases-apply_sets l = l.m
