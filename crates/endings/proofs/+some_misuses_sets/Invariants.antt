use Rattle.endings.proofs.+some_misuses_sets.Given as goal

abbrev pub decreases-some_misuses_sets : goal.decreases-some_misuses_sets
decreases-some_misuses_sets l = l.m
