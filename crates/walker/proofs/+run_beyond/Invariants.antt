use Rattle.walker.proofs.+run_beyond.Given as goal

-- The call of itself is never reached.
abbrev pub decreases-run_beyond : goal.decreases-run_beyond
decreases-run_beyond l = 0
