use Rattle.loader.proofs.+load_beyond.Given as goal

-- The call of itself is never reached.
abbrev pub decreases-load_beyond : goal.decreases-load_beyond
decreases-load_beyond l = 0
