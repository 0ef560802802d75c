use Rattle.transduction.proofs.+tell_beyond.Given as goal

-- The call of itself is never reached.
abbrev pub decreases-tell_beyond : goal.decreases-tell_beyond
decreases-tell_beyond l = 0
