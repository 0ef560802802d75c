-- Document 01's outcome of an admitted or refused sentence, where `made` is what the run makes of it.
use Rattle.std.specs.Prelude.{ℕ, List, Result, Ok, Err}
use Rattle.answers.specs.Outcome.{Outcome, result}
use Rattle.answers.specs.Answer.{refusal}
use Rattle.answers.specs.declared.Refusal.{Refusal}

-- with room for what is made
abbrev pub admission : Result (Unit {0}) Refusal → List ℕ → Outcome (List ℕ)
admission (Ok u) made = result made
admission (Err r) made = refusal r
