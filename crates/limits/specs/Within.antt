-- "17: a limit outside its range; before 8": before everything else that a call tests.
use Rattle.answers.specs.Outcome.{Outcome, provided}
use Rattle.limits.specs.Limits.{in_range}
use Rattle.limits.specs.declared.Limits.{Limits}

abbrev pub within : {A : Type 0} → Limits → Outcome A → Outcome A
within lim o = provided 17 (in_range lim) o
