-- The run of a loaded table, after the tests of the sentence.
use Rattle.std.specs.Prelude.{ℕ, List}
use Rattle.answers.specs.Outcome.{Outcome, and_then}
use Rattle.loaded.specs.Run.{way, sound}

-- the run of a sentence that is not refused
abbrev pub way_run : List ℕ → ℕ → List ℕ → Outcome (List ℕ)
way_run ns k sentence = and_then (way ns k 1 sentence) (sound k sentence)
