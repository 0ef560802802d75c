-- Tables: the states of a transducer as rows, with a step for each tag.
use Rattle.std.specs.Prelude.{ℕ, List, [], length, get_or}
use Rattle.transducers.specs.Transducer.{Shape}

-- what is done at one tag: where to go and what to put out
pub record Step : Type 0 where
  pub next : ℕ
  pub output : List ℕ

-- a state: its final word (document 01's held tags) and its steps, one for each tag in order
pub record Row : Type 0 where
  pub final : List ℕ
  pub steps : List Step

abbrev pub Table : Type 0
Table = List Row

abbrev pub no_step : Step
no_step = record { next = 0; output = [] }

abbrev pub no_row : Row
no_row = record { final = []; steps = [] }

abbrev pub row : Table → ℕ → Row
row t q = get_or t q no_row

abbrev pub step : Table → ℕ → ℕ → Step
step t q a = get_or (row t q).steps a no_step

-- the transducer's functions that the rows hold
abbrev pub shape : Table → Shape
shape t =
    record {
      count = length t;
      next = λ q a. (step t q a).next;
      output = λ q a. (step t q a).output;
      final = λ q. (row t q).final;
    }
