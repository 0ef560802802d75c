-- A table that is built in the first rows of the work slice.
use Rattle.std.specs.Prelude.{ℕ, ◌≤◌, ◌≡◌, List, Result, Ok, Err}
use Rattle.answers.specs.Outcome.{result}
use Rattle.answers.specs.Answer.{refusal}
use Rattle.answers.specs.declared.Refusal.{Refusal}
use Rattle.cascades.specs.Rule.{Cascade}
use Rattle.cascades.specs.Rewrite.{behavior}
use Rattle.transducers.specs.Transducer.{puts}
use Rattle.transducers.specs.Canonical.{Same}
use Rattle.compilation.specs.Compile.{compile_cascade}
use Rattle.workspace.specs.declared.Grid.{Grid}
use Rattle.workspace.specs.Holds.{Ready, table_at, standing}

-- n rows, no more than the ceiling, hold the table of the cascade, which does the same
pub record TableInRows (g : Grid) (W : List ℕ) (ceiling : ℕ) (c : Cascade) (n : ℕ) : Type 0 where
  pub ready : Ready g W 0 n
  pub few : n ≤ ceiling
  pub is : compile_cascade ceiling c ≡ result (table_at g W 0 n)
  pub does : Same g.tags (puts (standing g W 0 n) 0) (behavior c)

abbrev pub BuiltRows : Grid → List ℕ → ℕ → Cascade → Result ℕ Refusal → Type 0
BuiltRows g W ceiling c (Ok n) = TableInRows g W ceiling c n
BuiltRows g W ceiling c (Err r) = compile_cascade ceiling c ≡ refusal r
