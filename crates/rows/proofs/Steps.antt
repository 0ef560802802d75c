-- The entry of a step: how many tags are put out, and where they stand.
use Prim.Native.Nat.{ℕ}
use native.Mathlib.Omega.{arith}
use mathlib.Core.Path.{◌≡◌}
use mathlib.Core.List.{List}
use lib.ListN.{length}
use Rattle.transducers.specs.Table.{Step}
use Rattle.steps.specs.Entry.{count_of}
use Rattle.rows.specs.Parts.{StepIs}

module _ (bs : List ℕ) (k : ℕ) (s : Step) (e : ℕ) (is : StepIs bs k s e) where
  pub step_count : count_of e ≡ length s.output
  step_count = omega (arith, is.entry.count_is, is.short)
