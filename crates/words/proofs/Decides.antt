-- Laws of tests.
use Prim.Native.Nat.{ℕ}
use native.Mathlib.Omega.{arith}
use mathlib.Core.Path.{◌≡◌}
use mathlib.Core.Bool.{false}
use Rattle.words.specs.Decides.{Decides}

pub decides_no : (P : Type 0) → (P → ⊥) → Decides false P
decides_no P never = record { so = λ e. let z : ◌≡◌ {A = ℕ} 0 1 = cc in absurd (omega arith); not = λ e. never }
