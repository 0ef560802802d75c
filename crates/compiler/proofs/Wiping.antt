-- The work slice is wiped.
use Prim.Native.Nat.{ℕ, zero, suc, ◌+◌, ◌<◌}
use native.Mathlib.Omega.{arith}
use native.Mathlib.Numerals.{add-one}
use mathlib.Core.Path.{◌≡◌, refl, ap}
use mathlib.Core.List.{List, [], ◌∷◌, ◌++◌}
use lib.ListN.{length, drop, replicate, set}

-- one more entry is zero
wiped_suc : (W : List ℕ) (i : ℕ) → i < length W → set (replicate i 0 ++ drop i W) i 0 ≡ replicate (suc i) 0 ++ drop (suc i) W
wiped_suc [] i h = absurd (omega arith)
wiped_suc (x ∷ W) zero h = refl
wiped_suc (x ∷ W) (suc i) h = ap {B = List ℕ} (λ l. 0 ∷ l) (wiped_suc W i (omega arith))

pub wiped-next : (W X : List ℕ) (i : ℕ) → i < length W → X ≡ replicate i 0 ++ drop i W → set X i 0 ≡ replicate (i + 1) 0 ++ drop (i + 1) W
wiped-next W X i h e = cc (e, wiped_suc W i h, add-one i)
