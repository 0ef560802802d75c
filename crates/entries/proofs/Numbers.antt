-- The number of a word, its tags behind the rows, and where a step leads.
use Prim.Native.Nat.{ℕ, zero, suc, ◌+◌, ◌*◌, ◌≤◌, ◌<◌}
use native.Mathlib.Omega.{arith}
use native.Mathlib.Nat.{suc-mul, mul-le-mul}
use mathlib.Core.Path.{◌≡◌, refl, sym, ap}
use mathlib.Core.Bool.{Bool, true, false}
use mathlib.Core.List.{List, []}
use borrow.Author.Tests.{lt-leb}
use lib.ListN.{length}
use Rattle.limits.specs.Limits.{most_tags, most_states}
use Rattle.loaded.specs.Numbers.{behind}

-- how many tags stand behind the rows
pub behind-some : (w : List ℕ) → 3 < length w → length w ≡ length (behind w)
behind-some w h = ap (λ (b : Bool). length {A = ℕ} (elim b [ true ↦ [] | false ↦ w ])) (sym (lt-leb (length w) 3 h))

-- ---- where a step leads

-- the base of a state's steps tells the state
pub base_state : (k p q : ℕ) → p * (k + 1) + 1 ≡ q * (k + 1) + 1 → p ≡ q
base_state k zero zero e = refl
base_state k zero (suc q) e = absurd (omega (arith, suc-mul q (k + 1)))
base_state k (suc p) zero e = absurd (omega (arith, suc-mul p (k + 1)))
base_state k (suc p) (suc q) e = ap suc (base_state k p q (omega (arith, suc-mul p (k + 1), suc-mul q (k + 1))))

-- ---- all rows

-- how many numbers all have
pub rows-most : (s k : ℕ) → s ≤ most_states → k ≤ most_tags → s * (2 * k + 2) ≤ 25088
rows-most s k h g = mul-le-mul {n₁ = s} {m₁ = 2 * k + 2} {n₂ = most_states} {m₂ = 2 * most_tags + 2} (omega arith) (omega arith)
