-- The marked lines of document 01, proved together by one computed test.
use Prim.Native.Nat.{ℕ, zero, suc, ◌<◌}
use native.Mathlib.Omega.{arith}
use mathlib.Core.Path.{◌≡◌, refl}
use mathlib.Core.Bool.{Bool, true, false}
use mathlib.Core.List.{List, [], ◌∷◌}
use lib.ListN.{length, get_or}
use Rattle.compilation.specs.Instances.{Instance, holds, instances, all}

pub marked : all instances ≡ true
marked = refl

-- so each of them holds
each : (is : List Instance) (i : ℕ) (d : Instance) → all is ≡ true → i < length is → holds (get_or is i d) ≡ true
each [] i d e h = absurd (omega arith)
each (x ∷ is) i d e h = by (holds x) refl i h e (λ j. each is j d)
  where
    by : (t : Bool) → holds x ≡ t → (i : ℕ) → i < suc (length is) → elim t [ true ↦ all is | false ↦ false ] ≡ true
        → ((j : ℕ) → all is ≡ true → j < length is → holds (get_or is j d) ≡ true) → holds (get_or (x ∷ is) i d) ≡ true
    by true f zero h e r = f
    by true f (suc i) h e r = r i e (omega arith)
    by false f i h e r = let z : ◌≡◌ {A = ℕ} 0 1 = cc in absurd (omega arith)

pub marked-each : (i : ℕ) → i < length instances → (d : Instance) → holds (get_or instances i d) ≡ true
marked-each i h d = each instances i d marked h
