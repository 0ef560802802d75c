-- Rounds come to rest where the size never grows.
use Prim.Native.Nat.{ℕ, zero, suc, ◌≤◌, ◌<◌}
use native.Mathlib.Omega.{arith}
use mathlib.Core.Path.{◌≡◌, refl}
use mathlib.Core.List.{List, [], ◌∷◌}
use mathlib.Core.Bool.{Bool, true, false}
use lib.ListN.{length, get_or}
use lib.Dec.{eqb}
use borrow.Author.Tests.{eqb-true, eqb-false}
use Rattle.transducers.specs.Rounds.{rounds, total}

module _ {A : Type 0} (size : A → ℕ) (f : A → A) (I : A → Type 0) (keep : (l : A) → I l → I (f l)) where
  pub rounds_keep : (n : ℕ) (l : A) → I l → I (rounds size f n l)
  rounds_keep zero l h = h
  rounds_keep (suc n) l h = go (eqb (size (f l)) (size l)) (rounds_keep n (f l) (keep l h))
    where
      go : (b : Bool) → I (rounds size f n (f l)) → I (elim b [ true ↦ l | false ↦ rounds size f n (f l) ])
      go true r = h
      go false r = r

  pub rounds-rest : ((l : A) → I l → size (f l) ≤ size l) → (n : ℕ) (l : A) → I l → size l ≤ n
      → size (f (rounds size f n l)) ≡ size (rounds size f n l)
  rounds-rest down zero l h le = omega (arith, down l h)
  rounds-rest down (suc n) l h le = go (eqb (size (f l)) (size l)) refl (rounds-rest down n (f l) (keep l h))
    where
      Rests : A → Type 0
      Rests r = size (f r) ≡ size r

      go : (b : Bool) → eqb (size (f l)) (size l) ≡ b → (size (f l) ≤ n → Rests (rounds size f n (f l)))
          → Rests (elim b [ true ↦ l | false ↦ rounds size f n (f l) ])
      go true e r = eqb-true (size (f l)) (size l) e
      go false e r = r (omega (arith, down l h, eqb-false (size (f l)) (size l) e))

-- numbers that are nowhere greater have no greater total, and an equal one only if they are equal
pub total_le : (l m : List ℕ) → length l ≡ length m → ((i : ℕ) → i < length l → get_or l i 0 ≤ get_or m i 0) → total l ≤ total m
total_le [] [] e h = omega arith
total_le [] (b ∷ m) e h = absurd (omega arith)
total_le (a ∷ l) [] e h = absurd (omega arith)
total_le (a ∷ l) (b ∷ m) e h = omega (arith, h 0 (omega arith), total_le l m (omega arith) (λ i g. h (suc i) (omega arith)))

pub total-same : (l m : List ℕ) → length l ≡ length m → ((i : ℕ) → i < length l → get_or l i 0 ≤ get_or m i 0) → total l ≡ total m → (i : ℕ)
    → i < length l → get_or l i 0 ≡ get_or m i 0
total-same [] m e h t i g = absurd (omega arith)
total-same (a ∷ l) [] e h t i g = absurd (omega arith)
total-same (a ∷ l) (b ∷ m) e h t zero g = omega (arith, h 0 (omega arith), total_le l m (omega arith) (λ j f. h (suc j) (omega arith)))
total-same (a ∷ l) (b ∷ m) e h t (suc i) g =
    let tails = total_le l m (omega arith) (λ j f. h (suc j) (omega arith)) in
    total-same l m (omega arith) (λ j f. h (suc j) (omega arith)) (omega (arith, h 0 (omega arith))) i (omega arith)
