-- Writing a list over another from a place on: in parts, and in two regions.
use Prim.Native.Nat.{ℕ, suc, ◌+◌, ◌≤◌, ◌<◌}
use native.Mathlib.Omega.{arith}
use native.Mathlib.Nat.{add-zero}
use mathlib.Core.Path.{◌≡◌, refl, sym, ap, ◌∙◌}
use mathlib.Core.List.{List, [], ◌∷◌, ◌++◌}
use lib.ListN.{length, set}
use lib.Seq.{set_comm, sets}

-- a list in two parts
pub sets_more : (l : List ℕ) (i : ℕ) (xs ys : List ℕ) → sets l i (xs ++ ys) ≡ sets (sets l i xs) (i + length xs) ys
sets_more l i [] ys = ap (λ (n : ℕ). sets l n ys) (sym (add-zero i))
sets_more l i (x ∷ xs) ys =
    let e : suc i + length xs ≡ i + suc (length xs) = omega arith in
    sets_more (set l i x) (suc i) xs ys ∙ ap (λ (n : ℕ). sets (sets (set l i x) (suc i) xs) n ys) e

-- one number, and a list after it, in either order
pub set-sets : (l : List ℕ) (i x j : ℕ) (ys : List ℕ) → i < j → set (sets l j ys) i x ≡ sets (set l i x) j ys
set-sets l i x j [] h = refl
set-sets l i x j (y ∷ ys) h =
    set-sets (set l j y) i x (suc j) ys (omega arith) ∙ ap (λ (m : List ℕ). sets m (suc j) ys) (set_comm l j i y x (λ e. omega (arith, e)))

-- two regions, one before the other, in either order
pub sets-sets : (l : List ℕ) (i : ℕ) (xs : List ℕ) (j : ℕ) (ys : List ℕ) → i + length xs ≤ j → sets (sets l j ys) i xs ≡ sets (sets l i xs) j ys
sets-sets l i [] j ys h = refl
sets-sets l i (x ∷ xs) j ys h =
    ap (λ (m : List ℕ). sets m (suc i) xs) (set-sets l i x j ys (omega arith)) ∙ sets-sets (set l i x) (suc i) xs j ys (omega arith)
