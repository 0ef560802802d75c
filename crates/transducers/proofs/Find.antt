-- Laws of the search in a list.
use Prim.Native.Nat.{ℕ, zero, suc, ◌≤◌, ◌<◌}
use native.Mathlib.Omega.{arith}
use mathlib.Core.Path.{◌≡◌, refl, sym, ◌∙◌}
use mathlib.Core.List.{List, [], ◌∷◌}
use mathlib.Core.Bool.{Bool, true, false, false≢true}
use lib.ListN.{length, get_or}
use Rattle.transducers.specs.Find.{find}

module _ {A : Type 0} (p : A → Bool) (d : A) where
  -- what is found passes
  pub find-hit : (l : List A) → find p l < length l → p (get_or l (find p l) d) ≡ true
  find-hit [] h = absurd (omega arith)
  find-hit (y ∷ l) h = go (p y) refl h (find-hit l)
    where
      at : Bool → ℕ
      at b = elim b [ true ↦ 0 | false ↦ suc (find p l) ]

      go : (b : Bool) → p y ≡ b → at b < suc (length l) → (find p l < length l → p (get_or l (find p l) d) ≡ true) → p (get_or (y ∷ l) (at b) d) ≡ true
      go true e h rest = e
      go false e h rest = rest (omega arith)

  -- nothing that passes stands before
  pub find_first : (l : List A) (i : ℕ) → i < length l → p (get_or l i d) ≡ true → find p l ≤ i
  find_first [] i h g = absurd (omega arith)
  find_first (y ∷ l) i h g = go (p y) refl i h g (find_first l)
    where
      go : (b : Bool) → p y ≡ b → (i : ℕ) → i < suc (length l) → p (get_or (y ∷ l) i d) ≡ true
          → ((i : ℕ) → i < length l → p (get_or l i d) ≡ true → find p l ≤ i) → elim b [ true ↦ 0 | false ↦ suc (find p l) ] ≤ i
      go true e i h g rest = omega arith
      go false e zero h g rest = absurd (false≢true (sym e ∙ g))
      go false e (suc i) h g rest = omega (arith, rest i (omega arith) g)
