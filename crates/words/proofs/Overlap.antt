-- Laws of overlaps.
use Prim.Native.Nat.{ℕ, zero, suc, ◌-◌, ◌≤◌}
use native.Mathlib.Omega.{arith}
use mathlib.Core.Path.{◌≡◌, refl, sym, ap}
use mathlib.Core.List.{List, [], ◌∷◌, ◌++◌}
use mathlib.Core.Bool.{Bool, true, false}
use lib.ListN.{length, take, drop}
use lib.Seq.{take-append_seam}
use Rattle.words.specs.Word.{prefix}
use Rattle.words.specs.Overlap.{overlap}
use Rattle.words.proofs.Word.{prefix-split, prefix-length}

-- what stands before the overlap in t
abbrev pub skipped : List ℕ → List ℕ → List ℕ
skipped u [] = []
skipped u (b ∷ t) = elim (prefix (b ∷ t) u) [ true ↦ [] | false ↦ b ∷ skipped u t ]

-- the overlap ends the one word and begins the other
pub overlap-split : (u t : List ℕ) → t ≡ skipped u t ++ take (overlap u t) u
overlap-split u [] = refl
overlap-split u (b ∷ t) = go (prefix (b ∷ t) u) refl (overlap-split u t)
  where
    go : (c : Bool) → prefix (b ∷ t) u ≡ c → t ≡ skipped u t ++ take (overlap u t) u
        → b ∷ t ≡ elim c [ true ↦ [] | false ↦ b ∷ skipped u t ] ++ take (elim c [ true ↦ suc (length t) | false ↦ overlap u t ]) u
    go true e h = sym (rw (prefix-split (b ∷ t) u e) (take-append_seam (b ∷ t) (drop (length (b ∷ t)) u)))
    go false e h = ap {B = List ℕ} (λ l. b ∷ l) h

pub overlap_le : (u t : List ℕ) → (overlap u t ≤ length t) × (overlap u t ≤ length u)
overlap_le u [] = omega arith
overlap_le u (b ∷ t) = go (prefix (b ∷ t) u) refl (overlap_le u t)
  where
    go : (c : Bool) → prefix (b ∷ t) u ≡ c → (overlap u t ≤ length t) × (overlap u t ≤ length u)
        → (elim c [ true ↦ suc (length t) | false ↦ overlap u t ] ≤ suc (length t)) × (elim c [ true ↦ suc (length t) | false ↦ overlap u t ] ≤ length u)
    go true e h = omega (arith, prefix-length (b ∷ t) u e)
    go false e h = omega arith

-- a prefix overlaps whole
pub overlap-prefix : (u t : List ℕ) → prefix t u ≡ true → overlap u t ≡ length t
overlap-prefix u [] h = refl
overlap-prefix u (b ∷ t) h = rw (h, overlap)

-- no end of t that begins u is longer
pub overlap-most : (u t : List ℕ) (i : ℕ) → prefix (drop i t) u ≡ true → length t - i ≤ overlap u t
overlap-most u [] i h = omega arith
overlap-most u (b ∷ t) zero h = omega (arith, overlap-prefix u (b ∷ t) h)
overlap-most u (b ∷ t) (suc i) h = by (prefix (b ∷ t) u) (overlap-most u t i h)
  where
    by : (c : Bool) → length t - i ≤ overlap u t → suc (length t) - suc i ≤ elim c [ true ↦ suc (length t) | false ↦ overlap u t ]
    by true l = omega arith
    by false l = omega arith
