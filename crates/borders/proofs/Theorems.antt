-- What W3 asks of the borders and of their count, for patterns of any length.
use Prim.Native.Nat.{ℕ, ◌+◌, ◌-◌, ◌*◌, ◌≤◌, ◌<◌}
use native.Mathlib.Omega.{arith}
use mathlib.Core.Path.{◌≡◌, sym, ap, ◌∙◌}
use mathlib.Core.List.{List, ◌++◌, append_assoc}
use lib.ListN.{length, take, drop, length-append, length-drop, take-append-drop}
use lib.Seq.{length-take-le, drop_at, drop-drop}
use Rattle.words.specs.Word.{prefix}
use Rattle.words.specs.Overlap.{overlap}
use Rattle.words.proofs.Word.{prefix-front}
use Rattle.words.proofs.Overlap.{skipped, overlap-split, overlap-most}
use Rattle.borders.specs.Border.{Border, border, comparisons}
use Rattle.borders.proofs.Border.{border-below, counted-some, counted-few}

-- "the longest border of each prefix of a pattern"
module _ (u : List ℕ) (j : ℕ) (some : 0 < j) (inside : j ≤ length u) where
  abbrev w : List ℕ
  w = take j u

  abbrev t : List ℕ
  t = drop 1 w

  w-length : length w ≡ j
  w-length = length-take-le j u inside

  pub border-is : Border u j (border u j)
  border-is =
      let b = overlap u t in
      let split : w ≡ (take 1 w ++ skipped u t) ++ take b u =
      sym (take-append-drop 1 w) ∙ ap (λ (l : List ℕ). take 1 w ++ l) (overlap-split u t) ∙ sym (append_assoc (take 1 w) (skipped u t) (take b u))
      in
      let below = border-below u j some inside in
      let long : length (take 1 w ++ skipped u t) ≡ j - b =
      omega (arith, below, w-length, ap length split, length-append (take 1 w ++ skipped u t) (take b u), length-take-le b u (omega arith))
      in
      record { proper = below; same = ap (drop (j - b)) split ∙ drop_at (take 1 w ++ skipped u t) (take b u) (j - b) long }

  pub border-longest : (b : ℕ) → Border u j b → b ≤ border u j
  border-longest b h =
      let n : j - b ≡ 1 + (j - b - 1) = omega (arith, h.proper) in
      let ends : drop (j - b - 1) t ≡ take b u = drop-drop (j - b - 1) 1 w ∙ ap (λ (i : ℕ). drop i w) (sym n) ∙ h.same in
      omega (arith, h.proper, overlap-most u t (j - b - 1) (ap (λ (l : List ℕ). prefix l u) ends ∙ prefix-front b u), length-drop 1 w, w-length)

-- "at least one for each tag after the first, and in all fewer than twice the pattern's length"
pub few-comparisons : (u : List ℕ) → 0 < length u → (length u - 1 ≤ comparisons u) × (comparisons u < 2 * length u)
few-comparisons u some = (counted-some u (length u - 1), omega (arith, counted-few u (length u - 1) (omega arith)))
