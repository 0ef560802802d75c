-- The words of a rule's transducer as parts of the pattern.
use Prim.Native.Nat.{ℕ, suc, ◌+◌, ◌-◌, ◌≤◌, ◌<◌, min}
use native.Mathlib.Omega.{arith}
use native.Mathlib.Decide.{dec_lt}
use mathlib.Core.Path.{◌≡◌, sym, ap, ap₂, ◌∙◌}
use mathlib.Core.List.{List, [], ◌∷◌, ◌++◌}
use lib.ListN.{length, take, drop, length-append, drop_of_length-le}
use lib.Seq.{take_all, take-append-le, take-take, length-take-le}
use Rattle.std.proofs.lemmas.List.{drop-take}
use Rattle.minimal.specs.Matcher.{held, said}
use Rattle.minimal.proofs.Matcher.{held_in, said_on}
use Rattle.workspace.specs.Cells.{part}
use Rattle.workspace.proofs.Appending.{part_length}

-- a slice is a part
slice_part : (u : List ℕ) (i j : ℕ) → i ≤ j → take (j - i) (drop i u) ≡ part i j u
slice_part u i j h = let e : i + (j - i) ≡ j = omega arith in sym (drop-take i (j - i) u) ∙ ap (λ (n : ℕ). drop i (take n u)) e

slice_lesser : (u : List ℕ) (p j : ℕ) → j ≤ length u → take (j - min p j) (drop (min p j) u) ≡ part p j u
slice_lesser u p j h = slice_part u (min p j) j (omega arith) ∙ by (dec_lt p j)
  where
    none : (i : ℕ) → j ≤ i → part i j u ≡ []
    none i le = drop_of_length-le (take j u) {i = i} (omega (arith, length-take-le j u h))

    by : Dec (p < j) → part (min p j) j u ≡ part p j u
    by (yes lt) = let e : min p j ≡ p = omega arith in ap (λ (i : ℕ). part i j u) e
    by (no n) = none (min p j) (omega arith) ∙ sym (none p (omega arith))

-- a part of a part from the same place
part-part : (u : List ℕ) (p n j : ℕ) → p + n ≤ j → take n (part p j u) ≡ take (p + n - p) (drop p u)
part-part u p n j h =
    let e : p + (j - p) ≡ j = omega arith in
    let same : n ≡ p + n - p = omega arith in
    ap (take n) (sym (slice_part u p j (omega arith))) ∙ take-take n (j - p) (drop p u) (omega arith) ∙ ap (λ (i : ℕ). take i (drop p u)) same

module _ (u : List ℕ) (p b : ℕ) where
  held-part : (j : ℕ) → j < length u → held u p j ≡ part p j u
  held-part j h = held_in u p b j h

  module _ (j a next : ℕ) where
    module _ (h : j < length u) where
      -- on a mismatch: what was held and the tag, without what is held next
      says_back : next < length u → said u p b j a next ≡ take (suc (length (part p j u)) - length (part p next u)) (part p j u ++ (a ∷ []))
      says_back short =
          said_on u p b j a next h short ∙ ap₂ (λ (x y : List ℕ). take (suc (length x) - length y) (x ++ (a ∷ []))) (held-part j h) (held-part next short)

      pub says_short : next < length u → next ≤ j + 1 → p < next → take (p + (j + 1 - next) - p) (drop p u) ≡ said u p b j a next
      says_short short le lt =
          let n : suc (length (part p j u)) - length (part p next u) ≡ j + 1 - next =
          omega (arith, part_length u p j (omega arith), part_length u p next (omega arith)) in
          sym (says_back short ∙ ap (λ (i : ℕ). take i (part p j u ++ (a ∷ []))) n
          ∙ take-append-le (j + 1 - next) (part p j u) (a ∷ []) (omega (arith, part_length u p j (omega arith)))
          ∙ part-part u p (j + 1 - next) j (omega arith))

      pub says_back_all : next < length u → next ≤ p → (m : ℕ) → m ≡ min p j → take (j - m) (drop m u) ++ (a ∷ []) ≡ said u p b j a next
      says_back_all short le m least =
          let none : length (part p next u) ≡ 0 = omega (arith, part_length u p next (omega arith)) in
          ap (λ (i : ℕ). take (j - i) (drop i u) ++ (a ∷ [])) least
          ∙ ap (λ (l : List ℕ). l ++ (a ∷ [])) (slice_lesser u p j (omega arith))
          ∙ sym (says_back short ∙ take_all (suc (length (part p j u)) - length (part p next u)) (part p j u ++ (a ∷ [])) (omega (arith, none, length-append (part p j u) (a ∷ []))))
