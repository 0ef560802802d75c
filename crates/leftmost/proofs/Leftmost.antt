-- The answer: of the part of a sentence, one at most, and 002's leftmost occurrence.
use Prim.Native.Nat.{ℕ, ◌+◌, ◌<◌}
use native.Mathlib.Omega.{arith}
use native.Mathlib.Decide.{dec_lt}
use mathlib.Core.Path.{◌≡◌, refl, sym, ap, ◌∙◌}
use mathlib.Core.Bool.{Bool, true, false, false≢true}
use mathlib.Core.List.{List, ◌++◌}
use lib.ListN.{length, take, drop, length-drop, take-append-drop}
use lib.Seq.{drop-drop, drop-append_seam, take-append-le}
use Rattle.words.specs.Word.{prefix, Prefix}
use Rattle.words.proofs.Word.{prefix-append}
use Rattle.cascades.specs.Leftmost.{OccursAt, Occurs}
use Rattle.places.proofs.Places.{prefix-short}
use Rattle.std.specs.Prelude.{Option, Some, None}
use Rattle.leftmost.specs.Leftmost.{Found}
use Rattle.places.specs.Places.{Free}

-- ---- the part of s from a place on

-- a place of the part is one of s
pub place_is : (begins : List ℕ → Bool) (s : List ℕ) (from i : ℕ) → begins (drop i (drop from s)) ≡ begins (drop (from + i) s)
place_is begins s from i = ap begins (drop-drop i from s)

module _ (u s : List ℕ) (from : ℕ) where
  -- it begins at no place up to b, and has no room from b on
  pub part_free : 0 < length u → (b : ℕ) → Free u s from b → length s < b + length u → Found (prefix u) (drop from s) None
  part_free some b f short i = place_is (prefix u) s from i ∙ by (dec_lt (from + i) b)
    where
      by : Dec (from + i < b) → prefix u (drop (from + i) s) ≡ false
      by (yes l) = f (from + i) (omega arith) l
      by (no l) = prefix-short u (drop (from + i) s) (omega (arith, length-drop (from + i) s))

-- ---- the answer

-- there is one answer at most
module _ (begins : List ℕ → Bool) (s : List ℕ) where
  pub found_one : (r q : Option ℕ) → Found begins s r → Found begins s q → r ≡ q
  found_one (Some i) (Some j) f g = ap {B = Option ℕ} Some (by (dec_lt i j) (dec_lt j i))
    where
      by : Dec (i < j) → Dec (j < i) → i ≡ j
      by (yes h) d = absurd (false≢true (sym (g.least i h) ∙ f.here))
      by (no h) (yes l) = absurd (false≢true (sym (f.least j l) ∙ g.here))
      by (no h) (no l) = omega arith
  found_one (Some i) None f g = absurd (false≢true (sym (g i) ∙ f.here))
  found_one None (Some i) f g = absurd (false≢true (sym (f i) ∙ g.here))
  found_one None None f g = refl

module _ (u s : List ℕ) where
  begins_there : (z : List ℕ) → OccursAt u s z → prefix u (drop (length z) s) ≡ true
  begins_there z o = rw (o.1, drop-append_seam z (u ++ o.0)) (prefix-append u o.0)

  -- the tags before that place are the front of 002's leftmost occurrence: they begin the front of every other
  pub at_leftmost : (i : ℕ) → Found (prefix u) s (Some i) → (z : List ℕ) → OccursAt u s z → Prefix (take i s) z
  at_leftmost i f z o = by (dec_lt (length z) i)
    where
      by : Dec (length z < i) → Prefix (take i s) z
      by (yes h) = absurd (false≢true (sym (f.least (length z) h) ∙ begins_there z o))
      by (no h) =
          record {
            rest = drop i z;
            split = sym (take-append-drop i z) ∙ ap (λ (x : List ℕ). x ++ drop i z) (sym (ap (take i) o.1 ∙ take-append-le i z (u ++ o.0) (omega arith)));
          }

  -- u occurs nowhere, as 002 has it
  pub nowhere-none : Found (prefix u) s None → Occurs u s → ⊥
  nowhere-none f o = false≢true (sym (f (length o.0)) ∙ begins_there o.0 o.1)
