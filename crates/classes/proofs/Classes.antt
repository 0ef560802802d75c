-- The test of a pattern with sets, place by place.
use Prim.Native.Nat.{ℕ, suc, ◌+◌, ◌<◌}
use native.Mathlib.Omega.{arith}
use native.Mathlib.Numerals.{add-one}
use mathlib.Core.Path.{◌≡◌, sym, ap, ◌∙◌}
use mathlib.Core.Bool.{true, false}
use mathlib.Core.List.{List, [], ◌∷◌}
use native.Mathlib.Decide.{dec_lt}
use lib.ListN.{length, drop, get_or, length-drop}
use lib.Seq.{drop-cons, drop-length}
use Rattle.cascades.specs.Pattern.{Class, accepts, fits}
use Rattle.cascades.specs.Value.{class_of, places}
use Rattle.cascades.proofs.Pattern.{places-length, places-at, fits-short}
use Rattle.std.specs.Prelude.{None}
use Rattle.leftmost.specs.Leftmost.{Found}
use Rattle.leftmost.proofs.Leftmost.{place_is}

module _ (u ss s : List ℕ) (i j : ℕ) where
  abbrev P : List Class
  P = places u ss

  module _ (h : j < length u) (k : j + i < length s) (set : ℕ) (is : set ≡ get_or ss j 0) where
    here : fits (drop j P) (drop (j + i) s) ≡ fits (class_of (get_or u j 0) set ∷ drop (j + 1) P) (get_or s (j + i) 0 ∷ drop (j + 1 + i) s)
    here =
        let n : suc (j + i) ≡ j + 1 + i = omega arith in
        cc (places-at u ss j h, drop-cons s (j + i) 0 k, is, add-one j, n)

    -- one place accepts its tag, or does not
    pub fits_next : true ≡ accepts (class_of (get_or u j 0) set) (get_or s (j + i) 0) → fits (drop j P) (drop (j + i) s) ≡ fits (drop (j + 1) P) (drop (j + 1 + i) s)
    fits_next e = here ∙ cc e

    pub fits-stops : false ≡ accepts (class_of (get_or u j 0) set) (get_or s (j + i) 0) → fits (drop j P) (drop (j + i) s) ≡ false
    fits-stops e = here ∙ cc e

  -- all places passed
  pub all_fit : j ≡ length u → true ≡ fits (drop j P) (drop (j + i) s)
  all_fit e = let d : drop j P ≡ [] = ap (λ (n : ℕ). drop n P) (e ∙ sym (places-length u ss)) ∙ drop-length P in cc d

-- ---- the places of a part of s, one by one

module _ (u : List Class) (s : List ℕ) (from : ℕ) where
  -- it fits at none of the first, and has no room behind them
  pub part_none : 0 < length u → (count : ℕ) → length s < from + count + length u → ((j : ℕ) → j < count → fits u (drop (from + j) s) ≡ false) → Found (fits u) (drop from s) None
  part_none some count short f i = place_is (fits u) s from i ∙ by (dec_lt i count)
    where
      by : Dec (i < count) → fits u (drop (from + i) s) ≡ false
      by (yes l) = f i l
      by (no l) = fits-short u (drop (from + i) s) (omega (arith, length-drop (from + i) s))
