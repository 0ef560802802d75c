-- The masks place by place, a step's operations, and binary lengths by leading zeros.
use Prim.Native.Nat.{ℕ, zero, suc, ◌+◌, ◌-◌, ◌*◌, ◌%◌, ◌^◌, ◌≤◌, ◌<◌}
use native.Mathlib.Omega.{arith}
use native.Mathlib.Nat.{pow-suc}
use native.Mathlib.Decide.{dec_lt}
use native.Mathlib.Numerals.{add-one}
use mathlib.Core.Path.{◌≡◌, sym, ap, ◌∙◌}
use mathlib.Core.List.{List, [], ◌∷◌}
use lib.Bits.{bit_or, and_le_l, and_le_r, or_shifted_r}
use lib.Count.{count_leading_zeros, leading_length}
use lib.ListN.{length, set, take, drop, get_or, length-drop}
use lib.Pow.{pow_mono, shl_exact}
use lib.Seq.{take_all, length-take-le}
use Rattle.limits.specs.Limits.{most_tags}
use Rattle.cascades.specs.Pattern.{Class, accepts}
use Rattle.cascades.specs.Value.{class_of, places}
use Rattle.cascades.proofs.Pattern.{places-length, places-at}
use Rattle.minimal.specs.Bits.{accepting, width}
use Rattle.minimal.proofs.Bits.{accepting-below, width-below, below-width}
use Rattle.alive.specs.Alive.{bit, Masks, Narrow, stepped, Longest}

-- ---- shifts

pub bit-put : (mask j : ℕ) → mask < 2 ^ j → j < 8 → bit_or mask (1 * 2 ^ j % 2 ^ 16) ≡ mask + 1 * 2 ^ j
bit-put mask j h l = ap (bit_or mask) (shl_exact 1 j 16 (omega arith) (omega arith)) ∙ or_shifted_r 1 j mask h ∙ (omega arith)

-- ---- a mask, place by place

accepting-more : (P : List Class) (j a : ℕ) (c : Class) (rest : List Class) → drop j P ≡ c ∷ rest
    → accepting (take j P) a + bit (accepts c a) * 2 ^ j ≡ accepting (take (suc j) P) a
accepting-more [] j a c rest e = absurd (omega (arith, ap length e, length-drop {A = Class} j []))
accepting-more (d ∷ P) zero a c rest e =
    let same : bit (accepts d a) ≡ bit (accepts c a) = cc e in
    omega (arith, same)
accepting-more (d ∷ P) (suc j) a c rest e =
    omega (arith, accepting-more P j a c rest e, ap (λ (x : ℕ). bit (accepts c a) * x) (pow-suc 2 j))

module _ (u ss : List ℕ) (j a : ℕ) where
  abbrev P : List Class
  P = places u ss

  pub mask_below : j ≤ length u → accepting (take j P) a < 2 ^ j
  mask_below h =
      let long : length (take j P) ≡ j = length-take-le j P (omega (arith, places-length u ss)) in
      omega (arith, accepting-below (take j P) a, ap (λ (n : ℕ). 2 ^ n) long)

  pub mask_next : j < length u → (set : ℕ) → set ≡ get_or ss j 0 → accepting (take j P) a + bit (accepts (class_of (get_or u j 0) set) a) * 2 ^ j ≡ accepting (take (j + 1) P) a
  mask_next h set is =
      ap (λ (s : ℕ). accepting (take j P) a + bit (accepts (class_of (get_or u j 0) s) a) * 2 ^ j) is
      ∙ accepting-more P j a (class_of (get_or u j 0) (get_or ss j 0)) (drop (suc j) P) (places-at u ss j h)
      ∙ ap (λ (n : ℕ). accepting (take n P) a) (sym (add-one j))

  pub mask_all : length u ≤ j → accepting (take j P) a ≡ accepting P a
  mask_all h = ap (λ (l : List Class). accepting l a) (take_all j P (omega (arith, places-length u ss)))

-- ---- binary lengths

pub width-leading : (s : ℕ) → s < 2 ^ 16 → Longest s (16 - count_leading_zeros 16 s)
width-leading s h n l =
    let z = leading_length 16 s h in
    let w = width n s in
    by (dec_lt w z.0) z.1 z.2 z.3 (width-below n z.0 s z.2) (below-width n s l)
  where
    by : {m w : ℕ} → Dec (w < m) → count_leading_zeros 16 s + m ≡ 16 → s < 2 ^ m → 2 ^ m ≤ 2 * s + 1 → w ≤ m → s < 2 ^ w → 16 - count_leading_zeros 16 s ≡ w
    by {m} {w} (yes l) e low high le inside = absurd (omega (arith, pow_mono {i = suc w} {j = m} l, pow-suc 2 w))
    by (no l) e low high le inside = omega arith

pub stepped-below : (n s mask : ℕ) → mask < 2 ^ n → stepped s mask < 2 ^ n
stepped-below n s mask h = omega (arith, and_le_r (2 * s + 1) mask)

-- a step makes a match at most one place longer
pub stepped-longest : (n s mask : ℕ) → s < 2 ^ n → width n (stepped s mask) ≤ width n s + 1
stepped-longest n s mask h =
    let w = width n s in
    omega (arith, width-below n (suc w) (stepped s mask) (omega (arith, and_le_l (2 * s + 1) mask, below-width n s h, pow-suc 2 w)))

-- ---- the masks, tag by tag

pub masks_narrow : (P : List Class) (n k : ℕ) (masks : List ℕ) → length P ≡ n → k ≤ most_tags → Masks P k masks → Narrow n k masks
masks_narrow P n k masks long few m =
    record { few = few; below = λ a h. omega (arith, m.entry a h, accepting-below P a, ap (λ (i : ℕ). 2 ^ i) long) }
