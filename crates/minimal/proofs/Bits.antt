-- The matches still alive as bits are a matcher: the binary length of the state is the longest of them.
use Prim.Native.Nat.{ℕ, zero, suc, ◌+◌, ◌-◌, ◌*◌, ◌/◌, ◌%◌, ◌^◌, ◌≤◌, ◌<◌, min}
use native.Mathlib.Omega.{arith}
use native.Mathlib.Nat.{add-zero, pow-suc, mod-lt, add-mul-mod_self_left, div-add-mod'}
use native.Mathlib.Decide.{dec_lt}
use mathlib.Core.Path.{◌≡◌, refl, sym, ap, ap₂, ◌∙◌, subst}
use mathlib.Core.Bool.{Bool, true, false}
use mathlib.Core.List.{List, [], ◌∷◌, ◌++◌}
use borrow.Author.Tests.{eqb-true, eqb-false}
use lib.Bits.{bit_and, and_step, and_zero_r, and_le_l, and_le_r, and_block, block_half, block_odd}
use lib.Dec.{eqb}
use lib.ListN.{length, get_or, length-append}
use lib.Pow.{pow_pos, pow_mono, split}
use Rattle.cascades.specs.Pattern.{Class, one, accepts, word}
use Rattle.cascades.specs.Rule.{Kind, once, everywhere}
use Rattle.cascades.specs.Ending.{before}
use Rattle.cascades.proofs.Pattern.{word-length}
use Rattle.cascades.proofs.Ending.{no_or}
use Rattle.minimal.specs.Bits.{accepting, width, alive_states, alive_fired, bits}
use Rattle.minimal.proofs.Matcher.{ending, ending-front, ending_le, Fires, Matches}
use Rattle.minimal.proofs.Front.{front, front_snoc}

-- ---- binary lengths

half_below : (s m : ℕ) → s < 2 ^ suc m → s / 2 < 2 ^ m
half_below s m h = omega (arith, pow-suc 2 m)

pub width_le : (n s : ℕ) → width n s ≤ n
width_le zero s = omega arith
width_le (suc n) s = by (eqb s 0) (width_le n (s / 2))
  where
    by : (t : Bool) → width n (s / 2) ≤ n → elim t as (λ x. ℕ) [ true ↦ 0 | false ↦ suc (width n (s / 2)) ] ≤ suc n
    by true h = omega arith
    by false h = omega arith

pub width-zero : (n : ℕ) → width n 0 ≡ 0
width-zero zero = refl
width-zero (suc n) = refl

pub width-below : (n m s : ℕ) → s < 2 ^ m → width n s ≤ m
width-below zero m s h = omega arith
width-below (suc n) m s h = by (eqb s 0) refl m h (λ i. width-below n i (s / 2))
  where
    by : (t : Bool) → eqb s 0 ≡ t → (m : ℕ) → s < 2 ^ m → ((i : ℕ) → s / 2 < 2 ^ i → width n (s / 2) ≤ i)
        → elim t as (λ x. ℕ) [ true ↦ 0 | false ↦ suc (width n (s / 2)) ] ≤ m
    by true e m h rest = omega arith
    by false e zero h rest = absurd (eqb-false s 0 e (omega arith))
    by false e (suc m) h rest = omega (arith, rest m (half_below s m h))

pub below-width : (n s : ℕ) → s < 2 ^ n → s < 2 ^ width n s
below-width zero s h = h
below-width (suc n) s h = by (eqb s 0) refl (below-width n (s / 2) (half_below s n h))
  where
    by : (t : Bool) → eqb s 0 ≡ t → s / 2 < 2 ^ width n (s / 2) → s < 2 ^ elim t as (λ x. ℕ) [ true ↦ 0 | false ↦ suc (width n (s / 2)) ]
    by true e rest = omega (arith, eqb-true s 0 e)
    by false e rest = omega (arith, pow-suc 2 (width n (s / 2)), div-add-mod' s 2)

-- a number with the top bit m has the length suc m
width_is : (n m s : ℕ) → m < n → 2 ^ m ≤ s → s < 2 ^ suc m → width n s ≡ suc m
width_is n m s h low high =
    let inside = below-width n s (omega (arith, pow_mono {i = suc m} {j = n} h)) in
    by (dec_lt m (width n s)) inside (width-below n (suc m) s high)
  where
    by : Dec (m < width n s) → s < 2 ^ width n s → width n s ≤ suc m → width n s ≡ suc m
    by (yes l) inside le = omega arith
    by (no l) inside le = absurd (omega (arith, pow_mono {i = width n s} {j = m} (omega arith)))

pub width_top : (n : ℕ) → 0 < n → width n (2 ^ (n - 1)) ≡ n
width_top n h = width_is n (n - 1) (2 ^ (n - 1)) (omega arith) (omega arith) (omega (arith, pow-suc 2 (n - 1), pow_pos (n - 1))) ∙ (omega arith)

-- a number that is shorter than n has no top bit
pub short-below : (n s : ℕ) → s < 2 ^ n → width n s < n → s < 2 ^ (n - 1)
short-below n s h l = omega (arith, below-width n s h, pow_mono {i = width n s} {j = n - 1} (omega arith))

-- ---- a step

abbrev bit : Bool → ℕ
bit t = elim t [ true ↦ 1 | false ↦ 0 ]

bit-few : (t : Bool) → bit t ≤ 1
bit-few true = omega arith
bit-few false = omega arith

pub accepting-below : (u : List Class) (a : ℕ) → accepting u a < 2 ^ length u
accepting-below [] a = omega arith
accepting-below (c ∷ u) a = omega (arith, accepting-below u a, bit-few (accepts c a), pow-suc 2 (length u))

module _ (u : List Class) (s a : ℕ) where
  abbrev next : ℕ
  next = bit_and (2 * s + 1) (accepting u a)

  pub step-below : next < 2 ^ length u
  step-below = omega (arith, and_le_r (2 * s + 1) (accepting u a), accepting-below u a)

  pub step-longest : s < 2 ^ length u → width (length u) next ≤ suc (width (length u) s)
  step-longest h =
      let w = width (length u) s in
      width-below (length u) (suc w) next (omega (arith, and_le_l (2 * s + 1) (accepting u a), below-width (length u) s h, pow-suc 2 w))

-- the mask and a new top bit
masked : (u : List Class) (a m : ℕ) (t : Bool) (x : ℕ) → m < length u → x < 2 ^ m
    → bit_and (bit t * 2 ^ m + x) (accepting u a) ≡ bit (elim t as (λ y. Bool) [ true ↦ accepts (get_or u m (one 0)) a | false ↦ false ]) * 2 ^ m + bit_and x (accepting u a)
masked [] a m t x h l = absurd (omega arith)
masked (c ∷ u) a zero t x h l = rw (x_is l) (by t (accepts c a))
  where
    x_is : x < 1 → x ≡ 0
    x_is l = omega arith

    by : (t d : Bool) → bit_and (bit t * 1 + 0) (bit d + 2 * accepting u a) ≡ bit (elim t as (λ y. Bool) [ true ↦ d | false ↦ false ]) * 1 + 0
    by false d = refl
    by true true = and_step 1 (1 + 2 * accepting u a) ∙ ap (λ (y : ℕ). 0 + min 1 y) (add-mul-mod_self_left 1 2 (accepting u a))
    by true false = and_step 1 (0 + 2 * accepting u a) ∙ ap (λ (y : ℕ). 0 + min 1 y) (add-mul-mod_self_left 0 2 (accepting u a))
masked (c ∷ u) a (suc m) t x h l =
    let z = bit (accepts c a) + 2 * accepting u a in
    let half : accepting u a ≡ z / 2 = omega (arith, bit-few (accepts c a)) in
    let e = bit (elim t as (λ y. Bool) [ true ↦ accepts (get_or u m (one 0)) a | false ↦ false ]) in
    let rest : bit_and (bit t * 2 ^ m + x / 2) (z / 2) ≡ e * 2 ^ m + bit_and (x / 2) (z / 2) =
    subst (λ (y : ℕ). bit_and (bit t * 2 ^ m + x / 2) y ≡ e * 2 ^ m + bit_and (x / 2) y) half (masked u a m t (x / 2) (omega arith) (half_below x m l)) in
    let whole : bit_and (bit t * 2 ^ suc m + x) z ≡ bit_and (bit t * 2 ^ m + x / 2) (z / 2) * 2 + min (x % 2) (z % 2) =
    and_step (bit t * 2 ^ suc m + x) z ∙ ap₂ (λ (i j : ℕ). bit_and i (z / 2) * 2 + min j (z % 2)) (block_half (bit t) m x) (block_odd (bit t) m x) in
    omega (arith, whole, rest, and_step x z, ap (λ (y : ℕ). e * y) (pow-suc 2 m))

-- ---- the matches still alive

-- at the end of t, longest first
abbrev pub alive : List Class → List ℕ → ℕ
alive u [] = 0
alive u (b ∷ t) = bit (front u (b ∷ t)) * 2 ^ length t + alive u t

bit_le : (t : Bool) (x : ℕ) → bit t * x ≤ x
bit_le true x = omega arith
bit_le false x = omega arith

alive_below : (u : List Class) (t : List ℕ) → alive u t < 2 ^ length t
alive_below u [] = omega arith
alive_below u (b ∷ t) = omega (arith, alive_below u t, bit_le (front u (b ∷ t)) (2 ^ length t), pow-suc 2 (length t))

-- one tag more: shifted, the new start put in, and masked
alive_step : (u : List Class) (a : ℕ) (z : List ℕ) → length z < length u → bit_and (2 * alive u z + 1) (accepting u a) ≡ alive u (z ++ (a ∷ []))
alive_step u a [] h = masked u a 0 true 0 h (omega arith) ∙ ap (λ (t : Bool). bit t * 1 + 0) (sym (front_snoc u [] a h))
alive_step u a (b ∷ z) h =
    let m = suc (length z) in
    let t = front u (b ∷ z) in
    let shifted : 2 * alive u (b ∷ z) + 1 ≡ bit t * 2 ^ m + (2 * alive u z + 1) = omega (arith, ap (λ (x : ℕ). bit t * x) (pow-suc 2 (length z))) in
    let long : length (z ++ (a ∷ [])) ≡ m = length-append z (a ∷ []) ∙ (omega arith) in
    ap (λ (x : ℕ). bit_and x (accepting u a)) shifted
    ∙ masked u a m t (2 * alive u z + 1) h (omega (arith, alive_below u z, pow-suc 2 (length z)))
    ∙ ap₂ (λ (c : Bool) (x : ℕ). bit c * 2 ^ m + x) (sym (front_snoc u (b ∷ z) a h)) (alive_step u a z (omega arith))
    ∙ ap (λ (i : ℕ). bit (front u (b ∷ (z ++ (a ∷ [])))) * 2 ^ i + alive u (z ++ (a ∷ []))) (sym long)

-- it is that of the longest end that matches, whose length is its binary length
alive_ending : (u : List Class) (t : List ℕ) → alive u t ≡ alive u (ending (front u) t)
alive_ending u [] = refl
alive_ending u (b ∷ t) = by (front u (b ∷ t)) refl (alive_ending u t)
  where
    by : (c : Bool) → front u (b ∷ t) ≡ c → alive u t ≡ alive u (ending (front u) t)
        → alive u (b ∷ t) ≡ alive u (elim c as (λ x. List ℕ) [ true ↦ b ∷ t | false ↦ ending (front u) t ])
    by true e rest = refl
    by false e rest = omega (arith, ap (λ (x : Bool). bit x * 2 ^ length t) e)

alive_front : (u : List Class) (z : List ℕ) → front u z ≡ true → length z ≤ length u → width (length u) (alive u z) ≡ length z
alive_front u [] e h = width-zero (length u)
alive_front u (b ∷ z) e h =
    let is : alive u (b ∷ z) ≡ 1 * 2 ^ length z + alive u z = ap (λ (t : Bool). bit t * 2 ^ length z + alive u z) e in
    width_is (length u) (length z) (alive u (b ∷ z)) h (omega arith) (omega (arith, alive_below u z, pow-suc 2 (length z)))

-- ---- the matcher

alive_few : (k : Kind) (n : ℕ) → 2 ^ (n - 1) ≤ alive_states k n
alive_few once n = omega arith
alive_few everywhere n = omega arith

pub alive_most : (k : Kind) (n : ℕ) → alive_states k n ≤ suc (2 ^ (n - 1))
alive_most once n = omega arith
alive_most everywhere n = omega arith

-- every state has at most n bits
pub state-below : (k : Kind) (n s : ℕ) → 0 < n → s < alive_states k n → s < 2 ^ n
state-below k n s h l =
    let one_more : suc (n - 1) ≡ n = omega arith in
    omega (arith, alive_most k n, pow_pos (n - 1), pow-suc 2 (n - 1), ap (λ (i : ℕ). 2 ^ i) one_more)

alive_fired_lem : (k : Kind) (n : ℕ) → alive_fired k n < alive_states k n
alive_fired_lem once n = omega arith
alive_fired_lem everywhere n = pow_pos (n - 1)

pub fires_bits : (k : Kind) (u : List Class) → 0 < length u → Fires k (length (word u)) (bits k u)
fires_bits once u h = width_top (length u) h ∙ sym (word-length u)
fires_bits everywhere u h = refl

module _ (k : Kind) (u : List Class) (some : 0 < length u) where
  long : length (word u) ≡ length u
  long = word-length u

  steps-bits : (z : List ℕ) (a : ℕ) → length z < length u → bit_and (2 * alive u z + 1) (accepting u a) ≡ alive u (ending (front u) (z ++ (a ∷ [])))
  steps-bits z a h = alive_step u a z h ∙ alive_ending u (z ++ (a ∷ []))

  pub matches_bits : Matches k (word u) (front u) (bits k u) (alive u)
  matches_bits =
      record {
        start = refl;
        codes = λ z e h. alive_front u z e (omega (arith, long));
        steps = λ z a e h.
            let t = z ++ (a ∷ []) in
            let l : length z < length u = omega (arith, long) in (
              ap (width (length u)) (steps-bits z a l)
                  ∙ alive_front u (ending (front u) t) (ending-front (front u) refl t) (omega (arith, ending_le (front u) t, length-append z (a ∷ []))),
              λ m. steps-bits z a l,
            );
        some = omega (arith, alive_few k (length u), pow_pos (length u - 1));
        low = width-zero (length u);
        few = λ s h. omega (arith, width_le (length u) s, long);
        one_more = λ s a h l. (
          step-longest u s a (state-below k (length u) s some h),
          omega (arith, width_le (length u) (bit_and (2 * s + 1) (accepting u a)), long),
        );
        step-below = λ s a h l m.
            omega (arith, short-below (length u) (bit_and (2 * s + 1) (accepting u a)) (step-below u s a) (omega (arith, long)), alive_few k (length u));
        fired-below = alive_fired_lem k (length u);
        fires = fires_bits k u some;
      }

-- ---- on an end tag all is matched, or nothing

-- only the last place may accept it
accepting-last : (e m : ℕ) (u : List Class) → length u ≡ suc m → before e u ≡ false → (d : ℕ) × (accepting u e ≡ d * 2 ^ m)
accepting-last e m [] h free = absurd (omega arith)
accepting-last e zero (c ∷ []) h free = (bit (accepts c e), omega arith)
accepting-last e (suc m) (c ∷ []) h free = absurd (omega arith)
accepting-last e zero (c ∷ d ∷ u) h free = absurd (omega arith)
accepting-last e (suc m) (c ∷ d ∷ u) h free =
    let f = no_or (accepts c e) (before e (d ∷ u)) free in
    let rest = accepting-last e m (d ∷ u) (omega arith) f.1 in
    (rest.0, omega (arith, ap bit f.0, rest.1, ap (λ (x : ℕ). rest.0 * x) (pow-suc 2 m)))

pub bits_none : (e : ℕ) (u : List Class) → before e u ≡ false → (s : ℕ) → width (length u) (bit_and s (accepting u e)) < length u
    → width (length u) (bit_and s (accepting u e)) ≡ 0
bits_none e u free s h =
    let m = length u - 1 in
    let x = bit_and s (accepting u e) in
    let last = accepting-last e m u (omega arith) free in
    let top : x ≡ bit_and (s / 2 ^ m) last.0 * 2 ^ m =
    ap₂ bit_and (sym (split s m)) (last.1 ∙ sym (add-zero (last.0 * 2 ^ m)))
    ∙ and_block m (s / 2 ^ m) last.0 (s % 2 ^ m) 0 (mod-lt s (pow_pos m)) (pow_pos m)
    ∙ ap (λ (y : ℕ). bit_and (s / 2 ^ m) last.0 * 2 ^ m + y) (and_zero_r (s % 2 ^ m))
    ∙ add-zero (bit_and (s / 2 ^ m) last.0 * 2 ^ m)
    in
    let low : x < 2 ^ m = short-below (length u) x (omega (arith, and_le_r s (accepting u e), accepting-below u e)) h in
    ap (width (length u)) (top ∙ none (bit_and (s / 2 ^ m) last.0) (2 ^ m) (omega (arith, top))) ∙ width-zero (length u)
  where
    none : (c p : ℕ) → c * p < p → c * p ≡ 0
    none zero p l = omega arith
    none (suc c) p l = absurd (omega arith)
