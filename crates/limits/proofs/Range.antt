-- Limits in their ranges, and 17 for the others.
use Prim.Native.Nat.{ℕ, ◌-◌, ◌≤◌, ◌<◌}
use native.Mathlib.Omega.{arith}
use native.Mathlib.Nat.{mul-le-mul_right}
use mathlib.Core.Path.{◌≡◌, refl, ap}
use mathlib.Core.Bool.{Bool, true, false, not, ◌&&◌}
use borrow.Author.Tests.{leb-true, le-leb, lt-leb, not-true, not-false}
use lib.Dec.{leb}
use Rattle.answers.specs.Outcome.{Outcome, result, refused, nothing, provided}
use Rattle.limits.specs.Limits.{longest_pattern, most_rules, fewest_tags, most_tags, InRange, between, in_range, standard, most_held}
use Rattle.limits.specs.Within.{within}
use Rattle.limits.specs.declared.Limits.{Limits}

both : (a b : Bool) → (a && b) ≡ true → (a ≡ true) × (b ≡ true)
both true true e = (refl, refl)
both true false e = let z : ◌≡◌ {A = ℕ} 0 1 = cc in absurd (omega arith)
both false b e = let z : ◌≡◌ {A = ℕ} 0 1 = cc in absurd (omega arith)

between_true : (least most n : ℕ) → between least most n ≡ true → (least ≤ n) × (n ≤ most)
between_true least most n e = let h = both (leb least n) (leb n most) e in (leb-true least n h.0, leb-true n most h.1)

pub below-least : (least most n : ℕ) → n < least → false ≡ between least most n
below-least least most n h = cc (lt-leb least n h)

pub above-least : (least most n : ℕ) → least ≤ n → leb n most ≡ between least most n
above-least least most n h = cc (le-leb least n h)

-- the test, one limit after the other
module _ (lim : Limits) (p r : Bool) (pattern-is : p ≡ between 1 longest_pattern lim.pattern) (rules-is : r ≡ between 1 most_rules lim.rules) where
  pub rules-out : not p ≡ false → not r ≡ true → false ≡ in_range lim
  rules-out e f = cc (pattern-is, rules-is, not-false p e, not-true r f)

  pub tags_decide : not p ≡ false → not r ≡ false → (t : Bool) → t ≡ between fewest_tags most_tags lim.tags → t ≡ in_range lim
  tags_decide e f t g = cc (pattern-is, rules-is, not-false p e, not-false r f, g)

pub pattern-out : (lim : Limits) (p : Bool) → p ≡ between 1 longest_pattern lim.pattern → not p ≡ true → false ≡ in_range lim
pattern-out lim p g e = cc (g, not-true p e)

pub in_range_lem : (lim : Limits) → in_range lim ≡ true → InRange lim
in_range_lem lim e =
    let h = both (between 1 longest_pattern lim.pattern) (between 1 most_rules lim.rules && between fewest_tags most_tags lim.tags) e in
    let i = both (between 1 most_rules lim.rules) (between fewest_tags most_tags lim.tags) h.1 in
    let p = between_true 1 longest_pattern lim.pattern h.0 in
    let r = between_true 1 most_rules lim.rules i.0 in
    let t = between_true fewest_tags most_tags lim.tags i.1 in
    record { some_pattern = p.0; short_pattern = p.1; some_rules = r.0; few_rules = r.1; some_tags = t.0; few_tags = t.1 }

pub range_in : (lim : Limits) → InRange lim → in_range lim ≡ true
range_in lim r =
    cc (
      le-leb 1 lim.pattern r.some_pattern,
      le-leb lim.pattern longest_pattern r.short_pattern,
      le-leb 1 lim.rules r.some_rules,
      le-leb lim.rules most_rules r.few_rules,
      le-leb fewest_tags lim.tags r.some_tags,
      le-leb lim.tags most_tags r.few_tags,
    )

pub standard_range : InRange standard
standard_range = in_range_lem standard refl

-- 17 is given for limits outside their ranges and for no others
pub within-is : {A : Type 0} (lim : Limits) (o : Outcome A) → InRange lim → within lim o ≡ o
within-is lim o r = ap (λ (b : Bool). provided 17 b o) (range_in lim r)

pub without_is : {A : Type 0} (lim : Limits) (o : Outcome A) → in_range lim ≡ false → within lim o ≡ refused 17 nothing
without_is lim o e = ap (λ (b : Bool). provided 17 b o) e

-- a call that has a result has limits in their ranges
pub within-result : {A : Type 0} (lim : Limits) (o : Outcome A) (x : A) → within lim o ≡ result x → InRange lim × (o ≡ result x)
within-result {A} lim o x = by (in_range lim) refl
  where
    by : (b : Bool) → in_range lim ≡ b → provided 17 b o ≡ result x → InRange lim × (o ≡ result x)
    by true e f = (in_range_lem lim e, f)
    by false e f = let z : ◌≡◌ {A = ℕ} 0 1 = cc in absurd (omega arith)

-- at most 112 tags are held
pub held-few : (lim : Limits) → InRange lim → most_held lim ≤ 112
held-few lim r = let h : lim.pattern - 1 ≤ 7 = omega (arith, r.short_pattern) in mul-le-mul_right most_rules h
