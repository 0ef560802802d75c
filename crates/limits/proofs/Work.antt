-- The parts of the work slice have room for what they hold, and the slice is not too long for numbers.
use Prim.Native.Nat.{ℕ, ◌+◌, ◌-◌, ◌*◌, ◌%◌, ◌^◌, ◌≤◌, ◌<◌}
use native.Mathlib.Omega.{arith}
use native.Mathlib.Nat.{mul-le-mul_left, mod-eq_of_lt}
use mathlib.Core.Path.{◌≡◌, refl, ap, ◌∙◌}
use mathlib.Core.Bool.{Bool, true, false}
use lib.Pow.{pow_mono}
use Rattle.limits.specs.Limits.{longest_pattern, most_rules, most_states, standard, InRange}
use Rattle.limits.specs.declared.Limits.{Limits}
use Rattle.limits.specs.Work.{rule_states, rule_rows, work_rows, work_depth, work_entries}

-- a composition of n and m states
pub composition_fits : (s ceiling n m : ℕ) → n ≤ ceiling → m ≤ s → ceiling + n * m ≤ rule_rows s ceiling
composition_fits s ceiling n m few short = omega (arith, mul-le-mul_left n short, mul-le-mul_left s few)

pub rule_fits : (s ceiling : ℕ) → 1 ≤ ceiling → rule_rows s ceiling + s ≤ work_rows s ceiling
rule_fits s ceiling some = omega (arith, mul-le-mul_left s some)

-- what i rules hold, and one more
pub deep_enough : (h i m : ℕ) → i < m → h * i + h + 8 ≤ work_depth h m
deep_enough h i m less = let more : i + 1 ≤ m = omega arith in omega (arith, mul-le-mul_left h more)

-- the states of a rule's transducer are at most 129
pub states_most : (lim : Limits) (sets : Bool) → InRange lim → rule_states lim sets ≤ 129
states_most lim true ranged = let short : lim.pattern - 1 ≤ 7 = omega (arith, ranged.short_pattern) in omega (arith, pow_mono short)
states_most lim false ranged = omega (arith, ranged.short_pattern)

-- a shift by so few places loses nothing
pub one_shifted : (n : ℕ) → n ≤ 7 → 1 * 2 ^ n % 2 ^ 64 ≡ 2 ^ n
one_shifted n h =
    let is : 1 * 2 ^ n ≡ 2 ^ n = omega arith in
    ap (λ (x : ℕ). x % 2 ^ 64) is ∙ mod-eq_of_lt (omega (arith, pow_mono h))

-- the numbers of rows, of rows before the rule's, of entries of a cell
pub few-rows : (s ceiling : ℕ) → s ≤ 129 → ceiling ≤ most_states → work_rows s ceiling ≤ 66560
few-rows s ceiling short few = omega (arith, mul-le-mul_left s few)

pub few_states : (s ceiling : ℕ) → s ≤ 129 → ceiling ≤ most_states → rule_rows s ceiling ≤ 33280
few_states s ceiling short few = omega (arith, mul-le-mul_left s few)

pub not-deep : (h m : ℕ) → h ≤ longest_pattern - 1 → m ≤ most_rules → work_depth h m ≤ 120
not-deep h m short few = omega (arith, mul-le-mul_left h few)

-- with the old numbers it is document 01's slice, and with a set document 02's
pub as_before : (n k m : ℕ) → work_entries standard false n k m ≡ 16 * n * (k + 1) * (5 * m + 8)
as_before n k m = refl

pub with_set : (n k m : ℕ) → work_entries standard true n k m ≡ 68 * n * (k + 1) * (5 * m + 8)
with_set n k m = refl
