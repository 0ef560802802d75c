-- What a book's refusal is: a number from 1 to 7, 18 or 19, naming a byte: with limits in their ranges, one that no valid book's end lies before.
use Prim.Native.Nat.{ℕ, zero, suc, ◌+◌, ◌*◌, ◌^◌, ◌≤◌, ◌<◌}
use native.Mathlib.Omega.{arith}
use mathlib.Core.Path.{◌≡◌, refl}
use mathlib.Core.Bool.{Bool, true, false, not, ◌&&◌}
use mathlib.Core.List.{List, [], ◌∷◌}
use borrow.Author.Tests.{leb-true}
use lib.Dec.{eqb, leb, ltb}
use lib.ListN.{length, drop, get_or, length-append}
use Rattle.limits.specs.Limits.{fewest_tags, most_rules, longest_pattern, InRange}
use Rattle.limits.specs.declared.Limits.{Limits}
use Rattle.answers.specs.Outcome.{Outcome, result, refused, nothing, byte, rule, and_then, provided}
use Rattle.cascades.specs.Pattern.{one, any, ones, some_set, word}
use Rattle.cascades.specs.Rule.{Kind, Rule, Cascade}
use Rattle.books.specs.Read.{Stage, opening, size, command, place, new_tag, pattern_tag, set_byte, ended, closing, next_class, next_rule, command_step, opened, longer, take_set_byte, step, read_from, read}
use Rattle.books.proofs.Step.{Part, tag, set, first_of, by_command}

-- the bytes of a rule, and of a book, at most
abbrev rule_bytes : ℕ
rule_bytes = 3 + 7 * longest_pattern

abbrev pub longest_book : ℕ
longest_book = 2 + most_rules * rule_bytes + 1

-- a book's numbers
abbrev pub BookNumber : ℕ → Type 0
BookNumber n = (1 ≤ n) × (n ≤ 19) × (7 < n → 18 ≤ n)

abbrev pub BookRefusal : Limits → Outcome Cascade → Type 0
BookRefusal lim (result c) = Unit {0}
BookRefusal lim (refused n nothing) = ⊥
BookRefusal lim (refused n (byte b)) = BookNumber n × (InRange lim → b ≤ longest_book)
BookRefusal lim (refused n (rule i)) = ⊥

-- a step's refusal is one of them
abbrev Small : {A : Type 0} → Outcome A → Type 0
Small (result x) = Unit {0}
Small (refused n p) = BookNumber n

small-provided : {A : Type 0} (n : ℕ) (t : Bool) (o : Outcome A) → BookNumber n → Small o → Small (provided n t o)
small-provided n true o a s = s
small-provided n false o a s = a

small_then : {A B : Type 0} (o : Outcome A) (f : A → Outcome B) → Small o → ((x : A) → Small (f x)) → Small (and_then o f)
small_then (result x) f s g = g x
small_then (refused n p) f s g = s

-- a number up to 7
early : (n : ℕ) → 1 ≤ n → n ≤ 7 → BookNumber n
early n a b = (a, omega arith, λ h. omega arith)

-- 18 and 19
late : (n : ℕ) → 18 ≤ n → n ≤ 19 → BookNumber n
late n a b = (omega arith, b, λ h. a)

small-closing : (rs : List Rule) → Small (closing rs)
small-closing [] = tt
small-closing (r ∷ rs) =
    let u = r.pattern in
    small-provided 3 (ltb 0 (length u)) _ (early 3 (omega arith) (omega arith))
    (small-provided 5 (ltb r.place (length u)) _ (early 5 (omega arith) (omega arith))
    (small-provided 19 (not (some_set (drop r.place u))) _ (late 19 (omega arith) (omega arith))
    (small-provided 6 (not (eqb (get_or (word u) r.place 0) r.tag)) (result tt) (early 6 (omega arith) (omega arith)) tt)))

module _ (lim : Limits) where
  small-class : (rs : List Rule) (next : Rule → List Rule → Stage) → Small (next_class lim rs next)
  small-class [] next = early 1 (omega arith) (omega arith)
  small-class (r ∷ rs) next = small-provided 3 (ltb (length r.pattern) lim.pattern) (result (next r rs)) (early 3 (omega arith) (omega arith)) tt

  small-rule : (k : ℕ) (kind : Kind) (rs : List Rule) → Small (next_rule lim k kind rs)
  small-rule k kind rs =
      small_then (closing rs) (λ u. provided 7 (ltb (length rs) lim.rules) (result (place k kind rs))) (small-closing rs)
      (λ u. small-provided 7 (ltb (length rs) lim.rules) (result (place k kind rs)) (early 7 (omega arith) (omega arith)) tt)

  small-command : (k : ℕ) (rs : List Rule) (b : ℕ) → Small (command_step lim k rs b)
  small-command k rs b =
      by_command lim Small k rs b (λ e. small_then (closing rs) (λ u. result (ended k rs)) (small-closing rs) (λ u. tt)) (λ kind e. small-rule k kind rs)
      (λ part e. small-class rs (first_of part k)) (early 1 (omega arith) (omega arith))

  small-set : (k : ℕ) (r : Rule) (rs : List Rule) (n s : ℕ) → Small (take_set_byte k r rs n s)
  small-set k r rs zero s =
      small-provided 4 (ltb s (2 ^ k)) _ (early 4 (omega arith) (omega arith))
      (small-provided 18 (leb 2 (ones k s)) (result (command k (longer r (any s) ∷ rs))) (late 18 (omega arith) (omega arith)) tt)
  small-set k r rs (suc n) s = tt

  small-step : (s : Stage) (b : ℕ) → Small (step lim s b)
  small-step opening b = small-provided 1 (eqb b 0x20) (result size) (early 1 (omega arith) (omega arith)) tt
  small-step size b =
      small-provided 2 (leb fewest_tags b && leb b lim.tags) (result (command b [])) (early 2 (omega arith) (omega arith)) tt
  small-step (command k rs) b = small-command k rs b
  small-step (place k kind rs) b = tt
  small-step (new_tag k kind rs p) b = small-provided 4 (ltb b k) (result (command k (opened kind p b ∷ rs))) (early 4 (omega arith) (omega arith)) tt
  small-step (pattern_tag k r rs) b = small-provided 4 (ltb b k) (result (command k (longer r (one b) ∷ rs))) (early 4 (omega arith) (omega arith)) tt
  small-step (set_byte k r rs n s) b =
      small-provided 1 (ltb b 0x100) (take_set_byte k r rs n (s * 0x100 + b)) (early 1 (omega arith) (omega arith)) (small-set k r rs n (s * 0x100 + b))
  small-step (ended k rs) b = early 1 (omega arith) (omega arith)

-- where the byte `at` is next: the rules before the last one have at most so many bytes each
abbrev Reached : Stage → ℕ → Type 0
Reached opening at = at ≡ 0
Reached size at = at ≡ 1
Reached (command k []) at = at ≡ 2
Reached (command k (r ∷ rs)) at = (length rs < most_rules) × (length r.pattern ≤ longest_pattern) × (at ≤ 5 + rule_bytes * length rs + 7 * length r.pattern)
Reached (place k kind rs) at = (length rs < most_rules) × (at ≤ 3 + rule_bytes * length rs)
Reached (new_tag k kind rs p) at = (length rs < most_rules) × (at ≤ 4 + rule_bytes * length rs)
Reached (pattern_tag k r rs) at = (length rs < most_rules) × (length r.pattern < longest_pattern) × (at ≤ 6 + rule_bytes * length rs + 7 * length r.pattern)
Reached (set_byte k r rs n s) at = (length rs < most_rules) × (length r.pattern < longest_pattern) × (at + n ≤ 11 + rule_bytes * length rs + 7 * length r.pattern)
Reached (ended k rs) at = at ≤ longest_book

abbrev ReachedBy : Outcome Stage → ℕ → Type 0
ReachedBy (result s) at = Reached s at
ReachedBy (refused n p) at = Unit {0}

reached-provided : (n : ℕ) (t : Bool) (o : Outcome Stage) (at : ℕ) → (t ≡ true → ReachedBy o at) → ReachedBy (provided n t o) at
reached-provided n true o at h = h refl
reached-provided n false o at h = tt

reached_then : {A : Type 0} (o : Outcome A) (f : A → Outcome Stage) (at : ℕ) → ((x : A) → ReachedBy (f x) at) → ReachedBy (and_then o f) at
reached_then (result x) f at g = g x
reached_then (refused n p) f at g = tt

reached-few : (s : Stage) (at : ℕ) → Reached s at → at ≤ longest_book
reached-few opening at h = omega arith
reached-few size at h = omega arith
reached-few (command k []) at h = omega arith
reached-few (command k (r ∷ rs)) at h = omega (arith, h.0, h.1, h.2)
reached-few (place k kind rs) at h = omega (arith, h.0, h.1)
reached-few (new_tag k kind rs p) at h = omega (arith, h.0, h.1)
reached-few (pattern_tag k r rs) at h = omega (arith, h.0, h.1, h.2)
reached-few (set_byte k r rs n s) at h = omega (arith, h.0, h.1, h.2)
reached-few (ended k rs) at h = h

module _ (lim : Limits) (ranged : InRange lim) where
  module _ (k at : ℕ) where
    reached-end : (rs : List Rule) → Reached (command k rs) at → suc at ≤ longest_book
    reached-end [] h = omega arith
    reached-end (r ∷ rs) h = omega (arith, h.0, h.1, h.2)

    reached-place : (kind : Kind) (rs : List Rule) → Reached (command k rs) at → length rs < most_rules → Reached (place k kind rs) (suc at)
    reached-place kind [] h l = (l, omega arith)
    reached-place kind (r ∷ rs) h l = (l, omega (arith, h.1, h.2))

    reached-part : (part : Part) (rs : List Rule) → Reached (command k rs) at → ReachedBy (next_class lim rs (first_of part k)) (suc at)
    reached-part part [] h = tt
    reached-part tag (r ∷ rs) h =
        reached-provided 3 (ltb (length r.pattern) lim.pattern) (result (pattern_tag k r rs)) (suc at)
        (λ e. (h.0, omega (arith, leb-true (suc (length r.pattern)) lim.pattern e, ranged.short_pattern), omega (arith, h.2)))
    reached-part set (r ∷ rs) h =
        reached-provided 3 (ltb (length r.pattern) lim.pattern) (result (set_byte k r rs 5 0)) (suc at)
        (λ e. (h.0, omega (arith, leb-true (suc (length r.pattern)) lim.pattern e, ranged.short_pattern), omega (arith, h.2)))

    reached-set : (r : Rule) (rs : List Rule) (n s t : ℕ) → Reached (set_byte k r rs n s) at → ReachedBy (take_set_byte k r rs n t) (suc at)
    reached-set r rs zero s t h =
        let n = length-append r.pattern (any t ∷ []) in
        reached-provided 4 (ltb t (2 ^ k)) _ (suc at)
        (λ e. reached-provided 18 (leb 2 (ones k t)) (result (command k (longer r (any t) ∷ rs))) (suc at) (λ f. (h.0, omega (arith, h.1, n), omega (arith, h.2, n))))
    reached-set r rs (suc n) s t h = (h.0, h.1, omega (arith, h.2))

    reached-command : (rs : List Rule) (b : ℕ) → Reached (command k rs) at → ReachedBy (command_step lim k rs b) (suc at)
    reached-command rs b h =
        by_command lim (λ o. ReachedBy o (suc at)) k rs b
        (λ e. reached_then (closing rs) (λ u. result (ended k rs)) (suc at) (λ u. reached-end rs h))
        (λ kind e. reached_then (closing rs) (λ u. provided 7 (ltb (length rs) lim.rules) (result (place k kind rs))) (suc at)
        (λ u. reached-provided 7 (ltb (length rs) lim.rules) (result (place k kind rs)) (suc at)
        (λ l. reached-place kind rs h (omega (arith, leb-true (suc (length rs)) lim.rules l, ranged.few_rules)))))
        (λ part e. reached-part part rs h)
        tt

  reached-step : (s : Stage) (b at : ℕ) → Reached s at → ReachedBy (step lim s b) (suc at)
  reached-step opening b at h = reached-provided 1 (eqb b 0x20) (result size) (suc at) (λ e. omega arith)
  reached-step size b at h =
      reached-provided 2 (leb fewest_tags b && leb b lim.tags) (result (command b [])) (suc at) (λ e. omega arith)
  reached-step (command k rs) b at h = reached-command k at rs b h
  reached-step (place k kind rs) b at h = (h.0, omega (arith, h.1))
  reached-step (new_tag k kind rs p) b at h =
      reached-provided 4 (ltb b k) (result (command k (opened kind p b ∷ rs))) (suc at) (λ e. (h.0, omega arith, omega (arith, h.1)))
  reached-step (pattern_tag k r rs) b at h =
      let n = length-append r.pattern (one b ∷ []) in
      reached-provided 4 (ltb b k) (result (command k (longer r (one b) ∷ rs))) (suc at) (λ e. (h.0, omega (arith, h.1, n), omega (arith, h.2, n)))
  reached-step (set_byte k r rs n s) b at h =
      reached-provided 1 (ltb b 0x100) (take_set_byte k r rs n (s * 0x100 + b)) (suc at) (λ e. reached-set k at r rs n s (s * 0x100 + b) h)
  reached-step (ended k rs) b at h = tt

refusal-from : (lim : Limits) (s : Stage) (at : ℕ) (bs : List ℕ) → (InRange lim → Reached s at) → BookRefusal lim (read_from lim s at bs)
refusal-from lim opening at [] h = (early 1 (omega arith) (omega arith), λ ranged. reached-few opening at (h ranged))
refusal-from lim size at [] h = (early 1 (omega arith) (omega arith), λ ranged. reached-few size at (h ranged))
refusal-from lim (command k rs) at [] h = (early 1 (omega arith) (omega arith), λ ranged. reached-few (command k rs) at (h ranged))
refusal-from lim (place k kind rs) at [] h = (early 1 (omega arith) (omega arith), λ ranged. reached-few (place k kind rs) at (h ranged))
refusal-from lim (new_tag k kind rs p) at [] h = (early 1 (omega arith) (omega arith), λ ranged. reached-few (new_tag k kind rs p) at (h ranged))
refusal-from lim (pattern_tag k r rs) at [] h = (early 1 (omega arith) (omega arith), λ ranged. reached-few (pattern_tag k r rs) at (h ranged))
refusal-from lim (set_byte k r rs n s) at [] h = (early 1 (omega arith) (omega arith), λ ranged. reached-few (set_byte k r rs n s) at (h ranged))
refusal-from lim (ended k rs) at [] h = tt
refusal-from lim s at (b ∷ bs) h = by (step lim s b) (small-step lim s b) (λ ranged. reached-step lim ranged s b at (h ranged)) (λ s' f. refusal-from lim s' (suc at) bs f)
  where
    by : (o : Outcome Stage) → Small o → (InRange lim → ReachedBy o (suc at)) → ((s' : Stage) → (InRange lim → Reached s' (suc at)) → BookRefusal lim (read_from lim s' (suc at) bs))
        → BookRefusal lim (elim o as (λ x. Outcome Cascade) [ result s' ↦ read_from lim s' (suc at) bs | refused m p ↦ refused m (byte at) ])
    by (result s') z f g = g s' f
    by (refused m p) z f g = (z, λ ranged. reached-few s at (h ranged))

pub book_refusal : (lim : Limits) (bytes : List ℕ) → BookRefusal lim (read lim bytes)
book_refusal lim bytes = refusal-from lim opening 0 bytes (λ ranged. refl)
