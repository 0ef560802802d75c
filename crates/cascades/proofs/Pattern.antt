-- Laws of patterns: the test at a place, and patterns without sets.
use Prim.Native.Nat.{ℕ, zero, suc, ◌/◌, ◌^◌, ◌≤◌, ◌<◌}
use native.Mathlib.Omega.{arith}
use native.Mathlib.Nat.{lt_of_lt_of_le, div-eq_of_lt}
use mathlib.Core.Path.{◌≡◌, refl, sym, ap, ◌∙◌, subst}
use mathlib.Core.Bool.{Bool, true, false, false≢true}
use mathlib.Core.List.{List, [], ◌∷◌, ◌++◌}
use borrow.Author.Tests.{eq-eqb, eqb-true}
use lib.Dec.{eqb}
use lib.ListN.{length, take, drop, get_or}
use lib.Pow.{pow_mono}
use lib.Seq.{get_or-take}
use Rattle.words.specs.Word.{prefix}
use Rattle.cascades.specs.Pattern.{Class, one, any, member, accepts, fits, some_set, word, plain}
use Rattle.cascades.specs.Value.{class_of, places, last_set, rule_of}
use Rattle.cascades.specs.declared.Rule.{Rule as Value}
use Rattle.cascades.specs.Leftmost.{Match}

-- a tag that is none of k is in no set of them
pub member_outside : (s k a : ℕ) → s < 2 ^ k → k ≤ a → member s a ≡ false
member_outside s k a h l =
    let none : s / 2 ^ a ≡ 0 = div-eq_of_lt (lt_of_lt_of_le h (pow_mono l)) in
    cc none

pub word-length : (u : List Class) → length (word u) ≡ length u
word-length [] = refl
word-length (one a ∷ u) = ap suc (word-length u)
word-length (any s ∷ u) = ap suc (word-length u)

pub plain-length : (u : List ℕ) → length (plain u) ≡ length u
plain-length [] = refl
plain-length (a ∷ u) = ap suc (plain-length u)

pub word-plain : (u : List ℕ) → word (plain u) ≡ u
word-plain [] = refl
word-plain (a ∷ u) = ap (λ (x : List ℕ). a ∷ x) (word-plain u)

-- a pattern without a set is that of its tags
pub plain_word : (u : List Class) → some_set u ≡ false → plain (word u) ≡ u
plain_word [] e = refl
plain_word (one a ∷ u) e = ap (λ (x : List Class). one a ∷ x) (plain_word u e)
plain_word (any s ∷ u) e = absurd (false≢true (sym e))

pub plain-none : (u : List ℕ) → some_set (plain u) ≡ false
plain-none [] = refl
plain-none (a ∷ u) = plain-none u

-- it accepts its tags and no others
pub fits-plain : (u w : List ℕ) → fits (plain u) w ≡ prefix u w
fits-plain [] w = refl
fits-plain (a ∷ u) [] = refl
fits-plain (a ∷ u) (b ∷ w) = ap (λ (x : Bool). elim (eqb a b) as (λ y. Bool) [ true ↦ x | false ↦ false ]) (fits-plain u w)

-- ---- a pattern in rows

pub places-length : (u ss : List ℕ) → length (places u ss) ≡ length u
places-length [] ss = refl
places-length (a ∷ u) [] = ap suc (places-length u [])
places-length (a ∷ u) (s ∷ ss) = ap suc (places-length u ss)

pub places-plain : (u : List ℕ) → places u [] ≡ plain u
places-plain [] = refl
places-plain (a ∷ u) = ap (λ (x : List Class). one a ∷ x) (places-plain u)

-- its places one by one
pub places-at : (u ss : List ℕ) (j : ℕ) → j < length u → drop j (places u ss) ≡ class_of (get_or u j 0) (get_or ss j 0) ∷ drop (suc j) (places u ss)
places-at [] ss j h = absurd (omega arith)
places-at (a ∷ u) [] zero h = refl
places-at (a ∷ u) (s ∷ ss) zero h = refl
places-at (a ∷ u) [] (suc j) h = places-at u [] j (omega arith)
places-at (a ∷ u) (s ∷ ss) (suc j) h = places-at u ss j (omega arith)

-- the set at a place of which the first n have one
pub set_before : (ss : List ℕ) (n j : ℕ) → j < n → get_or ss j 0 ≡ get_or (take n ss) j 0
set_before ss n j h = sym (get_or-take n ss j 0 h)

pub set-behind : (ss : List ℕ) (n j : ℕ) → n ≤ j → 0 ≡ get_or (take n ss) j 0
set-behind ss zero j h = refl
set-behind [] (suc n) j h = refl
set-behind (s ∷ ss) (suc n) zero h = absurd (omega arith)
set-behind (s ∷ ss) (suc n) (suc j) h = set-behind ss n j (omega arith)

-- ---- where a pattern fits

test_true : (t x : Bool) → elim t as (λ y. Bool) [ true ↦ x | false ↦ false ] ≡ true → (t ≡ true) × (x ≡ true)
test_true true x e = (refl, e)
test_true false x e = absurd (false≢true e)

pub fits-first : (c : Class) (u : List Class) (a : ℕ) (w : List ℕ) → fits (c ∷ u) (a ∷ w) ≡ true → (accepts c a ≡ true) × (fits u w ≡ true)
fits-first c u a w e = test_true (accepts c a) (fits u w) e

pub fits_both : (c : Class) (u : List Class) (a : ℕ) (w : List ℕ) → accepts c a ≡ true → fits u w ≡ true → fits (c ∷ u) (a ∷ w) ≡ true
fits_both c u a w e f = cc (e, f)

pub fits-length : (u : List Class) (w : List ℕ) → fits u w ≡ true → length u ≤ length w
fits-length [] w e = omega arith
fits-length (c ∷ u) [] e = absurd (false≢true e)
fits-length (c ∷ u) (a ∷ w) e = omega (arith, fits-length u w (fits-first c u a w e).1)

pub fits-short : (u : List Class) (w : List ℕ) → length w < length u → fits u w ≡ false
fits-short u w h = by (fits u w) refl
  where
    by : (t : Bool) → fits u w ≡ t → t ≡ false
    by true e = absurd (omega (arith, fits-length u w e))
    by false e = refl

-- a match fits, whatever stands behind it; and what fits begins with a match
pub match-length : (u : List Class) (m : List ℕ) → Match u m → length m ≡ length u
match-length [] [] h = refl
match-length [] (a ∷ m) h = absurd h
match-length (c ∷ u) [] h = absurd h
match-length (c ∷ u) (a ∷ m) h = ap suc (match-length u m h.1)

pub match-fits : (u : List Class) (m y : List ℕ) → Match u m → fits u (m ++ y) ≡ true
match-fits [] [] y h = refl
match-fits [] (a ∷ m) y h = refl
match-fits (c ∷ u) [] y h = absurd h
match-fits (c ∷ u) (a ∷ m) y h = fits_both c u a (m ++ y) h.0 (match-fits u m y h.1)

pub fits-match : (u : List Class) (w : List ℕ) → fits u w ≡ true → Match u (take (length u) w)
fits-match [] w e = tt
fits-match (c ∷ u) [] e = absurd (false≢true e)
fits-match (c ∷ u) (a ∷ w) e = let f = fits-first c u a w e in (f.0, fits-match u w f.1)

-- a word fits its own pattern, which has no set, and is the only match
pub match-plain : (u : List ℕ) → Match (plain u) u
match-plain [] = tt
match-plain (a ∷ u) = (eq-eqb a a refl, match-plain u)

pub plain-match : (u m : List ℕ) → Match (plain u) m → m ≡ u
plain-match [] [] h = refl
plain-match [] (a ∷ m) h = absurd h
plain-match (a ∷ u) [] h = absurd h
plain-match (a ∷ u) (b ∷ m) h = cc (eqb-true a b h.0, plain-match u m h.1)

-- from a place on without sets a match is the pattern's tags
pub match_tail : (u : List Class) (m : List ℕ) (p : ℕ) → Match u m → some_set (drop p u) ≡ false → drop p m ≡ drop p (word u)
match_tail u m zero h e = plain-match (word u) m (subst (λ (x : List Class). Match x m) (sym (plain_word u e)) h)
match_tail [] [] (suc p) h e = refl
match_tail [] (a ∷ m) (suc p) h e = absurd h
match_tail (c ∷ u) [] (suc p) h e = absurd h
match_tail (one b ∷ u) (a ∷ m) (suc p) h e = match_tail u m p h.1 e
match_tail (any s ∷ u) (a ∷ m) (suc p) h e = match_tail u m p h.1 e

-- ---- where the last set is

last_cons : (c : Class) (u : List Class) (t : Bool) → some_set (c ∷ u) ≡ t → last_set (c ∷ u) ≡ elim t as (λ x. ℕ) [ true ↦ suc (last_set u) | false ↦ 0 ]
last_cons c u t e = ap (λ (b : Bool). elim b as (λ x. ℕ) [ true ↦ suc (last_set u) | false ↦ 0 ]) e

pub last_none : (u : List Class) → some_set u ≡ false → last_set u ≡ 0
last_none [] e = refl
last_none (c ∷ u) e = last_cons c u false e

later_set : (c : Class) (u : List Class) → some_set u ≡ true → some_set (c ∷ u) ≡ true
later_set (one a) u e = e
later_set (any s) u e = refl

-- there is a set at or after every place before it
pub some-from : (u : List Class) (p : ℕ) → p < last_set u → some_set (drop p u) ≡ true
some-from [] p h = absurd (omega arith)
some-from (c ∷ u) p h = by (some_set (c ∷ u)) refl p h (λ q. some-from u q)
  where
    by : (t : Bool) → some_set (c ∷ u) ≡ t → (p : ℕ) → p < last_set (c ∷ u) → ((q : ℕ) → q < last_set u → some_set (drop q u) ≡ true) → some_set (drop p (c ∷ u)) ≡ true
    by true e zero h rest = e
    by true e (suc p) h rest = rest p (omega (arith, last_cons c u true e))
    by false e p h rest = absurd (omega (arith, last_cons c u false e))

-- and none behind it
pub none_from : (u : List Class) (p : ℕ) → last_set u ≤ p → some_set (drop p u) ≡ false
none_from [] zero h = refl
none_from [] (suc p) h = refl
none_from (c ∷ u) p h = by (some_set (c ∷ u)) refl p h (λ q. none_from u q)
  where
    none : (t : Bool) → some_set u ≡ t → some_set (c ∷ u) ≡ false → t ≡ false
    none true e f = absurd (false≢true (sym f ∙ later_set c u e))
    none false e f = refl

    empty : (t : Bool) → some_set (c ∷ u) ≡ t → last_set (c ∷ u) ≡ 0 → t ≡ false
    empty true e f = absurd (omega (arith, f, last_cons c u true e))
    empty false e f = refl

    by : (t : Bool) → some_set (c ∷ u) ≡ t → (p : ℕ) → last_set (c ∷ u) ≤ p → ((q : ℕ) → last_set u ≤ q → some_set (drop q u) ≡ false) → some_set (drop p (c ∷ u)) ≡ false
    by t e zero h rest = empty (some_set (c ∷ u)) refl (omega arith)
    by true e (suc p) h rest = rest p (omega (arith, last_cons c u true e))
    by false e (suc p) h rest = rest p (omega (arith, last_none u (none (some_set u) refl e)))

pub last-zero : (u : List Class) → last_set u ≡ 0 → some_set u ≡ false
last-zero u e = none_from u 0 (omega arith)

pub last-inside : (u : List Class) → last_set u ≤ length u
last-inside [] = omega arith
last-inside (c ∷ u) = by (some_set (c ∷ u)) refl (last-inside u)
  where
    by : (t : Bool) → some_set (c ∷ u) ≡ t → last_set u ≤ length u → last_set (c ∷ u) ≤ suc (length u)
    by true e h = omega (arith, last_cons c u true e)
    by false e h = omega (arith, last_cons c u false e)

-- the pattern of a rule without sets
pub plain-pattern : (v : Value) (ss : List ℕ) → v.sets ≡ 0 → plain (take v.length v.row) ≡ (rule_of v ss).pattern
plain-pattern v ss e = let u = take v.length v.row in sym (ap (λ (n : ℕ). places u (take n ss)) e ∙ places-plain u)
