-- The places of a pattern as they are read into a row of tags and a row of sets; and how the sets are tested.
use Prim.Native.Nat.{ℕ, zero, suc, ◌+◌, ◌%◌, ◌/◌, ◌^◌, ◌≤◌, ◌<◌}
use native.Mathlib.Omega.{arith}
use native.Mathlib.Numerals.{add-one}
use native.Mathlib.Nat.{div-eq_of_lt, div-lt_iff_lt-mul}
use native.Mathlib.Decide.{ℕ_discrete, dec_lt}
use mathlib.Core.Path.{◌≡◌, refl, sym, ap, ap₂, ◌∙◌, subst}
use mathlib.Core.Bool.{Bool, true, false}
use mathlib.Core.List.{List, [], ◌∷◌, ◌++◌}
use borrow.Author.Tests.{lt-ltb, le-ltb, le-leb, lt-leb, ne_eqb, leb-true, ltb-true}
use lib.Count.{ones as count, ones_step, ones-le}
use lib.Dec.{leb, ltb}
use lib.Pow.{pow_pos, shr_lt}
use lib.ListN.{length, set, take}
use lib.Seq.{length-take-le, take-take, take-suc-set}
use Rattle.limits.specs.Limits.{longest_pattern}
use Rattle.std.specs.Prelude.{Result, Ok, Err}
use Rattle.answers.specs.Outcome.{result, and_then, provided}
use Rattle.answers.specs.declared.Reason.{Reason}
use Rattle.answers.specs.declared.Reason.TheVariants.{BadTag, SmallSet}
use Rattle.answers.proofs.Outcome.{passed}
use Rattle.cascades.specs.Pattern.{Class, one, any, ones, word, plain}
use Rattle.cascades.specs.Value.{class_of, places, last_set}
use Rattle.cascades.proofs.Pattern.{places-length, last-inside}
use Rattle.books.specs.Read.{Stage, opening, set_read}
use Rattle.books.specs.Resume.{Placed, faulted}
use Rattle.books.proofs.Sets.{word-append, plain-append, last-tag, last_set_lem, places_snoc, places-cut}

-- one more tag
pub plain_more : (row : List ℕ) (n t : ℕ) → n < length row → plain (take n row) ++ (one t ∷ []) ≡ plain (take (n + 1) (set row n t))
plain_more row n t h = sym (ap plain (ap (λ (i : ℕ). take i (set row n t)) (add-one n) ∙ take-suc-set row n t h) ∙ plain-append (take n row) (t ∷ []))

-- n places so far, `last` one more than the place of the last set
pub record SoFar (row sets : List ℕ) (n last : ℕ) : Type 0 where
  pub few : n ≤ longest_pattern
  pub last_is : last_set (places (take n row) (take n sets)) ≡ last
  pub word_is : word (places (take n row) (take n sets)) ≡ take n row

pub so_far_none : (row sets : List ℕ) → SoFar row sets 0 0
so_far_none row sets = record { few = omega arith; last_is = refl; word_is = refl }

-- what a set that is not empty stands for
pub any-class : (t s : ℕ) → (s ≡ 0 → ⊥) → any s ≡ class_of t s
any-class t s d = ap (λ (b : Bool). elim b as (λ x. Class) [ true ↦ one t | false ↦ any s ]) (sym (ne_eqb s 0 d))

-- a tag t, or a set, where t is 0
module _ (row sets : List ℕ) (n last : ℕ) (room : n < longest_pattern) (long : length row ≡ longest_pattern) (wide : length sets ≡ longest_pattern) (t s : ℕ) (zero-at : (s ≡ 0 → ⊥) → t ≡ 0) where
  more : (l : List ℕ) → length l ≡ longest_pattern → (x : ℕ) → take (n + 1) (set l n x) ≡ take n l ++ (x ∷ [])
  more l e x = ap (λ (i : ℕ). take i (set l n x)) (add-one n) ∙ take-suc-set l n x (omega arith)

  pub place-more : places (take n row) (take n sets) ++ (class_of t s ∷ []) ≡ places (take (n + 1) (set row n t)) (take (n + 1) (set sets n s))
  place-more =
      sym (ap₂ places (more row long t) (more sets wide s)
      ∙ places_snoc (take n row) (take n sets) t s (length-take-le n row (omega arith) ∙ sym (length-take-le n sets (omega arith))))

  pub place_so_far : (last' : ℕ) → (s ≡ 0 → last' ≡ last) → ((s ≡ 0 → ⊥) → last' ≡ n + 1) → SoFar row sets n last → SoFar (set row n t) (set sets n s) (n + 1) last'
  place_so_far last' tag-last set_last p = by (ℕ_discrete s 0)
    where
      long_so_far : length (places (take n row) (take n sets)) ≡ n
      long_so_far = places-length (take n row) (take n sets) ∙ length-take-le n row (omega arith)

      made : (c : Class) → class_of t s ≡ c → last_set (places (take n row) (take n sets) ++ (c ∷ [])) ≡ last' → word (c ∷ []) ≡ t ∷ [] → SoFar (set row n t) (set sets n s) (n + 1) last'
      made c e f g =
          let v = places (take n row) (take n sets) in
          let whole : v ++ (c ∷ []) ≡ places (take (n + 1) (set row n t)) (take (n + 1) (set sets n s)) = ap (λ (d : Class). v ++ (d ∷ [])) (sym e) ∙ place-more in
          record {
            few = omega arith;
            last_is = ap last_set (sym whole) ∙ f;
            word_is = ap word (sym whole) ∙ word-append v (c ∷ []) ∙ ap₂ (λ (x y : List ℕ). x ++ y) p.word_is g ∙ sym (more row long t);
          }

      by : Dec (s ≡ 0) → SoFar (set row n t) (set sets n s) (n + 1) last'
      by (yes e) =
          let v = places (take n row) (take n sets) in
          made (one t) (ap (class_of t) e) (last-tag v t ∙ p.last_is ∙ sym (tag-last e)) refl
      by (no d) =
          let v = places (take n row) (take n sets) in
          made (any s) (sym (any-class t s d)) (last_set_lem v s ∙ ap suc long_so_far ∙ sym (add-one n) ∙ sym (set_last d)) (ap (λ (x : ℕ). x ∷ []) (sym (zero-at d)))

-- behind the last set no row of sets is needed
module _ (row sets : List ℕ) (n last : ℕ) (long : n ≤ length row) (p : SoFar row sets n last) where
  inside : last ≤ n
  inside =
      let u = places (take n row) (take n sets) in
      omega (arith, last-inside u, p.last_is, places-length (take n row) (take n sets), length-take-le n row long)

  pub so_far_cut : places (take n row) (take n sets) ≡ places (take n row) (take last sets)
  so_far_cut =
      sym (places-cut (take n row) (take n sets))
      ∙ ap (λ (x : ℕ). places (take n row) (take x (take n sets))) p.last_is
      ∙ ap (places (take n row)) (take-take last n sets inside)

  pub so_far_placed : Placed row sets n last
  so_far_placed =
      record {
        few = p.few;
        inside = inside;
        last_is = ap last_set (sym so_far_cut) ∙ p.last_is;
        word_is = ap word (sym so_far_cut) ∙ p.word_is;
      }

-- ---- the tests of a set

-- the ones of a set of k tags are the ones of the number
ones-count : (k s : ℕ) → s < 2 ^ k → ones k s ≡ count s
ones-count zero s h = omega (arith, ones-le 0 s h)
ones-count (suc k) s h = ap (λ (x : ℕ). s % 2 + x) (ones-count k (s / 2) (shr_lt k 1 (subst (λ (x : ℕ). s < 2 ^ x) (sym (add-one k)) h))) ∙ sym (ones_step s)

module _ (k s : ℕ) where
  abbrev Told : Result (Unit {0}) Reason → Type 0
  Told n = (next : Stage) → set_read k s next ≡ and_then (faulted n) (λ x. result next)

  pub set-high : (s / 2 ^ k ≡ 0 → ⊥) → Told (Err BadTag)
  set-high d next = cc (le-ltb s (2 ^ k) (by (dec_lt s (2 ^ k))))
    where
      by : Dec (s < 2 ^ k) → 2 ^ k ≤ s
      by (yes l) = absurd (d (div-eq_of_lt l))
      by (no l) = omega arith

  module _ (low : s / 2 ^ k ≡ 0) where
    below : s < 2 ^ k
    below = omega (arith, (div-lt_iff_lt-mul {k = 2 ^ k} {x = s} {y = 1} (pow_pos k)).0 (omega arith))

    pub set-few : count s < 2 → Told (Err SmallSet)
    set-few f next = cc (lt-ltb s (2 ^ k) below, lt-leb 2 (ones k s) (omega (arith, ones-count k s below)))

    pub set_good : 2 ≤ count s → Told (Ok tt)
    set_good f next = cc (lt-ltb s (2 ^ k) below, le-leb 2 (ones k s) (omega (arith, ones-count k s below)))

-- a set that is taken has a tag
pub some-tag : (k s : ℕ) → Told k s (Ok tt) → s ≡ 0 → ⊥
some-tag k s told e =
    let four = passed 4 (ltb s (2 ^ k)) (provided 18 (leb 2 (ones k s)) (result opening)) opening (told opening) in
    let two = passed 18 (leb 2 (ones k s)) (result opening) opening four.1 in
    omega (arith, leb-true 2 (ones k s) two.0, ones-count k s (ltb-true s (2 ^ k) four.0), ones-le 0 s (omega arith))
