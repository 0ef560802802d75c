-- The tests of 14, place by place and rule by rule.
use Prim.Native.Nat.{ℕ, zero, suc, ◌+◌, ◌-◌, ◌<◌, ◌≤◌}
use Rattle.std.specs.List.{list_any}
use native.Mathlib.Omega.{arith}
use native.Mathlib.Decide.{ℕ_discrete, dec_lt}
use native.Mathlib.Numerals.{add-one}
use mathlib.Core.Path.{◌≡◌, refl, sym, ap, ap₂, ◌∙◌}
use mathlib.Core.Bool.{Bool, true, false, not, ◌&&◌, ◌||◌}
use mathlib.Core.Logic.{⊎_elim}
use mathlib.Core.List.{List, [], ◌∷◌}
use borrow.Author.Tests.{eq-eqb, ne_eqb, le-leb, lt-leb}
use lib.Dec.{eqb, leb}
use lib.ListN.{length, take, drop, get_or, length-drop}
use lib.Seq.{length-take-le, get_or-take}
use Rattle.words.proofs.Word.{drop-step}
use Rattle.cascades.specs.Rule.{Rule, Cascade, ending}
use Rattle.cascades.specs.Pattern.{Class, one, accepts, word, plain}
use Rattle.cascades.specs.Value.{class_of, places, rule_of, Formed}
use Rattle.cascades.specs.declared.Rule.{Rule as Value}
use Rattle.cascades.specs.Ending.{before, misused, some_misused, bad_end}
use Rattle.cascades.proofs.Pattern.{places-length, places-at}
use Rattle.cascades.proofs.Ending.{misused_outside}
use Rattle.limits.specs.Limits.{most_rules, most_tags, no_end}
use Rattle.books.specs.Arrays.{Arrays, Shaped, RulesHeld, place_at, rule_at, rules_of, cascade_of}
use Rattle.books.proofs.Arrays.{pattern-long}
use Rattle.books.proofs.Some.{one_more, not-one}
use Rattle.endings.specs.Usable.{Usable}

-- ---- the places of a pattern

before-short : (e : ℕ) (u : List Class) → length u ≤ 1 → before e u ≡ false
before-short e [] h = refl
before-short e (a ∷ []) h = refl
before-short e (a ∷ b ∷ u) h = absurd (omega arith)

before_cons : (e : ℕ) (c : Class) (u : List Class) → 0 < length u → before e (c ∷ u) ≡ (accepts c e || before e u)
before_cons e c [] h = absurd (omega arith)
before_cons e c (d ∷ u) h = refl

module _ (e : ℕ) (u : List Class) where
  pub before-empty : length u ≡ 0 → false ≡ before e u
  before-empty h = sym (before-short e u (omega arith))

  module _ (i : ℕ) (same : before e (drop i u) ≡ before e u) where
    pub before-end : length u ≤ i + 1 → false ≡ before e u
    before-end h = sym (before-short e (drop i u) (omega (arith, length-drop i u))) ∙ same

    step : i + 1 < length u → before e (drop i u) ≡ (accepts (get_or u i (one 0)) e || before e (drop (i + 1) u))
    step h =
        ap (before e) (drop-step u i (one 0) (omega arith)) ∙ before_cons e (get_or u i (one 0)) (drop (i + 1) u) (omega (arith, length-drop (i + 1) u))

    pub before-hit : i + 1 < length u → accepts (get_or u i (one 0)) e ≡ true → true ≡ before e u
    before-hit h f = ap (λ (b : Bool). b || before e (drop (i + 1) u)) (sym f) ∙ sym (step h) ∙ same

    pub before-miss : i + 1 < length u → accepts (get_or u i (one 0)) e ≡ false → before e (drop (i + 1) u) ≡ before e u
    before-miss h f = ap (λ (b : Bool). b || before e (drop (i + 1) u)) (sym f) ∙ sym (step h) ∙ same

-- a pattern of tags
pub before-plain : (e : ℕ) (w : List ℕ) → list_any (λ a. eqb a e) (take (length w - 1) w) ≡ before e (plain w)
before-plain e [] = refl
before-plain e (a ∷ []) = refl
before-plain e (a ∷ b ∷ w) =
    let n : length (a ∷ b ∷ w) - 1 ≡ suc (length (b ∷ w) - 1) = omega arith in
    ap (λ (x : ℕ). list_any (λ y. eqb y e) (take x (a ∷ b ∷ w))) n ∙ ap (λ (x : Bool). eqb a e || x) (before-plain e (b ∷ w))

-- a place of rows without sets
plain_at : (w : List ℕ) (i : ℕ) → get_or (plain w) i (one 0) ≡ one (get_or w i 0)
plain_at [] zero = refl
plain_at [] (suc i) = refl
plain_at (a ∷ w) zero = refl
plain_at (a ∷ w) (suc i) = plain_at w i

pub plain-hit : (w : List ℕ) (i e : ℕ) → get_or w i 0 ≡ e → accepts (get_or (plain w) i (one 0)) e ≡ true
plain-hit w i e f = ap (λ (c : Class). accepts c e) (plain_at w i) ∙ eq-eqb (get_or w i 0) e f

pub plain-miss : (w : List ℕ) (i e : ℕ) → (get_or w i 0 ≡ e → ⊥) → accepts (get_or (plain w) i (one 0)) e ≡ false
plain-miss w i e d = ap (λ (c : Class). accepts c e) (plain_at w i) ∙ ne_eqb (get_or w i 0) e d

module _ (w ss : List ℕ) (i e : ℕ) (h : i < length w) (set : ℕ) (is : set ≡ get_or ss i 0) where
  pub place-accepts : accepts (class_of (get_or w i 0) set) e ≡ accepts (get_or (places w ss) i (one 0)) e
  place-accepts =
      let P = places w ss in
      let first : class_of (get_or w i 0) (get_or ss i 0) ≡ get_or P i (one 0) =
      ap (λ (u : List Class). get_or u 0 (one 0)) (sym (places-at w ss i h) ∙ drop-step P i (one 0) (omega (arith, places-length w ss)))
      in
      cc (is, first)

-- ---- the three tests of a rule

module _ (e : ℕ) (r : Rule) where
  pub misused-before : (b : Bool) → b ≡ before e r.pattern → b ≡ true → true ≡ misused e r
  misused-before b f h = ap (λ (x : Bool). x || (eqb (get_or (word r.pattern) r.place 0) e || eqb r.tag e)) (sym h ∙ f)

  module _ (b : Bool) (f : b ≡ before e r.pattern) (h : b ≡ false) where
    after-before : (eqb (get_or (word r.pattern) r.place 0) e || eqb r.tag e) ≡ misused e r
    after-before = ap (λ (x : Bool). x || (eqb (get_or (word r.pattern) r.place 0) e || eqb r.tag e)) (sym h ∙ f)

    pub misused-old : get_or (word r.pattern) r.place 0 ≡ e → true ≡ misused e r
    misused-old g = ap (λ (x : Bool). x || eqb r.tag e) (sym (eq-eqb (get_or (word r.pattern) r.place 0) e g)) ∙ after-before

    pub misused-new : (get_or (word r.pattern) r.place 0 ≡ e → ⊥) → eqb r.tag e ≡ misused e r
    misused-new g = ap (λ (x : Bool). x || eqb r.tag e) (sym (ne_eqb (get_or (word r.pattern) r.place 0) e g)) ∙ after-before

-- a rule of the arrays has its place in its pattern
pub rule-inside : (a : Arrays) (i : ℕ) (v : Value) (ss : List ℕ) → rule_of v ss ≡ rule_at a i → Formed v ss → Shaped a → i < most_rules → place_at a i < get_or a.lengths i 0 → v.place < v.length
rule-inside a i v ss e f s h l =
    let p : v.place ≡ place_at a i = ap (λ (r : Rule). r.place) e in
    let n : length (rule_of v ss).pattern ≡ length (rule_at a i).pattern = ap (λ (r : Rule). length r.pattern) e in
    let row = take v.length v.row in
    omega (arith, p, n, places-length row (take v.sets ss), length-take-le v.length v.row (omega (arith, f.row_long, f.length_short)), pattern-long a s i h)

-- the tag at the place stands in its row
pub tag_at : (v : Value) (ss : List ℕ) → Formed v ss → v.place < v.length → get_or (word (rule_of v ss).pattern) v.place 0 ≡ get_or v.row v.place 0
tag_at v ss f h = ap (λ (w : List ℕ). get_or w v.place 0) f.word_is ∙ get_or-take v.length v.row v.place 0 h

-- some of m rules misuses the tag where some before the last does, or else where the last does
module _ (e : ℕ) (a : Arrays) (m n : ℕ) (next : n + 1 ≡ m) (b : Bool) (is : b ≡ some_misused e (rules_of a n)) where
  some_of : some_misused e (rules_of a m) ≡ (b || misused e (rule_at a n))
  some_of =
      ap (λ (i : ℕ). some_misused e (rules_of a i)) (sym next ∙ add-one n)
      ∙ one_more (misused e) (some_misused e) refl (λ r rs. refl) a n
      ∙ ap (λ (x : Bool). x || misused e (rule_at a n)) (sym is)

  pub some-before : b ≡ true → true ≡ some_misused e (rules_of a m)
  some-before h = sym (some_of ∙ ap (λ (x : Bool). x || misused e (rule_at a n)) h)

  pub some-last : b ≡ false → misused e (rule_at a n) ≡ some_misused e (rules_of a m)
  some-last h = sym (some_of ∙ ap (λ (x : Bool). x || misused e (rule_at a n)) h)

-- ---- the three tests of a book

module _ (c : Cascade) where
  abbrev tests : Bool → Bool → Bool
  tests none outside = not none && (outside || some_misused c.end c.rules)

  pub bad_none : c.end ≡ no_end → false ≡ bad_end c
  bad_none h = ap (λ (x : Bool). tests x (leb c.tags c.end)) (sym (eq-eqb c.end no_end h))

  module _ (h : c.end ≡ no_end → ⊥) where
    pub bad_outside : c.tags ≤ c.end → true ≡ bad_end c
    bad_outside g = ap₂ tests (sym (ne_eqb c.end no_end h)) (sym (le-leb c.tags c.end g))

    pub bad_inside : c.end < c.tags → some_misused c.end c.rules ≡ bad_end c
    bad_inside g = ap₂ tests (sym (ne_eqb c.end no_end h)) (sym (lt-leb c.tags c.end g))

pub usable : {l : ℕ} (k m : ℕ) (a : Arrays) → RulesHeld l k m a → Usable m a
usable k m a h =
    record {
      shaped = h.shaped;
      few = h.few;
      inside = λ i l. omega (arith, (h.valid i l).place_inside, pattern-long a h.shaped i (omega (arith, h.few)));
      plain_from = λ i l. (h.valid i l).sets_before;
      new = λ i l. (h.valid i l).tag_new;
    }

-- the first n of m rules
pub usable_less : (n m : ℕ) (a : Arrays) → n ≤ m → Usable m a → Usable n a
usable_less n m a h u =
    record {
      shaped = u.shaped;
      few = omega (arith, u.few);
      inside = λ i l. u.inside i (omega arith);
      plain_from = λ i l. u.plain_from i (omega arith);
      new = λ i l. u.new i (omega arith);
    }

-- rows for sets, if there are any, are rows for all rules
pub all-rows : (a : Arrays) → Shaped a → (length a.sets ≡ 0 → ⊥) → length a.sets ≡ most_rules
all-rows a s some = ⊎_elim (λ none. absurd (some none)) (λ all. all) s.sets_long

-- a rule of a book that can be used with the end tag
pub rule_used : {l : ℕ} (k m e : ℕ) (a : Arrays) → k ≤ most_tags → RulesHeld l k m a → bad_end (ending e (cascade_of k a m)) ≡ false
    → (i : ℕ) → i < m → misused e (rule_at a i) ≡ false
rule_used {l} k m e a few held fits i h = by (ℕ_discrete e no_end) (dec_lt e k)
  where
    by : Dec (e ≡ no_end) → Dec (e < k) → misused e (rule_at a i) ≡ false
    by (yes f) d = misused_outside l k e (omega arith) (rule_at a i) (held.valid i h)
    by (no n) (yes b) = not-one (misused e) (some_misused e) refl (λ r rs. refl) a m i (bad_inside (ending e (cascade_of k a m)) n b ∙ fits) h
    by (no n) (no b) = let z : ◌≡◌ {A = ℕ} 0 1 = cc (bad_outside (ending e (cascade_of k a m)) n (omega arith), fits) in absurd (omega arith)
