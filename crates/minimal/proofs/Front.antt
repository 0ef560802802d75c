-- Words that match the first places of a rule's pattern, for every matcher.
use Prim.Native.Nat.{ℕ, zero, suc, ◌≤◌, ◌<◌}
use native.Mathlib.Omega.{arith}
use native.Mathlib.Decide.{ℕ_discrete}
use mathlib.Core.Path.{◌≡◌, refl, sym, ap₂, ◌∙◌}
use mathlib.Core.Bool.{Bool, true, false, false≢true}
use mathlib.Core.List.{List, [], ◌∷◌, ◌++◌}
use borrow.Author.Tests.{eq-eqb, ne_eqb}
use lib.Dec.{eqb}
use lib.ListN.{length, take, drop, get_or, take-append-drop}
use Rattle.words.specs.Word.{prefix}
use Rattle.words.proofs.Word.{prefix-take}
use Rattle.cascades.specs.Pattern.{Class, one, any, accepts, fits, some_set, word}
use Rattle.cascades.specs.Rule.{Rule, ValidRule}
use Rattle.cascades.specs.Rewrite.{apply}
use Rattle.cascades.specs.Leftmost.{Match}
use Rattle.cascades.proofs.Pattern.{word-length, fits-match, match-length}
use Rattle.cascades.proofs.Rewrite.{apply-other, apply-front}
use Rattle.minimal.proofs.Matcher.{Fronts, Rewrites}

-- does z match the first places of u?
abbrev pub front : List Class → List ℕ → Bool
front u [] = true
front [] (a ∷ z) = false
front (c ∷ u) (a ∷ z) = elim (accepts c a) [ true ↦ front u z | false ↦ false ]

front-first : (c : Class) (u : List Class) (a : ℕ) (z : List ℕ) → front (c ∷ u) (a ∷ z) ≡ true → (accepts c a ≡ true) × (front u z ≡ true)
front-first c u a z e = by (accepts c a) e
  where
    by : (t : Bool) → elim t as (λ x. Bool) [ true ↦ front u z | false ↦ false ] ≡ true → (t ≡ true) × (front u z ≡ true)
    by true e = (refl, e)
    by false e = absurd (false≢true e)

front_shorter : (u : List Class) (z w : List ℕ) → front u (z ++ w) ≡ true → front u z ≡ true
front_shorter u [] w e = refl
front_shorter [] (a ∷ z) w e = e
front_shorter (c ∷ u) (a ∷ z) w e = let f = front-first c u a (z ++ w) e in cc (front_shorter u z w f.1)

front-few : (u : List Class) (z : List ℕ) → front u z ≡ true → length z ≤ length u
front-few u [] e = omega arith
front-few [] (a ∷ z) e = absurd (false≢true e)
front-few (c ∷ u) (a ∷ z) e = omega (arith, front-few u z (front-first c u a z e).1)

-- one tag more
pub front_snoc : (u : List Class) (z : List ℕ) (a : ℕ) → length z < length u
    → front u (z ++ (a ∷ [])) ≡ elim (front u z) as (λ x. Bool) [ true ↦ accepts (get_or u (length z) (one 0)) a | false ↦ false ]
front_snoc [] z a h = absurd (omega arith)
front_snoc (c ∷ u) [] a h = by (accepts c a)
  where
    by : (t : Bool) → elim t as (λ x. Bool) [ true ↦ true | false ↦ false ] ≡ t
    by true = refl
    by false = refl
front_snoc (c ∷ u) (b ∷ z) a h = by (accepts c b) (front_snoc u z a (omega arith))
  where
    by : (t : Bool) → front u (z ++ (a ∷ [])) ≡ elim (front u z) as (λ x. Bool) [ true ↦ accepts (get_or u (length z) (one 0)) a | false ↦ false ]
        → ◌≡◌ {A = Bool} (elim t [ true ↦ front u (z ++ (a ∷ [])) | false ↦ false ])
        (elim (elim t as (λ x. Bool) [ true ↦ front u z | false ↦ false ]) [ true ↦ accepts (get_or u (length z) (one 0)) a | false ↦ false ])
    by true e = e
    by false e = refl

-- without sets they are the prefixes of the pattern's tags
pub front-prefix : (u : List Class) → some_set u ≡ false → (z : List ℕ) → front u z ≡ prefix z (word u)
front-prefix u e [] = refl
front-prefix [] e (a ∷ z) = refl
front-prefix (one b ∷ u) e (a ∷ z) =
    ap₂ (λ (t x : Bool). elim t as (λ y. Bool) [ true ↦ x | false ↦ false ]) (swap (ℕ_discrete b a)) (front-prefix u e z)
  where
    swap : Dec (b ≡ a) → eqb b a ≡ eqb a b
    swap (yes f) = eq-eqb b a f ∙ sym (eq-eqb a b (sym f))
    swap (no f) = ne_eqb b a f ∙ sym (ne_eqb a b (λ g. f (sym g)))
front-prefix (any s ∷ u) e (a ∷ z) = absurd (false≢true (sym e))

-- from a place on without sets they are the pattern's tags
front_tail : (u : List Class) (p : ℕ) → some_set (drop p u) ≡ false → (z : List ℕ) → front u z ≡ true → drop p z ≡ drop p (take (length z) (word u))
front_tail u zero n z e = prefix-take z (word u) (sym (front-prefix u n z) ∙ e)
front_tail u (suc p) n [] e = refl
front_tail [] (suc p) n (a ∷ z) e = absurd (false≢true e)
front_tail (one b ∷ u) (suc p) n (a ∷ z) e = front_tail u p n z (front-first (one b) u a z e).1
front_tail (any s ∷ u) (suc p) n (a ∷ z) e = front_tail u p n z (front-first (any s) u a z e).1

-- those of all places are the matches
front-match : (u : List Class) (m : List ℕ) → front u m ≡ true → length m ≡ length u → Match u m
front-match [] [] e l = tt
front-match [] (a ∷ m) e l = absurd (omega arith)
front-match (c ∷ u) [] e l = absurd (omega arith)
front-match (c ∷ u) (a ∷ m) e l = let f = front-first c u a m e in (f.0, front-match u m f.1 (omega arith))

match-front : (u : List Class) (m : List ℕ) → Match u m → front u m ≡ true
match-front [] [] h = refl
match-front [] (a ∷ m) h = absurd h
match-front (c ∷ u) [] h = absurd h
match-front (c ∷ u) (a ∷ m) h = cc (h.0, match-front u m h.1)

module _ (l k : ℕ) (r : Rule) (ok : ValidRule l k r) where
  abbrev u : List Class
  u = r.pattern

  pub fronts-rule : Fronts (word u) r.place (front u)
  fronts-rule =
      record {
        inside = omega (arith, ok.place_inside, word-length u);
        none = refl;
        shorter = front_shorter u;
        few = λ z e. omega (arith, front-few u z e, word-length u);
        plain = front_tail u r.place ok.sets_before;
      }

  -- the rule rewrites the leftmost match, and the rest by its kind
  pub rewrites_rule : Rewrites r.kind (word u) r.place r.tag (front u) (apply r)
  rewrites_rule =
      record {
        none = refl;
        other = λ a w none. by a w none (fits u (a ∷ w)) refl;
        match = λ m v e l. apply-front r (omega (arith, ok.place_inside)) m v (front-match u m e (l ∙ word-length u));
      }
    where
      by : (a : ℕ) (w : List ℕ) → ((m v : List ℕ) → front u m ≡ true → length m ≡ length (word u) → a ∷ w ≡ m ++ v → ⊥) → (t : Bool) → fits u (a ∷ w) ≡ t
          → apply r (a ∷ w) ≡ a ∷ apply r w
      by a w none true e =
          let m = take (length u) (a ∷ w) in
          let is = fits-match u (a ∷ w) e in
          absurd (none m (drop (length u) (a ∷ w)) (match-front u m is) (match-length u m is ∙ sym (word-length u)) (sym (take-append-drop (length u) (a ∷ w))))
      by a w none false e = apply-other r a w e
