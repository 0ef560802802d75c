-- The border carried along: how an overlap grows by a tag, and how often two tags are compared.
use Prim.Native.Nat.{ℕ, zero, suc, ◌+◌, ◌-◌, ◌*◌, ◌≤◌, ◌<◌}
use native.Mathlib.Omega.{arith}
use native.Mathlib.Decide.{ℕ_discrete}
use mathlib.Core.Path.{◌≡◌, refl, sym, ap, ◌∙◌}
use mathlib.Core.Bool.{Bool, true, false, false≢true}
use mathlib.Core.List.{List, [], ◌∷◌, ◌++◌}
use borrow.Author.Tests.{eq-eqb, ne_eqb}
use lib.Dec.{eqb}
use lib.ListN.{length, get_or, take, drop, length-append, length-drop}
use lib.Seq.{take-suc, length-take-le}
use Rattle.words.specs.Word.{prefix}
use Rattle.words.specs.Overlap.{overlap}
use Rattle.words.proofs.Word.{prefix-left, prefix-take, prefix-length}
use Rattle.words.proofs.Overlap.{overlap_le}
use Rattle.borders.specs.Border.{border, compared, counted}

-- one tag more of a prefix
prefix_snoc : (t u : List ℕ) (a : ℕ) → prefix t u ≡ true → length t < length u → prefix (t ++ (a ∷ [])) u ≡ eqb (get_or u (length t) 0) a
prefix_snoc [] [] a e h = absurd (omega arith)
prefix_snoc [] (c ∷ u) a e h = by (ℕ_discrete a c)
  where
    by : Dec (a ≡ c) → prefix (a ∷ []) (c ∷ u) ≡ eqb c a
    by (yes d) = cc (eq-eqb a c d, eq-eqb c a (sym d))
    by (no d) = cc (ne_eqb a c d, ne_eqb c a (λ x. d (sym x)))
prefix_snoc (b ∷ t) [] a e h = absurd (false≢true e)
prefix_snoc (b ∷ t) (c ∷ u) a e h = by (eqb b c) e (λ d. prefix_snoc t u a d (omega arith))
  where
    by : (x : Bool) → elim x [ true ↦ prefix t u | false ↦ false ] ≡ true → (prefix t u ≡ true → prefix (t ++ (a ∷ [])) u ≡ eqb (get_or u (length t) 0) a)
        → elim x [ true ↦ prefix (t ++ (a ∷ [])) u | false ↦ false ] ≡ eqb (get_or u (length t) 0) a
    by true d f = f d
    by false d f = absurd (false≢true d)

-- what is no prefix is none with more tags
prefix-more : (t w u : List ℕ) → prefix t u ≡ false → prefix (t ++ w) u ≡ false
prefix-more t w u e = by (prefix (t ++ w) u) refl
  where
    by : (c : Bool) → prefix (t ++ w) u ≡ c → c ≡ false
    by true d = absurd (false≢true (sym e ∙ prefix-left t w u d))
    by false d = refl

-- the overlap, after the tag a, of a word whose overlap is b: one more tag, or else that of b's own border and the tag
abbrev pub grown : List ℕ → ℕ → ℕ → ℕ
grown u a zero = elim (eqb (get_or u 0 0) a) [ true ↦ 1 | false ↦ 0 ]
grown u a (suc b) = elim (eqb (get_or u (suc b) 0) a) [ true ↦ suc (suc b) | false ↦ overlap u (drop 1 (take (suc b) u) ++ (a ∷ [])) ]

-- the comparisons there
abbrev pub tried : List ℕ → ℕ → ℕ → ℕ
tried u a zero = 1
tried u a (suc b) = elim (eqb (get_or u (suc b) 0) a) [ true ↦ 1 | false ↦ suc (compared u a (drop 1 (take (suc b) u))) ]

module _ (u : List ℕ) (a : ℕ) where
  pub overlap-grown : (t : List ℕ) → overlap u t < length u → overlap u (t ++ (a ∷ [])) ≡ grown u a (overlap u t)
  overlap-grown [] h = ap {B = ℕ} (λ (c : Bool). elim c [ true ↦ 1 | false ↦ 0 ]) (prefix_snoc [] u a refl h)
  overlap-grown (b ∷ t) h = by (prefix (b ∷ t) u) refl h (overlap-grown t)
    where
      by : (c : Bool) → prefix (b ∷ t) u ≡ c → elim c as (λ x. ℕ) [ true ↦ suc (length t) | false ↦ overlap u t ] < length u
          → (overlap u t < length u → overlap u (t ++ (a ∷ [])) ≡ grown u a (overlap u t))
          → elim (prefix (b ∷ t ++ (a ∷ [])) u) as (λ x. ℕ) [ true ↦ suc (length (t ++ (a ∷ []))) | false ↦ overlap u (t ++ (a ∷ [])) ]
          ≡ grown u a (elim c as (λ x. ℕ) [ true ↦ suc (length t) | false ↦ overlap u t ])
      by true e l rest =
          rw (prefix_snoc (b ∷ t) u a e l) (at (eqb (get_or u (suc (length t)) 0) a))
        where
          front : b ∷ t ≡ take (suc (length t)) u
          front = prefix-take (b ∷ t) u e

          at : (d : Bool)
              → ◌≡◌ {A = ℕ} (elim d [ true ↦ suc (length (t ++ (a ∷ []))) | false ↦ overlap u (t ++ (a ∷ [])) ])
              (elim d [ true ↦ suc (suc (length t)) | false ↦ overlap u (drop 1 (take (suc (length t)) u) ++ (a ∷ [])) ])
          at true = omega (arith, length-append t (a ∷ []))
          at false = ap (λ (w : List ℕ). overlap u (drop 1 w ++ (a ∷ []))) front
      by false e l rest = rw (prefix-more (b ∷ t) (a ∷ []) u e) (rest l)

  compared_tried : (t : List ℕ) → compared u a t ≡ tried u a (overlap u t)
  compared_tried [] = refl
  compared_tried (b ∷ t) = by (prefix (b ∷ t) u) refl (compared_tried t)
    where
      by : (c : Bool) → prefix (b ∷ t) u ≡ c → compared u a t ≡ tried u a (overlap u t)
          → elim c as (λ x. ℕ) [ true ↦ elim (eqb (get_or u (suc (length t)) 0) a) [ true ↦ 1 | false ↦ suc (compared u a t) ] | false ↦ compared u a t ]
          ≡ tried u a (elim c as (λ x. ℕ) [ true ↦ suc (length t) | false ↦ overlap u t ])
      by true e rest =
          ap (λ (w : List ℕ). elim (eqb (get_or u (suc (length t)) 0) a) as (λ x. ℕ) [ true ↦ 1 | false ↦ suc (compared u a (drop 1 w)) ]) (prefix-take (b ∷ t) u e)
      by false e rest = rest

  -- at least one comparison
  compared-some : (t : List ℕ) → 1 ≤ compared u a t
  compared-some [] = omega arith
  compared-some (b ∷ t) = by (prefix (b ∷ t) u) (eqb (get_or u (suc (length t)) 0) a) (compared-some t)
    where
      by : (c d : Bool) → 1 ≤ compared u a t
          → 1 ≤ elim c as (λ x. ℕ) [ true ↦ elim d as (λ x. ℕ) [ true ↦ 1 | false ↦ suc (compared u a t) ] | false ↦ compared u a t ]
      by true true h = omega arith
      by true false h = omega arith
      by false d h = h

  -- each comparison lengthens the border, shortens it, or finds none to shorten
  compared-few : (t : List ℕ) → compared u a t + overlap u (t ++ (a ∷ [])) ≤ overlap u t + 2
  compared-few [] = omega (arith, (overlap_le u (a ∷ [])).0)
  compared-few (b ∷ t) = by (prefix (b ∷ t) u) refl (compared-few t)
    where
      by : (c : Bool) → prefix (b ∷ t) u ≡ c → compared u a t + overlap u (t ++ (a ∷ [])) ≤ overlap u t + 2
          → elim c as (λ x. ℕ) [ true ↦ elim (eqb (get_or u (suc (length t)) 0) a) [ true ↦ 1 | false ↦ suc (compared u a t) ] | false ↦ compared u a t ]
          + elim (prefix (b ∷ t ++ (a ∷ [])) u) as (λ x. ℕ) [ true ↦ suc (length (t ++ (a ∷ []))) | false ↦ overlap u (t ++ (a ∷ [])) ]
          ≤ elim c as (λ x. ℕ) [ true ↦ suc (length t) | false ↦ overlap u t ] + 2
      by true e rest = at (eqb (get_or u (suc (length t)) 0) a) refl (prefix (b ∷ t ++ (a ∷ [])) u) refl
        where
          at : (d : Bool) → eqb (get_or u (suc (length t)) 0) a ≡ d → (f : Bool) → prefix (b ∷ t ++ (a ∷ [])) u ≡ f
              → elim d as (λ x. ℕ) [ true ↦ 1 | false ↦ suc (compared u a t) ] + elim f as (λ x. ℕ) [ true ↦ suc (length (t ++ (a ∷ []))) | false ↦ overlap u (t ++ (a ∷ [])) ] ≤ suc (length t) + 2
          at true x true y = omega (arith, length-append t (a ∷ []))
          at true x false y = omega (arith, (overlap_le u (t ++ (a ∷ []))).0, length-append t (a ∷ []))
          at false x true y =
              let more : suc (length t) < length u = omega (arith, prefix-length (b ∷ t ++ (a ∷ [])) u y, length-append t (a ∷ [])) in
              absurd (false≢true (sym x ∙ sym (prefix_snoc (b ∷ t) u a e more) ∙ y))
          at false x false y = omega (arith, (overlap_le u t).0)
      by false e rest = rw (prefix-more (b ∷ t) (a ∷ []) u e) rest

-- ---- of the first j tags of a pattern

module _ (u : List ℕ) where
  pub border_le : (j : ℕ) → j ≤ length u → border u j ≤ j - 1
  border_le j h = omega (arith, (overlap_le u (drop 1 (take j u))).0, length-drop 1 (take j u), length-take-le j u h)

  -- a proper one
  pub border-below : (j : ℕ) → 0 < j → j ≤ length u → border u j < j
  border-below j some h = omega (arith, border_le j h)

  pub border-none : (j : ℕ) → j ≤ 1 → j ≤ length u → border u j ≡ 0
  border-none j low h = omega (arith, border_le j h)

  next_word : (j : ℕ) → 0 < j → j < length u → drop 1 (take (suc j) u) ≡ drop 1 (take j u) ++ (get_or u j 0 ∷ [])
  next_word zero some h = absurd (omega arith)
  next_word (suc j) some h = ap (drop 1) (take-suc u (suc j) 0 h) ∙ drop_snoc (take (suc j) u) (get_or u (suc j) 0) (omega (arith, length-take-le (suc j) u (omega arith)))
    where
      drop_snoc : (w : List ℕ) (a : ℕ) → 0 < length w → drop 1 (w ++ (a ∷ [])) ≡ drop 1 w ++ (a ∷ [])
      drop_snoc [] a l = absurd (omega arith)
      drop_snoc (b ∷ w) a l = refl

  -- the border of one more tag, from the border of those before
  pub border-grown : (j : ℕ) → 0 < j → j < length u → border u (suc j) ≡ grown u (get_or u j 0) (border u j)
  border-grown j some h =
      ap (overlap u) (next_word j some h) ∙ overlap-grown u (get_or u j 0) (drop 1 (take j u)) (omega (arith, border-below j some (omega arith)))

  -- where the next tag does not follow, the border's own border takes its place
  pub grown_shorter : (a b : ℕ) → b < length u → (get_or u b 0 ≡ a → ⊥) → 0 < b → grown u a b ≡ grown u a (border u b)
  grown_shorter a zero h other some = absurd (omega arith)
  grown_shorter a (suc b) h other some =
      rw (ne_eqb (get_or u (suc b) 0) a other, grown) (overlap-grown u a (drop 1 (take (suc b) u)) (omega (arith, border-below (suc b) some (omega arith))))

  pub tried_shorter : (a b : ℕ) → (get_or u b 0 ≡ a → ⊥) → 0 < b → tried u a b ≡ suc (tried u a (border u b))
  tried_shorter a zero other some = absurd (omega arith)
  tried_shorter a (suc b) other some = rw (ne_eqb (get_or u (suc b) 0) a other, tried) (ap suc (compared_tried u a (drop 1 (take (suc b) u))))

  -- with no border left there is none
  pub grown-none : (a b : ℕ) → (get_or u b 0 ≡ a → ⊥) → b ≡ 0 → grown u a b ≡ 0
  grown-none a zero other none = rw (ne_eqb (get_or u 0 0) a other, grown) refl
  grown-none a (suc b) other none = absurd (omega arith)

  pub tried_none : (a b : ℕ) → b ≡ 0 → tried u a b ≡ 1
  tried_none a zero none = refl
  tried_none a (suc b) none = absurd (omega arith)

  -- where it follows, the border is one longer
  pub grown-longer : (a b : ℕ) → get_or u b 0 ≡ a → grown u a b ≡ suc b
  grown-longer a zero same = rw (eq-eqb (get_or u 0 0) a same, grown) refl
  grown-longer a (suc b) same = rw (eq-eqb (get_or u (suc b) 0) a same, grown) refl

  pub tried_once : (a b : ℕ) → get_or u b 0 ≡ a → tried u a b ≡ 1
  tried_once a zero same = refl
  tried_once a (suc b) same = rw (eq-eqb (get_or u (suc b) 0) a same, tried) refl

  pub counted_tried : (j : ℕ) → 0 < j → counted u j ≡ counted u (j - 1) + tried u (get_or u j 0) (border u j)
  counted_tried zero some = absurd (omega arith)
  counted_tried (suc j) some =
      let back : suc j - 1 ≡ j = omega arith in
      omega (arith, ap (counted u) back, compared_tried u (get_or u (suc j) 0) (drop 1 (take (suc j) u)))

  pub counted-some : (n : ℕ) → n ≤ counted u n
  counted-some zero = omega arith
  counted-some (suc n) = omega (arith, counted-some n, compared-some u (get_or u (suc n) 0) (drop 1 (take (suc n) u)))

  -- a tag brings two at most, and one more for each tag that the border loses
  pub counted-few : (n : ℕ) → n < length u → counted u n + border u (suc n) ≤ 2 * n
  counted-few zero h = omega (arith, border-none 1 (omega arith) h)
  counted-few (suc n) h =
      omega (
        arith,
        counted-few n (omega arith),
        compared-few u (get_or u (suc n) 0) (drop 1 (take (suc n) u)),
        ap (overlap u) (next_word (suc n) (omega arith) h),
      )
