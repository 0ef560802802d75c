-- Laws of the search: how it begins and goes on, that it ends, and what it then has shown.
use Prim.Native.Nat.{ℕ, zero, suc, ◌+◌, ◌-◌, ◌<◌, ◌≤◌}
use native.Mathlib.Omega.{arith}
use native.Mathlib.Decide.{ℕ_discrete}
use mathlib.Core.Logic.{◌⊎◌, inl, inr}
use mathlib.Core.Path.{◌≡◌, refl, sym, ap, ap₂, subst, ◌∙◌}
use mathlib.Core.Bool.{Bool, true, false}
use mathlib.Core.List.{List, [], ◌∷◌, ◌++◌, append-nil}
use lib.Dec.{eqb}
use lib.ListN.{length}
use lib.Seq.{append_snoc}
use borrow.Author.Tests.{eq-eqb, ne_eqb, lt-ltb, le-ltb}
use Rattle.words.specs.Word.{Below}
use Rattle.words.proofs.Word.{below_suc}
use Rattle.transducers.specs.Transducer.{Shape, puts}
use Rattle.transducers.specs.Run.{walk}
use Rattle.transducers.specs.Canonical.{Same, Inside}
use Rattle.transducers.proofs.Run.{walk-append, walk-below}
use Rattle.agreement.specs.Beside.{Beside}
use Rattle.agreement.specs.Search.{Agree, total, from, extend, renamed, own, Search, Closed}
use Rattle.agreement.proofs.Beside.{beside_refl, beside_sym, beside_trans}
use Rattle.agreement.proofs.Step.{beside-agrees, agrees-beside}

pub renamed-hit : (one other l : ℕ) → l ≡ one → renamed one other l ≡ other
renamed-hit one other l e = ap (λ (t : Bool). elim t as (λ x. ℕ) [ true ↦ other | false ↦ l ]) (eq-eqb l one e)

pub renamed-miss : (one other l : ℕ) → (l ≡ one → ⊥) → renamed one other l ≡ l
renamed-miss one other l ne = ap (λ (t : Bool). elim t as (λ x. ℕ) [ true ↦ other | false ↦ l ]) (ne_eqb l one ne)

-- one more, if the test passes
abbrev counts : Bool → ℕ → ℕ
counts t m = elim t [ true ↦ suc m | false ↦ m ]

counts_suc : (t : Bool) (m : ℕ) → counts t (suc m) ≡ suc (counts t m)
counts_suc true m = refl
counts_suc false m = refl

-- all are their own
own-all : (f : ℕ → ℕ) (n : ℕ) → ((x : ℕ) → x < n → f x ≡ x) → own f n ≡ n
own-all f zero h = refl
own-all f (suc n) h = ap₂ counts (eq-eqb (f n) n (h n (omega arith))) (own-all f n (λ x hx. h x (omega arith)))

own_same : (f g : ℕ → ℕ) (n : ℕ) → ((x : ℕ) → x < n → eqb (f x) x ≡ eqb (g x) x) → own f n ≡ own g n
own_same f g zero h = refl
own_same f g (suc n) h = ap₂ counts (h n (omega arith)) (own_same f g n (λ x hx. h x (omega arith)))

-- one that was its own is not: it is one less
module _ (f g : ℕ → ℕ) (c : ℕ) (gone : f c ≡ c → ⊥) (was : g c ≡ c) where
  own-less : (n : ℕ) → c < n → ((x : ℕ) → x < n → (x ≡ c → ⊥) → eqb (f x) x ≡ eqb (g x) x) → own g n ≡ suc (own f n)
  own-less zero h same = absurd (omega arith)
  own-less (suc n) h same = by (below_suc c n h) (λ lt. own-less n lt (λ x hx. same x (omega arith)))
    where
      by : (c < n) ⊎ (c ≡ n) → (c < n → own g n ≡ suc (own f n)) → own g (suc n) ≡ suc (own f (suc n))
      by (inl lt) less = ap₂ counts (sym (same n (omega arith) (λ e. omega arith))) (less lt) ∙ counts_suc (eqb (f n) n) (own f n)
      by (inr e) less =
          ap₂ counts (eq-eqb (g n) n (rw e at was)) (sym (own_same f g n (λ x hx. same x (omega arith) (λ d. omega arith))))
          ∙ ap suc (ap₂ counts (sym (ne_eqb (f n) n (rw e at gone))) refl)

-- if one is its own, some are
own-some : (f : ℕ → ℕ) (c : ℕ) → f c ≡ c → (n : ℕ) → c < n → 0 < own f n
own-some f c e zero h = absurd (omega arith)
own-some f c e (suc n) h = by (below_suc c n h) (own-some f c e n)
  where
    more : (t : Bool) (m : ℕ) → 0 < m → 0 < counts t m
    more true m p = omega arith
    more false m p = p

    by : (c < n) ⊎ (c ≡ n) → (c < n → 0 < own f n) → 0 < own f (suc n)
    by (inl lt) rest = more (eqb (f n) n) (own f n) (rest lt)
    by (inr d) rest = omega (arith, ap₂ counts (eq-eqb (f n) n (rw d at e)) (refl {a = own f n}))

module _ {A : Type 0} (f : ℕ → A) (n : ℕ) (v : A) where
  pub extend-at : extend f n v n ≡ v
  extend-at = ap (λ (t : Bool). elim t as (λ x. A) [ true ↦ v | false ↦ f n ]) (eq-eqb n n refl)

  pub extend-below : (j : ℕ) → j < n → extend f n v j ≡ f j
  extend-below j h = ap (λ (t : Bool). elim t as (λ x. A) [ true ↦ v | false ↦ f j ]) (ne_eqb j n (λ e. omega arith))

  -- what holds below n and at n
  pub extend-all : (P : ℕ → A → Type 0) → ((j : ℕ) → j < n → P j (f j)) → P n v → (j : ℕ) → j < n + 1 → P j (extend f n v j)
  extend-all P lower here j h = by (below_suc j n (omega arith))
    where
      by : (j < n) ⊎ (j ≡ n) → P j (extend f n v j)
      by (inl lt) = subst (P j) (sym (extend-below j lt)) (lower j lt)
      by (inr e) = subst (λ (i : ℕ). P i (extend f n v i)) (sym e) (subst (P n) (sym extend-at) here)

module _ (S T : Shape) where
  -- two of all states are beside one another
  abbrev Near : ℕ → ℕ → ℕ → ℕ → Type 0
  Near k m x y = Beside k m (from S T x) (from S T y)

  -- the states that a word leads to are
  abbrev NearAfter : ℕ → ℕ → List ℕ → Type 0
  NearAfter k m w = Beside k m (puts S (walk S 0 w)) (puts T (walk T 0 w))

  from-left : (x : ℕ) → x < S.count → from S T x ≡ puts S x
  from-left x h = ap (λ (t : Bool). elim t as (λ b. List ℕ → List ℕ) [ true ↦ puts S x | false ↦ puts T (x - S.count) ]) (lt-ltb x S.count h)

  from-right : (y : ℕ) → from S T (S.count + y) ≡ puts T y
  from-right y =
      ap (λ (t : Bool). elim t as (λ b. List ℕ → List ℕ) [ true ↦ puts S (S.count + y) | false ↦ puts T (S.count + y - S.count) ]) (le-ltb (S.count + y) S.count (omega arith))
      ∙ ap (puts T) back
    where
      back : S.count + y - S.count ≡ y
      back = omega arith

  beside-from : (k m x y : ℕ) → x < S.count → Near k m x (S.count + y) → Beside k m (puts S x) (puts T y)
  beside-from k m x y h b =
      subst (λ (P : List ℕ → List ℕ). Beside k m P (puts T y)) (from-left x h)
      (subst (λ (P : List ℕ → List ℕ). Beside k m (from S T x) P) (from-right y) b)

  from-beside : (k m x y : ℕ) → x < S.count → Beside k m (puts S x) (puts T y) → Near k m x (S.count + y)
  from-beside k m x y h b =
      subst (λ (P : List ℕ → List ℕ). Beside k m (from S T x) P) (sym (from-right y))
      (subst (λ (P : List ℕ → List ℕ). Beside k m P (puts T y)) (sym (from-left x h)) b)

-- every state is its own label, and no word is listed
pub search-start : (k : ℕ) (S T : Shape) (word : ℕ → List ℕ) (label : ℕ → ℕ) → ((x : ℕ) → x < total S T → label x ≡ x) → Search k S T 0 word label
search-start k S T word label self =
    record {
      below = λ j h. absurd (omega arith);
      agrees = λ j h. absurd (omega arith);
      short = λ j h. absurd (omega arith);
      linked = λ m listed x y hx hy e.
          let same : x ≡ y = omega (arith, self x hx, self y hy) in
          subst (Near S T k m x) same (beside_refl k m (from S T x));
      labels = λ x hx. (omega (arith, self x hx), ap label (self x hx));
      counted = omega (arith, own-all label (total S T) self);
    }

module _
    (k : ℕ)
    (S T : Shape)
    (n : ℕ)
    (word : ℕ → List ℕ)
    (label : ℕ → ℕ)
    (s : Search k S T n word label)
  where
    -- some label is its own, so fewer words are listed than there are states
    pub search_bound : 0 < total S T → n < total S T
    search_bound some =
        let l = s.labels 0 some in
        omega (arith, s.counted, own-some label (label 0) l.1 (total S T) l.0)

    module _
        (w : List ℕ)
        (hw : Below k w)
        (same : Agree S T w)
        (short : length w ≤ n)
        (left_in : walk S 0 w < S.count)
        (right_in : walk T 0 w < T.count)
        (differ : label (walk S 0 w) ≡ label (S.count + walk T 0 w) → ⊥)
        (label' : ℕ → ℕ)
        (is : (x : ℕ) → x < total S T → label' x ≡ renamed (label (S.count + walk T 0 w)) (label (walk S 0 w)) (label x))
      where
        -- the states that w leads to, the label that is kept and the one that goes
        abbrev left : ℕ
        left = walk S 0 w

        abbrev right : ℕ
        right = S.count + walk T 0 w

        abbrev kept : ℕ
        kept = label left

        abbrev gone : ℕ
        gone = label right

        left_here : left < total S T
        left_here = omega arith

        right-here : right < total S T
        right-here = omega arith

        hit : (x : ℕ) → x < total S T → label x ≡ gone → label' x ≡ kept
        hit x hx e = is x hx ∙ renamed-hit gone kept (label x) e

        miss : (x : ℕ) → x < total S T → (label x ≡ gone → ⊥) → label' x ≡ label x
        miss x hx ne = is x hx ∙ renamed-miss gone kept (label x) ne

        linked : (m : ℕ)
            → ((j : ℕ) → j < n + 1 → NearAfter S T k m (extend word n w j))
            → (x y : ℕ)
            → x < total S T
            → y < total S T
            → label' x ≡ label' y
            → Near S T k m x y
        linked m listed x y hx hy e =
            beside_trans k m (home x hx (ℕ_discrete (label x) gone))
            (subst (λ (z : ℕ). Near S T k m z y) (sym e) (beside_sym k m (home y hy (ℕ_discrete (label y) gone))))
          where
            -- states that had one label
            old : (u v : ℕ) → u < total S T → v < total S T → label u ≡ label v → Near S T k m u v
            old = s.linked m (λ j hj. subst (NearAfter S T k m) (extend-below word n w j hj) (listed j (omega arith)))

            -- the states that w leads to
            bridge : Near S T k m right left
            bridge =
                beside_sym k m (from-beside S T k m left (walk T 0 w) left_in (subst (NearAfter S T k m) (extend-at word n w) (listed n (omega arith))))

            home : (u : ℕ) → u < total S T → Dec (label u ≡ gone) → Near S T k m u (label' u)
            home u hu (yes h) =
                let l = s.labels left left_here in
                subst (Near S T k m u) (sym (hit u hu h))
                (beside_trans k m (old u right hu right-here h) (beside_trans k m bridge (old left kept left_here l.0 (sym l.1))))
            home u hu (no ne) =
                let l = s.labels u hu in
                subst (Near S T k m u) (sym (miss u hu ne)) (old u (label u) hu l.0 (sym l.1))

        labels : (x : ℕ) → x < total S T → Dec (label x ≡ gone) → (label' x < total S T) × (label' (label' x) ≡ label' x)
        labels x hx (yes h) =
            let l = s.labels left left_here in
            (rw (hit x hx h) l.0, ap label' (hit x hx h) ∙ miss kept l.0 (λ e. differ (sym l.1 ∙ e)) ∙ l.1 ∙ sym (hit x hx h))
        labels x hx (no ne) =
            let l = s.labels x hx in
            (rw (miss x hx ne) l.0, ap label' (miss x hx ne) ∙ miss (label x) l.0 (λ e. ne (sym l.1 ∙ e)) ∙ l.1 ∙ sym (miss x hx ne))

        -- only the label that goes is its own no longer
        others : (x : ℕ) → x < total S T → (x ≡ gone → ⊥) → Dec (label x ≡ gone) → eqb (label' x) x ≡ eqb (label x) x
        others x hx other (yes h) =
            ne_eqb (label' x) x (λ e. differ (sym (s.labels left left_here).1 ∙ ap label (sym (hit x hx h) ∙ e) ∙ h))
            ∙ sym (ne_eqb (label x) x (λ e. other (sym e ∙ h)))
        others x hx other (no ne) = ap (λ (l : ℕ). eqb l x) (miss x hx ne)

        fewer : own label (total S T) ≡ suc (own label' (total S T))
        fewer =
            let l = s.labels right right-here in
            own-less label' label gone (λ e. differ (sym (hit gone l.0 l.1) ∙ e)) l.1 (total S T) l.0
            (λ x hx other. others x hx other (ℕ_discrete (label x) gone))

        -- a word whose states differ in their labels is listed, and takes a label away
        pub search-listed : Search k S T (n + 1) (extend word n w) label'
        search-listed =
            record {
              below = extend-all word n w (λ j u. Below k u) s.below hw;
              agrees = extend-all word n w (λ j u. Agree S T u) s.agrees same;
              short = extend-all word n w (λ j u. length u ≤ j) s.short short;
              linked = linked;
              labels = λ x hx. labels x hx (ℕ_discrete (label x) gone);
              counted = omega (arith, s.counted, fewer);
            }

    -- where all is closed, both make the same of every word
    module _
        (inside-left : Inside k S)
        (inside-right : Inside k T)
        (some_left : 0 < S.count)
        (some_right : 0 < T.count)
        (closed : (j b : ℕ) → j < n → b < k → Closed S T word label j b)
      where
        -- so are the states behind a listed word and a tag more, if those behind every listed word are
        step_near : (m j a : ℕ) → j < n → a < k → ((i : ℕ) → i < n → NearAfter S T k m (word i)) → NearAfter S T k m (word j ++ (a ∷ []))
        step_near m j a hj ha listed =
            subst (λ (p : ℕ). Beside k m (puts S p) (puts T (walk T 0 (word j ++ (a ∷ []))))) (sym (walk-append S 0 (word j) (a ∷ [])))
            (subst (λ (q : ℕ). Beside k m (puts S left-state) (puts T q)) (sym (walk-append T 0 (word j) (a ∷ [])))
            (beside-from S T k m left-state right-state left_in
            (s.linked m listed left-state (S.count + right-state) (omega (arith, left_in)) (omega (arith, right_in)) (closed j a hj ha).level)))
          where
            left-state : ℕ
            left-state = S.next (walk S 0 (word j)) a

            right-state : ℕ
            right-state = T.next (walk T 0 (word j)) a

            left_in : left-state < S.count
            left_in = inside-left (walk S 0 (word j)) a (walk-below k S inside-left 0 some_left (word j) (s.below j hj)) ha

            right_in : right-state < T.count
            right_in = inside-right (walk T 0 (word j)) a (walk-below k T inside-right 0 some_right (word j) (s.below j hj)) ha

        -- of a listed word and at most m tags more both make the same
        agree_on : (m j : ℕ) → j < n → (x : List ℕ) → Below k x → length x ≤ m → Agree S T (word j ++ x)
        agree_on zero j hj [] hx le = rw append-nil (s.agrees j hj)
        agree_on zero j hj (a ∷ x) hx le = absurd (omega arith)
        agree_on (suc m) j hj [] hx le = rw append-nil (s.agrees j hj)
        agree_on (suc m) j hj (a ∷ x) hx le =
            subst (Agree S T) (append_snoc (word j) a x)
            (beside-agrees S T (word j ++ (a ∷ [])) k m (closed j a hj hx.0).agrees
            (step_near m j a hj hx.0 (λ i hi. agrees-beside S T (word i) k m (λ y hy ly. agree_on m i hi y hy ly))) x hx.1 (omega arith))

        pub search-ended : 0 < n → word 0 ≡ [] → Same k (puts S 0) (puts T 0)
        search-ended some first x hx = subst (λ (w : List ℕ). Agree S T (w ++ x)) first (agree_on (length x) 0 some x hx (omega arith))
