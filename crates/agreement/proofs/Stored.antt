-- Laws of a search that is stored in two rows of numbers: how it begins, goes on and ends, and what a word that differs shows.
use Prim.Native.Nat.{ℕ, ◌+◌, ◌*◌, ◌<◌, ◌≤◌}
use native.Mathlib.Omega.{arith}
use mathlib.Core.Logic.{◌⊎◌, inl, inr}
use mathlib.Core.Path.{◌≡◌, refl, sym, ap, ap₂, subst, ◌∙◌}
use mathlib.Core.List.{List, [], ◌∷◌, ◌++◌}
use lib.ListN.{length, length-append}
use Rattle.words.specs.Word.{Below}
use Rattle.words.proofs.Word.{below_suc, below-append}
use Rattle.transducers.specs.Transducer.{Shape, puts}
use Rattle.transducers.specs.Run.{walk}
use Rattle.transducers.specs.Canonical.{Same, Inside}
use Rattle.transducers.proofs.Run.{walk-append, walk-below}
use Rattle.agreement.specs.Search.{Agree, StepAgrees, total, extend, renamed, Search, Closed, ClosedTo}
use Rattle.agreement.specs.Stored.{left_at, right_at, before_at, tag_at, label_at, Chained, Searching, PairPut}
use Rattle.agreement.proofs.Step.{step-agrees, agrees-step}
use Rattle.agreement.proofs.Search.{renamed-hit, renamed-miss, extend-at, extend-below, extend-all, search-start, search-listed, search_bound, search-ended}

-- what is closed stays so with other labels that are equal where these are
closed-kept : {S T : Shape} {word word' : ℕ → List ℕ} {label label' : ℕ → ℕ} {j b : ℕ} → word' j ≡ word j
    → (label (S.next (walk S 0 (word j)) b) ≡ label (S.count + T.next (walk T 0 (word j)) b)
    → label' (S.next (walk S 0 (word j)) b) ≡ label' (S.count + T.next (walk T 0 (word j)) b))
    → Closed S T word label j b
    → Closed S T word' label' j b
closed-kept {S} {T} {label' = label'} {b = b} e on c =
    record {
      agrees = subst (λ (w : List ℕ). Agree S T (w ++ (b ∷ []))) (sym e) c.agrees;
      level = subst (λ (w : List ℕ). label' (S.next (walk S 0 w) b) ≡ label' (S.count + T.next (walk T 0 w) b)) (sym e) (on c.level);
    }

closed-tag : {k : ℕ} {S T : Shape} {word : ℕ → List ℕ} {label : ℕ → ℕ} {i a : ℕ}
    → ClosedTo k S T word label i a
    → Closed S T word label i a
    → ClosedTo k S T word label i (a + 1)
closed-tag {S = S} {T = T} {word = word} {label = label} {i = i} {a = a} c here =
    record { words = c.words; tags = λ b hb. by b (below_suc b a (omega arith)) }
  where
    by : (b : ℕ) → (b < a) ⊎ (b ≡ a) → Closed S T word label i b
    by b (inl lt) = c.tags b lt
    by b (inr e) = subst (Closed S T word label i) (sym e) here

module _ (k : ℕ) (S T : Shape) (inside-left : Inside k S) (inside-right : Inside k T) (some_left : 0 < S.count) (some_right : 0 < T.count) where
  -- the empty word, of which both make the same, is listed first
  pub stored-start : (labels labels' pairs pairs' : List ℕ)
      → S.final 0 ≡ T.final 0
      → ((x : ℕ) → x < total S T → label_at labels x ≡ x)
      → ((x : ℕ) → x < total S T → label_at labels' x ≡ renamed S.count 0 (label_at labels x))
      → PairPut pairs pairs' 0 0 0 0 0
      → Searching k S T 1 0 0 labels' pairs'
  stored-start labels labels' pairs pairs' final self is put =
      record {
        word = extend none 0 [];
        search = search-listed k S T 0 none (label_at labels) (search-start k S T none (label_at labels) self) [] tt final (omega arith)
            some_left some_right (λ e. omega (arith, left, right, e)) (label_at labels')
            (λ x hx. is x hx ∙ ap₂ (λ (one other : ℕ). renamed one other (label_at labels x)) (sym right) (sym left));
        chained = record {
          first = refl;
          before = λ j pos h. absurd (omega arith);
          tag = λ j pos h. absurd (omega arith);
          came = λ j pos h. absurd (omega arith);
        };
        lefts = extend-all none 0 [] (λ j w. left_at pairs' j ≡ walk S 0 w) (λ j h. absurd (omega arith)) put.left_is;
        rights = extend-all none 0 [] (λ j w. right_at pairs' j ≡ walk T 0 w) (λ j h. absurd (omega arith)) put.right_is;
        closed = record { words = λ j b hj hb. absurd (omega arith); tags = λ b hb. absurd (omega arith) };
        some = omega arith;
      }
    where
      none : ℕ → List ℕ
      none j = []

      left : label_at labels 0 ≡ 0
      left = self 0 (omega arith)

      right : label_at labels (S.count + 0) ≡ S.count
      right = omega (arith, self (S.count + 0) (omega arith))

  module _ {n i a : ℕ} {labels pairs : List ℕ} (s : Searching k S T n i a labels pairs) where
    pub stored_bound : n < total S T
    stored_bound = search_bound k S T n s.word (label_at labels) s.search (omega arith)

    walk-left : (j : ℕ) → j < n → walk S 0 (s.word j) < S.count
    walk-left j h = walk-below k S inside-left 0 some_left (s.word j) (s.search.below j h)

    walk-right : (j : ℕ) → j < n → walk T 0 (s.word j) < T.count
    walk-right j h = walk-below k T inside-right 0 some_right (s.word j) (s.search.below j h)

    pub stored-states : (j : ℕ) → j < n → (left_at pairs j < S.count) × (right_at pairs j < T.count)
    stored-states j h = (omega (arith, walk-left j h, s.lefts j h), omega (arith, walk-right j h, s.rights j h))

    module _ (hi : i < n) (ha : a < k) where
      -- the word with a tag more, and where it leads
      abbrev longer : List ℕ
      longer = s.word i ++ (a ∷ [])

      left-leads : S.next (left_at pairs i) a ≡ walk S 0 longer
      left-leads = ap (λ (p : ℕ). S.next p a) (s.lefts i hi) ∙ sym (walk-append S 0 (s.word i) (a ∷ []))

      right-leads : T.next (right_at pairs i) a ≡ walk T 0 longer
      right-leads = ap (λ (q : ℕ). T.next q a) (s.rights i hi) ∙ sym (walk-append T 0 (s.word i) (a ∷ []))

      longer-below : Below k longer
      longer-below = below-append k (s.word i) (a ∷ []) (s.search.below i hi) (ha, tt)

      longer-short : length longer ≤ i + 1
      longer-short = omega (arith, length-append (s.word i) (a ∷ []), s.search.short i hi)

      -- the stored states are those that the word leads to
      stored-agrees : StepAgrees S T (left_at pairs i) (right_at pairs i) a → Agree S T longer
      stored-agrees h =
          step-agrees S T (s.word i) a (s.search.agrees i hi)
          (subst (λ (p : ℕ). StepAgrees S T p (walk T 0 (s.word i)) a) (s.lefts i hi)
          (subst (λ (q : ℕ). StepAgrees S T (left_at pairs i) q a) (s.rights i hi) h))

      agrees-stored : Agree S T longer → StepAgrees S T (left_at pairs i) (right_at pairs i) a
      agrees-stored e =
          subst (λ (q : ℕ). StepAgrees S T (left_at pairs i) q a) (sym (s.rights i hi))
          (subst (λ (p : ℕ). StepAgrees S T p (walk T 0 (s.word i)) a) (sym (s.lefts i hi))
          (agrees-step S T (s.word i) a (s.search.agrees i hi) e))

      -- the word with a tag more is closed where its states have one label
      stored-closed : StepAgrees S T (left_at pairs i) (right_at pairs i) a
          → (label : ℕ → ℕ)
          → label (S.next (left_at pairs i) a) ≡ label (S.count + T.next (right_at pairs i) a)
          → Closed S T s.word label i a
      stored-closed h label e =
          record {
            agrees = stored-agrees h;
            level = subst (λ (p : ℕ). label (S.next p a) ≡ label (S.count + T.next (walk T 0 (s.word i)) a)) (s.lefts i hi)
                (subst (λ (q : ℕ). label (S.next (left_at pairs i) a) ≡ label (S.count + T.next q a)) (s.rights i hi) e);
          }

      -- its states have one label: nothing is listed
      pub stored-kept : StepAgrees S T (left_at pairs i) (right_at pairs i) a
          → label_at labels (S.next (left_at pairs i) a) ≡ label_at labels (S.count + T.next (right_at pairs i) a)
          → Searching k S T n i (a + 1) labels pairs
      stored-kept h e =
          record {
            word = s.word;
            search = s.search;
            chained = s.chained;
            lefts = s.lefts;
            rights = s.rights;
            closed = closed-tag s.closed (stored-closed h (label_at labels) e);
            some = s.some;
          }

      -- it differs: a word of which the two make different words
      pub stored-differs : (StepAgrees S T (left_at pairs i) (right_at pairs i) a → ⊥)
          → Below k (s.word i ++ (a ∷ []))
          × (puts S 0 (s.word i ++ (a ∷ [])) ≡ puts T 0 (s.word i ++ (a ∷ [])) → ⊥)
          × (length (s.word i ++ (a ∷ [])) ≤ i + 1)
      stored-differs h = (longer-below, λ e. h (agrees-stored e), longer-short)

      -- its states have two labels: it is listed, and the second label becomes the first
      module _
          (agreed : StepAgrees S T (left_at pairs i) (right_at pairs i) a)
          (differ : label_at labels (S.next (left_at pairs i) a) ≡ label_at labels (S.count + T.next (right_at pairs i) a) → ⊥)
          (labels' pairs' : List ℕ)
          (put : PairPut pairs pairs' n (S.next (left_at pairs i) a) (T.next (right_at pairs i) a) i a)
          (is : (x : ℕ)
          → x < total S T
          → label_at labels' x
          ≡ renamed (label_at labels (S.count + T.next (right_at pairs i) a)) (label_at labels (S.next (left_at pairs i) a)) (label_at labels x))
        where
          abbrev word' : ℕ → List ℕ
          word' = extend s.word n longer

          same_word : (j : ℕ) → j < n → word' j ≡ s.word j
          same_word = extend-below s.word n longer

          listed : Search k S T (n + 1) word' (label_at labels')
          listed =
              search-listed k S T n s.word (label_at labels) s.search longer longer-below (stored-agrees agreed) (omega (arith, longer-short))
              (walk-below k S inside-left 0 some_left longer longer-below) (walk-below k T inside-right 0 some_right longer longer-below)
              (λ e. differ (ap (label_at labels) left-leads ∙ e ∙ ap (λ (q : ℕ). label_at labels (S.count + q)) (sym right-leads)))
              (label_at labels')
              (λ x hx. is x hx
              ∙ ap₂ (λ (p q : ℕ). renamed (label_at labels (S.count + q)) (label_at labels p) (label_at labels x)) left-leads right-leads)

          onward : (l l' t t' : ℕ) → l < n → l' ≡ l → t' ≡ t → s.word l ++ (t ∷ []) ≡ word' l' ++ (t' ∷ [])
          onward l l' t t' h e d = ap₂ (λ (w : List ℕ) (c : ℕ). w ++ (c ∷ [])) (sym (same_word l h) ∙ ap word' (sym e)) (sym d)

          before : (j : ℕ) → 0 < j → (j < n) ⊎ (j ≡ n) → before_at pairs' j < j
          before j pos (inl lt) = omega (arith, put.kept (4 * j + 2) (omega arith), s.chained.before j pos lt)
          before j pos (inr e) = omega (arith, ap (before_at pairs') e, put.before_is)

          tag : (j : ℕ) → 0 < j → (j < n) ⊎ (j ≡ n) → tag_at pairs' j < k
          tag j pos (inl lt) = omega (arith, put.kept (4 * j + 3) (omega arith), s.chained.tag j pos lt)
          tag j pos (inr e) = omega (arith, ap (tag_at pairs') e, put.tag_is)

          came : (j : ℕ) → 0 < j → (j < n) ⊎ (j ≡ n) → word' j ≡ word' (before_at pairs' j) ++ (tag_at pairs' j ∷ [])
          came j pos (inl lt) =
              same_word j lt ∙ s.chained.came j pos lt
              ∙ onward (before_at pairs j) (before_at pairs' j) (tag_at pairs j) (tag_at pairs' j) (omega (arith, s.chained.before j pos lt))
              (put.kept (4 * j + 2) (omega arith)) (put.kept (4 * j + 3) (omega arith))
          came j pos (inr e) =
              ap word' e ∙ extend-at s.word n longer
              ∙ onward i (before_at pairs' j) a (tag_at pairs' j) hi (ap (before_at pairs') e ∙ put.before_is) (ap (tag_at pairs') e ∙ put.tag_is)

          chained : Chained k (n + 1) word' pairs'
          chained =
              record {
                first = same_word 0 s.some ∙ s.chained.first;
                before = λ j pos h. before j pos (below_suc j n (omega arith));
                tag = λ j pos h. tag j pos (below_suc j n (omega arith));
                came = λ j pos h. came j pos (below_suc j n (omega arith));
              }

          lefts : (j : ℕ) → j < n + 1 → left_at pairs' j ≡ walk S 0 (word' j)
          lefts =
              extend-all s.word n longer (λ j w. left_at pairs' j ≡ walk S 0 w)
              (λ j h. put.kept (4 * j) (omega arith) ∙ s.lefts j h) (put.left_is ∙ left-leads)

          rights : (j : ℕ) → j < n + 1 → right_at pairs' j ≡ walk T 0 (word' j)
          rights =
              extend-all s.word n longer (λ j w. right_at pairs' j ≡ walk T 0 w)
              (λ j h. put.kept (4 * j + 1) (omega arith) ∙ s.rights j h) (put.right_is ∙ right-leads)

          -- equal labels stay equal
          still : (x y : ℕ) → x < total S T → y < total S T → label_at labels x ≡ label_at labels y → label_at labels' x ≡ label_at labels' y
          still x y hx hy e =
              is x hx
              ∙ ap (renamed (label_at labels (S.count + T.next (right_at pairs i) a)) (label_at labels (S.next (left_at pairs i) a))) e
              ∙ sym (is y hy)

          closed-still : (j b : ℕ) → j < n → b < k → Closed S T s.word (label_at labels) j b → Closed S T word' (label_at labels') j b
          closed-still j b hj hb =
              let p = inside-left (walk S 0 (s.word j)) b (walk-left j hj) hb in
              let q = inside-right (walk T 0 (s.word j)) b (walk-right j hj) hb in
              closed-kept (same_word j hj)
              (still (S.next (walk S 0 (s.word j)) b) (S.count + T.next (walk T 0 (s.word j)) b) (omega arith) (omega arith))

          closed : ClosedTo k S T word' (label_at labels') i a
          closed =
              record {
                words = λ j b hj hb. closed-still j b (omega arith) hb (s.closed.words j b hj hb);
                tags = λ b hb. closed-still i b hi (omega arith) (s.closed.tags b hb);
              }

          levelled : label_at labels' (S.next (left_at pairs i) a) ≡ label_at labels' (S.count + T.next (right_at pairs i) a)
          levelled =
              let at = stored-states i hi in
              let p = inside-left (left_at pairs i) a at.0 ha in
              let q = inside-right (right_at pairs i) a at.1 ha in
              is (S.next (left_at pairs i) a) (omega arith)
              ∙ renamed-miss (label_at labels (S.count + T.next (right_at pairs i) a)) (label_at labels (S.next (left_at pairs i) a))
              (label_at labels (S.next (left_at pairs i) a)) differ
              ∙ sym
              (is (S.count + T.next (right_at pairs i) a) (omega arith)
              ∙ renamed-hit (label_at labels (S.count + T.next (right_at pairs i) a)) (label_at labels (S.next (left_at pairs i) a))
              (label_at labels (S.count + T.next (right_at pairs i) a)) refl)

          here : Closed S T word' (label_at labels') i a
          here = closed-kept (same_word i hi) (λ e. e) (stored-closed agreed (label_at labels') levelled)

          pub stored-listed : Searching k S T (n + 1) i (a + 1) labels' pairs'
          stored-listed =
              record {
                word = word';
                search = listed;
                chained = chained;
                lefts = lefts;
                rights = rights;
                closed = closed-tag closed here;
                some = omega arith;
              }

  -- all tags of a word are done with
  pub stored_next : {n i : ℕ} {labels pairs : List ℕ} → Searching k S T n i k labels pairs → i < n → Searching k S T n (i + 1) 0 labels pairs
  stored_next {i = i} {labels = labels} s hi =
      record {
        word = s.word;
        search = s.search;
        chained = s.chained;
        lefts = s.lefts;
        rights = s.rights;
        closed = record { words = λ j b hj hb. by j b (below_suc j i (omega arith)) hb; tags = λ b hb. absurd (omega arith) };
        some = s.some;
      }
    where
      by : (j b : ℕ) → (j < i) ⊎ (j ≡ i) → b < k → Closed S T s.word (label_at labels) j b
      by j b (inl lt) hb = s.closed.words j b lt hb
      by j b (inr e) hb = subst (λ (l : ℕ). Closed S T s.word (label_at labels) l b) (sym e) (s.closed.tags b hb)

  -- all words are done with
  pub stored-ended : {n : ℕ} {labels pairs : List ℕ} → Searching k S T n n 0 labels pairs → Same k (puts S 0) (puts T 0)
  stored-ended {n} {labels} s =
      search-ended k S T n s.word (label_at labels) s.search inside-left inside-right some_left some_right s.closed.words s.some
      s.chained.first
