-- The transducer of a matcher does what the rule does, whatever the matcher keeps, if it keeps the longest end that matches.
use Prim.Native.Nat.{ℕ, zero, suc, ◌+◌, ◌-◌, ◌≤◌, ◌<◌}
use native.Mathlib.Omega.{arith}
use native.Mathlib.Decide.{ℕ_discrete, dec_lt}
use mathlib.Core.Path.{◌≡◌, refl, sym, ap, ap₂, ◌∙◌, subst}
use mathlib.Core.List.{List, [], ◌∷◌, ◌++◌, append_assoc, append-nil}
use mathlib.Core.Bool.{Bool, true, false, false≢true}
use lib.ListN.{length, take, drop, set, length-append, length-take, length-drop, length-set, take-append-drop, drop_of_length-le}
use lib.Seq.{take_all, take-append-add, take-append-le, take_at, take-set-le, length-take-le}
use lib.Dec.{eqb}
use borrow.Author.Tests.{eq-eqb, ne_eqb}
use Rattle.words.specs.Word.{Below}
use Rattle.words.proofs.Word.{below-append, below-take, below-drop, below_set}
use Rattle.cascades.specs.Rule.{Kind, once, everywhere}
use Rattle.cascades.specs.Rewrite.{behind}
use Rattle.transducers.specs.Transducer.{Shape, puts}
use Rattle.transducers.specs.Canonical.{Sound, Held}
use Rattle.minimal.specs.Matcher.{Matcher, held, said, moves, matching}

-- ---- the longest end that matches

-- of t, where `front z` says whether z matches the pattern's first places; and what stands before it
abbrev pub ending : (List ℕ → Bool) → List ℕ → List ℕ
ending front [] = []
ending front (b ∷ t) = elim (front (b ∷ t)) [ true ↦ b ∷ t | false ↦ ending front t ]

abbrev pub before : (List ℕ → Bool) → List ℕ → List ℕ
before front [] = []
before front (b ∷ t) = elim (front (b ∷ t)) [ true ↦ [] | false ↦ b ∷ before front t ]

module _ (front : List ℕ → Bool) where
  ending-split : (t : List ℕ) → before front t ++ ending front t ≡ t
  ending-split [] = refl
  ending-split (b ∷ t) = by (front (b ∷ t)) (ending-split t)
    where
      by : (c : Bool) → before front t ++ ending front t ≡ t
          → ◌≡◌ {A = List ℕ} (elim c [ true ↦ [] | false ↦ b ∷ before front t ] ++ elim c [ true ↦ b ∷ t | false ↦ ending front t ]) (b ∷ t)
      by true e = refl
      by false e = ap {B = List ℕ} (λ l. b ∷ l) e

  pub ending-front : front [] ≡ true → (t : List ℕ) → front (ending front t) ≡ true
  ending-front n [] = n
  ending-front n (b ∷ t) = by (front (b ∷ t)) refl (ending-front n t)
    where
      by : (c : Bool) → front (b ∷ t) ≡ c → front (ending front t) ≡ true → front (elim c as (λ x. List ℕ) [ true ↦ b ∷ t | false ↦ ending front t ]) ≡ true
      by true e f = e
      by false e f = f

  pub ending_le : (t : List ℕ) → length (ending front t) ≤ length t
  ending_le t = omega (arith, simp length-append at (ap length (ending-split t)))

  ending-whole : (t : List ℕ) → length (ending front t) ≡ length t → ending front t ≡ t
  ending-whole [] e = refl
  ending-whole (b ∷ t) e = by (front (b ∷ t)) e
    where
      by : (c : Bool) → length {A = ℕ} (elim c as (λ x. List ℕ) [ true ↦ b ∷ t | false ↦ ending front t ]) ≡ suc (length t)
          → ◌≡◌ {A = List ℕ} (elim c [ true ↦ b ∷ t | false ↦ ending front t ]) (b ∷ t)
      by true e = refl
      by false e = absurd (omega (arith, ending_le t))

-- ---- what is asked of a pattern, a rewriting and a matcher

-- the words that match the pattern's first places; from the place on they are the row's
pub record Fronts (row : List ℕ) (place : ℕ) (front : List ℕ → Bool) : Type 0 where
  pub inside : place < length row
  pub none : front [] ≡ true
  pub shorter : (z w : List ℕ) → front (z ++ w) ≡ true → front z ≡ true
  pub few : (z : List ℕ) → front z ≡ true → length z ≤ length row
  pub plain : (z : List ℕ) → front z ≡ true → drop place z ≡ drop place (take (length z) row)

-- R gives the leftmost match the new tag, and the rest is treated by the rule's kind
pub record Rewrites (kind : Kind) (row : List ℕ) (place tag : ℕ) (front : List ℕ → Bool) (R : List ℕ → List ℕ) : Type 0 where
  pub none : R [] ≡ []
  pub other : (a : ℕ) (w : List ℕ) → ((m v : List ℕ) → front m ≡ true → length m ≡ length row → a ∷ w ≡ m ++ v → ⊥) → R (a ∷ w) ≡ a ∷ R w
  pub match : (m v : List ℕ) → front m ≡ true → length m ≡ length row → R (m ++ v) ≡ set m place tag ++ behind kind R v

-- after a match the matcher stays there, or begins again
abbrev pub Fires : Kind → ℕ → Matcher → Type 0
Fires once n M = M.longest M.fired ≡ n
Fires everywhere n M = M.fired ≡ 0

-- `code z` is the matcher's state after z
pub record Matches (kind : Kind) (row : List ℕ) (front : List ℕ → Bool) (M : Matcher) (code : List ℕ → ℕ) : Type 0 where
  pub start : code [] ≡ 0
  pub codes : (z : List ℕ) → front z ≡ true → length z < length row → M.longest (code z) ≡ length z
  pub steps : (z : List ℕ) (a : ℕ) → front z ≡ true → length z < length row
      → (M.longest (M.step (code z) a) ≡ length (ending front (z ++ (a ∷ []))))
      × (length (ending front (z ++ (a ∷ []))) < length row → M.step (code z) a ≡ code (ending front (z ++ (a ∷ []))))
  pub some : 0 < M.states
  pub low : M.longest 0 ≡ 0
  pub few : (s : ℕ) → s < M.states → M.longest s ≤ length row
  pub one_more : (s a : ℕ) → s < M.states → M.longest s < length row → (M.longest (M.step s a) ≤ suc (M.longest s)) × (M.longest (M.step s a) ≤ length row)
  pub step-below : (s a : ℕ) → s < M.states → M.longest s < length row → M.longest (M.step s a) < length row → M.step s a < M.states
  pub fired-below : M.fired < M.states
  pub fires : Fires kind (length row) M

-- ---- the rewriting passes over what matches nowhere

module _ (kind : Kind) (row : List ℕ) (place tag : ℕ) (front : List ℕ → Bool) (F : Fronts row place front) (R : List ℕ → List ℕ) (W : Rewrites kind row place tag front R) where
  -- a word shorter than the pattern is unchanged
  rewrites_short : (w : List ℕ) → length w < length row → R w ≡ w
  rewrites_short [] h = W.none
  rewrites_short (a ∷ w) h =
      W.other a w (λ m v f l e. omega (arith, simp length-append at (ap length e))) ∙ ap {B = List ℕ} (λ l. a ∷ l) (rewrites_short w (omega arith))

  rewrites_passes : (t x : List ℕ) → length t ≤ length row → R (t ++ x) ≡ before front t ++ R (ending front t ++ x)
  rewrites_passes [] x le = refl
  rewrites_passes (b ∷ t) x le = by (front (b ∷ t)) refl (rewrites_passes t x (omega arith))
    where
      no_match : front (b ∷ t) ≡ false → (m v : List ℕ) → front m ≡ true → length m ≡ length row → b ∷ (t ++ x) ≡ m ++ v → ⊥
      no_match e m v f l g =
          let n = length (b ∷ t) in
          let begins : take n m ≡ b ∷ t = sym (take-append-le n m v (omega arith)) ∙ ap (take n) (sym g) ∙ take_at (b ∷ t) x n refl in
          let whole : front (take n m ++ drop n m) ≡ true = subst (λ (y : List ℕ). front y ≡ true) (sym (take-append-drop n m)) f in
          false≢true (sym e ∙ ap front (sym begins) ∙ F.shorter (take n m) (drop n m) whole)

      by : (c : Bool) → front (b ∷ t) ≡ c → R (t ++ x) ≡ before front t ++ R (ending front t ++ x)
          → R (b ∷ (t ++ x)) ≡ elim c as (λ y. List ℕ) [ true ↦ [] | false ↦ b ∷ before front t ] ++ R (elim c as (λ y. List ℕ) [ true ↦ b ∷ t | false ↦ ending front t ] ++ x)
      by true e rest = refl
      by false e rest = W.other b (t ++ x) (no_match e) ∙ ap {B = List ℕ} (λ l. b ∷ l) rest

-- ---- the transducer

-- what comes before an end that is cut off
cut : (a b c e : List ℕ) → a ++ b ≡ c ++ e → length e ≤ length b → a ++ take (length b - length e) b ≡ c
cut a b c e h le =
    sym (take-append-add a b (length b - length e))
    ∙ ap (take (length a + (length b - length e))) h
    ∙ take_at c e (length a + (length b - length e)) (omega (arith, simp length-append at (ap length h)))

-- a tag set at the first place of equal ends
drop-set : (p : ℕ) (v w : List ℕ) (t : ℕ) → length v ≡ length w → drop p v ≡ drop p w → drop p (set v p t) ≡ drop p (set w p t)
drop-set p [] [] t l e = refl
drop-set p [] (b ∷ w) t l e = absurd (omega arith)
drop-set p (a ∷ v) [] t l e = absurd (omega arith)
drop-set zero (a ∷ v) (b ∷ w) t l e = cc
drop-set (suc p) (a ∷ v) (b ∷ w) t l e = drop-set p v w t (omega arith) e

module _ (row : List ℕ) (place tag : ℕ) where
  abbrev n : ℕ
  n = length row

  pub held_in : (j : ℕ) → j < n → held row place j ≡ drop place (take j row)
  held_in j h = cc (ne_eqb j n (λ e. omega arith))

  pub held_all : (j : ℕ) → j ≡ n → held row place j ≡ []
  held_all j e = cc (eq-eqb j n e)

  held_none : place < n → held row place 0 ≡ []
  held_none inside = held_in 0 (omega arith) ∙ drop_of_length-le [] {i = place} (omega arith)

  pub held-length : (j : ℕ) → j < n → length (held row place j) ≡ j - place
  held-length j h = omega (arith, ap length (held_in j h), length-drop place (take j row), length-take-le j row (omega arith))

  pub said-after : (j a i : ℕ) → j ≡ n → said row place tag j a i ≡ a ∷ []
  said-after j a i e = cc (eq-eqb j n e)

  pub said-match : (j a i : ℕ) → j < n → i ≡ n → said row place tag j a i ≡ drop place (set row place tag)
  said-match j a i h e = cc (ne_eqb j n (λ g. omega arith), eq-eqb i n e)

  pub said_on : (j a i : ℕ) → j < n → i < n
      → said row place tag j a i ≡ take (suc (length (held row place j)) - length (held row place i)) (held row place j ++ (a ∷ []))
  said_on j a i h l = cc (ne_eqb j n (λ g. omega arith), ne_eqb i n (λ g. omega arith))

  module _ (M : Matcher) where
    pub moves-after : (s a : ℕ) → M.longest s ≡ n → moves n M s a ≡ s
    moves-after s a e = cc (eq-eqb (M.longest s) n e)

    pub moves-match : (s a : ℕ) → M.longest s < n → M.longest (M.step s a) ≡ n → moves n M s a ≡ M.fired
    moves-match s a h e = cc (ne_eqb (M.longest s) n (λ g. omega arith), eq-eqb (M.longest (M.step s a)) n e)

    pub moves_on : (s a : ℕ) → M.longest s < n → M.longest (M.step s a) < n → moves n M s a ≡ M.step s a
    moves_on s a h l = cc (ne_eqb (M.longest s) n (λ g. omega arith), ne_eqb (M.longest (M.step s a)) n (λ g. omega arith))

    -- where all is matched the rest is put out as it is
    pub puts-end : (s : ℕ) → M.longest s ≡ n → (x : List ℕ) → puts (matching row place tag M) s x ≡ x
    puts-end s e [] = held_all (M.longest s) e
    puts-end s e (a ∷ x) =
        ap₂ (λ (o w : List ℕ). o ++ w) (said-after (M.longest s) a (M.longest (M.step s a)) e)
        (ap (λ (q : ℕ). puts (matching row place tag M) q x) (moves-after s a e) ∙ puts-end s e x)

    -- after a match nothing is held
    module _ (inside : place < n) (low : M.longest 0 ≡ 0) where
      fired-empty : (kind : Kind) → Fires kind n M → held row place (M.longest M.fired) ≡ []
      fired-empty once e = held_all (M.longest M.fired) e
      fired-empty everywhere e = ap (λ (s : ℕ). held row place (M.longest s)) e ∙ ap (held row place) low ∙ held_none inside

      -- nor after a tag that completes the pattern or stands in no match
      pub moves_quiet : (kind : Kind) → Fires kind n M → (s a : ℕ) → M.longest s ≤ n
          → (M.longest s < n → (M.longest (M.step s a) ≤ n) × (M.longest (M.step s a) < n → M.longest (M.step s a) ≡ 0))
          → held row place (M.longest (moves n M s a)) ≡ []
      moves_quiet kind f s a le step = by (dec_lt (M.longest s) n) (dec_lt (M.longest (M.step s a)) n)
        where
          at : (i j : ℕ) → i ≡ j → held row place (M.longest j) ≡ [] → held row place (M.longest i) ≡ []
          at i j e h = ap (λ (q : ℕ). held row place (M.longest q)) e ∙ h

          by : Dec (M.longest s < n) → Dec (M.longest (M.step s a) < n) → held row place (M.longest (moves n M s a)) ≡ []
          by (no b) d = at (moves n M s a) s (moves-after s a (omega arith)) (held_all (M.longest s) (omega arith))
          by (yes b) (no d) = at (moves n M s a) M.fired (moves-match s a b (omega (arith, (step b).0))) (fired-empty kind f)
          by (yes b) (yes d) = at (moves n M s a) (M.step s a) (moves_on s a b d) (ap (held row place) ((step b).1 d) ∙ held_none inside)

module _ (kind : Kind) (row : List ℕ) (place tag : ℕ) (front : List ℕ → Bool) (F : Fronts row place front) (R : List ℕ → List ℕ) (W : Rewrites kind row place tag front R)
    (M : Matcher) (code : List ℕ → ℕ) (C : Matches kind row front M code) where
  abbrev pub Before : List ℕ → Type 0
  Before x = (z : List ℕ) → front z ≡ true → length z < length row → take place z ++ puts (matching row place tag M) (code z) x ≡ R (z ++ x)

  -- what is put out at a step that does not complete the pattern, after what was put out before
  passed : (z : List ℕ) (a : ℕ) → front z ≡ true → length z < length row → length (ending front (z ++ (a ∷ []))) < length row
      → take place z ++ said row place tag (length z) a (length (ending front (z ++ (a ∷ [])))) ≡ before front (z ++ (a ∷ [])) ++ take place (ending front (z ++ (a ∷ [])))
  passed z a f h l =
      let t = z ++ (a ∷ []) in
      let y = ending front t in
      let g : front y ≡ true = ending-front front F.none t in
      let held-z : held row place (length z) ≡ drop place z = held_in row place tag (length z) h ∙ sym (F.plain z f) in
      let held-y : held row place (length y) ≡ drop place y = held_in row place tag (length y) l ∙ sym (F.plain y g) in
      let is-t : take place z ++ (drop place z ++ (a ∷ [])) ≡ (before front t ++ take place y) ++ drop place y =
      sym (append_assoc (take place z) (drop place z) (a ∷ [])) ∙ ap (λ (w : List ℕ). w ++ (a ∷ [])) (take-append-drop place z)
      ∙ sym (ending-split front t) ∙ ap (λ (w : List ℕ). before front t ++ w) (sym (take-append-drop place y))
      ∙ sym (append_assoc (before front t) (take place y) (drop place y))
      in
      let fits : length (drop place y) ≤ length (drop place z ++ (a ∷ [])) =
      omega (arith, length-drop place y, length-drop place z, length-append (drop place z) (a ∷ []), ending_le front t, length-append z (a ∷ [])) in
      let lengths : suc (length (held row place (length z))) - length (held row place (length y)) ≡ length (drop place z ++ (a ∷ [])) - length (drop place y) =
      omega (arith, ap length held-z, ap length held-y, length-append (drop place z) (a ∷ [])) in
      ap (λ (w : List ℕ). take place z ++ w) (said_on row place tag (length z) a (length y) h l ∙ ap₂ (λ (i : ℕ) (w : List ℕ). take i (w ++ (a ∷ []))) lengths held-z)
      ∙ cut (take place z) (drop place z ++ (a ∷ [])) (before front t ++ take place y) (drop place y) is-t fits

  -- the new tag in a whole match, from the place on
  replaced : (m : List ℕ) → front m ≡ true → length m ≡ length row → set m place tag ≡ take place m ++ drop place (set row place tag)
  replaced m f l =
      sym (take-append-drop place (set m place tag))
      ∙ ap₂ (λ (x y : List ℕ). x ++ y) (take-set-le place m place tag (omega arith)) (drop-set place m row tag l (F.plain m f ∙ ap (λ (i : ℕ). drop place (take i row)) l ∙ ap (drop place) (take_all (length row) row (omega arith))))

  -- the rest after a match, by the rule's kind
  after : (x : List ℕ) → Before x → puts (matching row place tag M) M.fired x ≡ behind kind R x
  after x before = by kind C.fires
    where
      by : (i : Kind) → Fires i (length row) M → puts (matching row place tag M) M.fired x ≡ behind i R x
      by once f = puts-end row place tag M M.fired f x
      by everywhere f =
          ap (λ (s : ℕ). puts (matching row place tag M) s x) (f ∙ sym C.start)
          ∙ ap (λ (o : List ℕ). o ++ puts (matching row place tag M) (code []) x) (sym (take_all place [] (omega arith)))
          ∙ before [] F.none (omega (arith, F.inside))

  -- what was put out before and is still put out is what the rule makes of what was matched and is read
  pub does-before : (x : List ℕ) → Before x
  does-before [] z f h =
      ap (λ (j : ℕ). take place z ++ held row place j) (C.codes z f h)
      ∙ ap (λ (w : List ℕ). take place z ++ w) (held_in row place tag (length z) h ∙ sym (F.plain z f))
      ∙ take-append-drop place z
      ∙ sym (rewrites_short kind row place tag front F R W z h)
      ∙ ap R (sym (append-nil z))
  does-before (a ∷ x) z f h = by (ℕ_discrete (length y) (length row)) (does-before x) ∙ ap R (append_assoc z (a ∷ []) x)
    where
      S : Shape
      S = matching row place tag M

      t : List ℕ
      t = z ++ (a ∷ [])

      y : List ℕ
      y = ending front t

      y_front : front y ≡ true
      y_front = ending-front front F.none t

      t_length : length t ≡ suc (length z)
      t_length = length-append z (a ∷ []) ∙ (omega arith)

      said-is : said row place tag (M.longest (code z)) a (M.longest (M.step (code z) a)) ≡ said row place tag (length z) a (length y)
      said-is = ap₂ (λ (j i : ℕ). said row place tag j a i) (C.codes z f h) (C.steps z a f h).0

      by : Dec (length y ≡ length row) → Before x
          → take place z ++ (said row place tag (M.longest (code z)) a (M.longest (M.step (code z) a)) ++ puts S (moves (length row) M (code z) a) x) ≡ R (t ++ x)
      by (yes e) rest =
          let whole : y ≡ t = ending-whole front t (omega (arith, ending_le front t, t_length)) in
          let t-front : front t ≡ true = subst (λ (w : List ℕ). front w ≡ true) whole y_front in
          let t-long : length t ≡ length row = sym (ap length whole) ∙ e in
          let fires : moves (length row) M (code z) a ≡ M.fired =
          moves-match row place tag M (code z) a (omega (arith, C.codes z f h)) ((C.steps z a f h).0 ∙ e)
          in
          ap₂ (λ (o w : List ℕ). take place z ++ (o ++ w)) (said-is ∙ said-match row place tag (length z) a (length y) h e) (ap (λ (s : ℕ). puts S s x) fires ∙ after x rest)
          ∙ sym (append_assoc (take place z) (drop place (set row place tag)) (behind kind R x))
          ∙ ap (λ (w : List ℕ). (w ++ drop place (set row place tag)) ++ behind kind R x) (sym (take-append-le place z (a ∷ []) (omega (arith, F.inside, t_length, t-long))))
          ∙ ap (λ (w : List ℕ). w ++ behind kind R x) (sym (replaced t t-front t-long))
          ∙ sym (W.match t x t-front t-long)
      by (no g) rest =
          let few : length y < length row = omega (arith, F.few y y_front, g) in
          let on : moves (length row) M (code z) a ≡ code y =
          moves_on row place tag M (code z) a (omega (arith, C.codes z f h)) (omega (arith, (C.steps z a f h).0)) ∙ (C.steps z a f h).1 few
          in
          ap₂ (λ (o w : List ℕ). take place z ++ (o ++ w)) said-is (ap (λ (s : ℕ). puts S s x) on)
          ∙ sym (append_assoc (take place z) (said row place tag (length z) a (length y)) (puts S (code y) x))
          ∙ ap (λ (w : List ℕ). w ++ puts S (code y) x) (passed z a f h few)
          ∙ append_assoc (before front t) (take place y) (puts S (code y) x)
          ∙ ap (λ (w : List ℕ). before front t ++ w) (rest y y_front few)
          ∙ sym (rewrites_passes kind row place tag front F R W t x (omega (arith, t_length)))

-- ---- sound, and what is held

module _ (k : ℕ) (kind : Kind) (row : List ℕ) (place tag : ℕ) (front : List ℕ → Bool) (F : Fronts row place front) (M : Matcher) (code : List ℕ → ℕ) (C : Matches kind row front M code)
    (row-Below : Below k row) (tag_below : tag < k) where
  -- how a state and a step stand to the whole pattern
  data Case (s a : ℕ) : Type 0 where
    done : M.longest s ≡ length row → Case s a
    fires : M.longest s < length row → M.longest (M.step s a) ≡ length row → Case s a
    on : M.longest s < length row → M.longest (M.step s a) < length row → Case s a

  case : (s a : ℕ) → s < M.states → Case s a
  case s a h = by (ℕ_discrete (M.longest s) (length row)) (ℕ_discrete (M.longest (M.step s a)) (length row))
    where
      by : Dec (M.longest s ≡ length row) → Dec (M.longest (M.step s a) ≡ length row) → Case s a
      by (yes e) d = done e
      by (no g) (yes e) = fires (omega (arith, C.few s h)) e
      by (no g) (no d) = let l : M.longest s < length row = omega (arith, C.few s h) in on l (omega (arith, (C.one_more s a h l).1))

  held_below : (j : ℕ) → Below k (held row place j)
  held_below j = by (eqb j (length row))
    where
      by : (c : Bool) → Below k (elim c [ true ↦ [] | false ↦ drop place (take j row) ])
      by true = tt
      by false = below-drop k place (take j row) (below-take k j row row-Below)

  next_below : (s a : ℕ) → s < M.states → Case s a → moves (length row) M s a < M.states
  next_below s a h (done e) = rw (moves-after row place tag M s a e) h
  next_below s a h (fires l e) = rw (moves-match row place tag M s a l e) C.fired-below
  next_below s a h (on l m) = rw (moves_on row place tag M s a l m) (C.step-below s a h l m)

  output_below : (s a : ℕ) → a < k → Case s a → Below k (said row place tag (M.longest s) a (M.longest (M.step s a)))
  output_below s a ha (done e) = rw (said-after row place tag (M.longest s) a (M.longest (M.step s a)) e) (ha, tt)
  output_below s a ha (fires l e) =
      rw (said-match row place tag (M.longest s) a (M.longest (M.step s a)) l e) (below-drop k place (set row place tag) (below_set k row place tag tag_below row-Below))
  output_below s a ha (on l m) =
      rw (said_on row place tag (M.longest s) a (M.longest (M.step s a)) l m)
      (below-take k (suc (length (held row place (M.longest s))) - length (held row place (M.longest (M.step s a)))) (held row place (M.longest s) ++ (a ∷ []))
      (below-append k (held row place (M.longest s)) (a ∷ []) (held_below (M.longest s)) (ha, tt)))

  balance : (s a : ℕ) → s < M.states → Case s a
      → length (said row place tag (M.longest s) a (M.longest (M.step s a))) + length (held row place (M.longest (moves (length row) M s a)))
      ≡ length (held row place (M.longest s)) + 1
  balance s a h (done e) =
      omega (
        arith,
        ap length (said-after row place tag (M.longest s) a (M.longest (M.step s a)) e),
        ap (λ (i : ℕ). length (held row place (M.longest i))) (moves-after row place tag M s a e),
        ap length (held_all row place tag (M.longest s) e),
      )
  balance s a h (fires l e) =
      omega (
        arith,
        (C.one_more s a h l).0,
        F.inside,
        ap length (said-match row place tag (M.longest s) a (M.longest (M.step s a)) l e),
        length-drop place (set row place tag),
        length-set row place tag,
        ap (λ (i : ℕ). length (held row place (M.longest i))) (moves-match row place tag M s a l e),
        ap length (fired-empty row place tag M F.inside C.low kind C.fires),
        held-length row place tag (M.longest s) l,
      )
  balance s a h (on l m) =
      let i = M.longest (M.step s a) in
      let cutting = suc (length (held row place (M.longest s))) - length (held row place i) in
      omega (
        arith,
        (C.one_more s a h l).0,
        ap length (said_on row place tag (M.longest s) a i l m),
        length-take cutting (held row place (M.longest s) ++ (a ∷ [])),
        length-append (held row place (M.longest s)) (a ∷ []),
        ap (λ (q : ℕ). length (held row place (M.longest q))) (moves_on row place tag M s a l m),
        held-length row place tag (M.longest s) l,
        held-length row place tag i m,
      )

  pub sound-matching : Sound k (matching row place tag M)
  sound-matching =
      record {
        some = C.some;
        empty = ap (held row place) C.low ∙ held_none row place tag F.inside;
        next_below = λ s a hs ha. next_below s a hs (case s a hs);
        output_below = λ s a hs ha. output_below s a ha (case s a hs);
        final_below = λ s hs. held_below (M.longest s);
        balanced = λ s a hs ha. balance s a hs (case s a hs);
      }

  -- at most one tag less than the pattern has is held
  pub held-matching : Held (length row - 1) (matching row place tag M)
  held-matching s hs = by (ℕ_discrete (M.longest s) (length row))
    where
      by : Dec (M.longest s ≡ length row) → length (held row place (M.longest s)) ≤ length row - 1
      by (yes e) = rw (held_all row place tag (M.longest s) e) (omega arith)
      by (no g) = let l : M.longest s < length row = omega (arith, C.few s hs) in omega (arith, held-length row place tag (M.longest s) l)
