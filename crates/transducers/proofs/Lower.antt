-- The lower bound: no transducer that does the same has fewer states than a minimal one, or has ever put out more.
use Prim.Native.Nat.{ℕ, zero, suc, ◌≤◌, ◌<◌}
use native.Mathlib.Omega.{arith}
use mathlib.Core.Path.{◌≡◌, refl, sym, ap, ◌∙◌}
use native.Mathlib.Decide.{ℕ_discrete}
use mathlib.Core.Logic.{◌≢◌}
use mathlib.Core.List.{List, [], ◌∷◌, ◌++◌, append_assoc, append-nil}
use lib.ListN.{length, length-append}
use Rattle.words.specs.Word.{Below, Prefix}
use Rattle.words.specs.Front.{first}
use Rattle.words.proofs.Word.{below-append}
use Rattle.transducers.specs.Transducer.{Shape, puts, Transducer, turns}
use Rattle.transducers.specs.Run.{walk, outputs}
use Rattle.transducers.specs.Canonical.{Same, Free, Minimal}
use Rattle.transducers.proofs.Run.{puts-append, walk-below}

-- where o and P make what m and Q make, and no tag begins all of P, m is a prefix of o, and Q makes the rest of o and P
pub past : (k : ℕ) (P Q : List ℕ → List ℕ) (o m : List ℕ) → Free k P → Same k (λ x. o ++ P x) (λ x. m ++ Q x)
    → (z : List ℕ) × (o ≡ m ++ z) × Same k Q (λ x. z ++ P x)
past k P Q o [] free same = (o, refl, λ x hx. sym (same x hx))
past k P Q [] (c ∷ m) free same = absurd (free c λ x hx. ap first (same x hx))
past k P Q (b ∷ o) (c ∷ m) free same = let g = past k P Q o m free (λ x hx. let e = same x hx in cc) in
    let e = same [] tt in (g.0, cc g.1, g.2)

-- where no tag begins all of P nor all of Q, both agree
pub level : (k : ℕ) (P Q : List ℕ → List ℕ) (o m : List ℕ) → Free k P → Free k Q → Same k (λ x. o ++ P x) (λ x. m ++ Q x) → (o ≡ m) × Same k P Q
level k P Q o m p q same =
    let f = past k P Q o m p same in
    let g = past k Q P m o q (λ x hx. sym (same x hx)) in
    go f.0 f.1 f.2 g.0 g.1
  where
    go : (z : List ℕ) → o ≡ m ++ z → Same k Q (λ x. z ++ P x) → (y : List ℕ) → m ≡ o ++ y → (o ≡ m) × Same k P Q
    go [] e s y d = (e ∙ append-nil m, λ x hx. sym (s x hx))
    go (c ∷ z) e s y d = absurd (omega (arith, simp length-append at (ap length e), simp length-append at (ap length d)))

-- early states that still put out the same put out the same at each step, and still do after it
pub same_step : (k : ℕ) (S T : Shape) (p q a : ℕ) → a < k → Free k (puts S (S.next p a)) → Free k (puts T (T.next q a))
    → Same k (puts S p) (puts T q)
    → (S.output p a ≡ T.output q a) × Same k (puts S (S.next p a)) (puts T (T.next q a))
same_step k S T p q a ha fp fq same = level k (puts S (S.next p a)) (puts T (T.next q a)) (S.output p a) (T.output q a) fp fq (λ x hx. same (a ∷ x) (ha, hx))

-- n numbers below m, all different, are at most m
pub pigeonhole : (n m : ℕ) (f : (i : ℕ) → i < n → ℕ) → ((i : ℕ) (h : i < n) → f i h < m)
    → ((i j : ℕ) (h : i < n) (g : j < n) → f i h ≡ f j g → i ≡ j) → n ≤ m
pigeonhole zero m f below apart = omega arith
pigeonhole (suc n) zero f below apart = absurd (omega (arith, below n (omega arith)))
pigeonhole (suc n) (suc m) f below apart =
    let fewer = pigeonhole n m (λ i h. moved (f i (up i h)) (is_m i h)) (λ i h. moved-below i h (is_m i h)) (λ i j h g. moved_apart i j h g (is_m i h) (is_m j g)) in
    omega arith
  where
    up : (i : ℕ) → i < n → i < suc n
    up i h = omega arith

    is_m : (i : ℕ) (h : i < n) → Dec (f i (up i h) ≡ m)
    is_m i h = ℕ_discrete (f i (up i h)) m

    here : n < suc n
    here = omega arith

    last : ℕ
    last = f n here

    -- the last number takes the place of m
    moved : (v : ℕ) → Dec (v ≡ m) → ℕ
    moved v (yes e) = last
    moved v (no e) = v

    moved-below : (i : ℕ) (h : i < n) (d : Dec (f i (up i h) ≡ m)) → moved (f i (up i h)) d < m
    moved-below i h (yes e) = let other : last ≢ m = λ d. let z = apart n i here (up i h) (d ∙ sym e) in omega arith in omega (arith, below n here, other)
    moved-below i h (no e) = omega (arith, below i (up i h), e)

    moved_apart : (i j : ℕ) (h : i < n) (g : j < n) (d : Dec (f i (up i h) ≡ m)) (c : Dec (f j (up j g) ≡ m))
        → moved (f i (up i h)) d ≡ moved (f j (up j g)) c → i ≡ j
    moved_apart i j h g (yes d) (yes c) e = apart i j (up i h) (up j g) (d ∙ sym c)
    moved_apart i j h g (yes d) (no c) e = let z = apart n j here (up j g) e in omega arith
    moved_apart i j h g (no d) (yes c) e = let z = apart i n (up i h) here e in omega arith
    moved_apart i j h g (no d) (no c) e = apart i j (up i h) (up j g) e

module _ (k : ℕ) (S : Shape) (minimal : Minimal k S) (M : Transducer k) (does : Same k (turns M) (puts S 0)) (some : 0 < S.count) where
  -- what M has put out after reading w, and where it stands
  said : List ℕ → List ℕ
  said w = M.initial ++ outputs M.shape M.start w

  stands : List ℕ → ℕ
  stands w = walk M.shape M.start w

  alike : (w : List ℕ) → Below k w → Same k (λ x. outputs S 0 w ++ puts S (walk S 0 w) x) (λ x. said w ++ puts M.shape (stands w) x)
  unfolding said stands
  alike w hw x hx =
      sym (puts-append S 0 w x)
      ∙ sym (does (w ++ x) (below-append k w x hw hx))
      ∙ ap (λ (l : List ℕ). M.initial ++ l) (puts-append M.shape M.start w x)
      ∙ sym (append_assoc M.initial (outputs M.shape M.start w) (puts M.shape (stands w) x))

  behind : (w : List ℕ) → Below k w
      → (z : List ℕ) × (outputs S 0 w ≡ said w ++ z) × Same k (puts M.shape (stands w)) (λ x. z ++ puts S (walk S 0 w) x)
  behind w hw =
      let free = minimal.early (walk S 0 w) (walk-below k S minimal.next_below 0 some w hw) in
      past k (puts S (walk S 0 w)) (puts M.shape (stands w)) (outputs S 0 w) (said w) free (alike w hw)

  -- no transducer that does the same has put out more after any word read
  pub ahead : (w : List ℕ) → Below k w → Prefix (M.initial ++ outputs M.shape M.start w) (outputs S 0 w)
  unfolding said
  ahead w hw = record { rest = (behind w hw).0; split = (behind w hw).1 }

  -- words that lead S to different states lead M to different states
  told : (w y : List ℕ) → Below k w → Below k y → stands w ≡ stands y → walk S 0 w ≡ walk S 0 y
  told w y hw hy e =
      let f = behind w hw in
      let g = behind y hy in
      let wb = walk-below k S minimal.next_below 0 some w hw in
      let yb = walk-below k S minimal.next_below 0 some y hy in
      minimal.apart (walk S 0 w) (walk S 0 y) wb yb
      (level k (puts S (walk S 0 w)) (puts S (walk S 0 y)) f.0 g.0 (minimal.early (walk S 0 w) wb) (minimal.early (walk S 0 y) yb)
      (λ x hx. sym (f.2 x hx) ∙ ap (λ (s : ℕ). puts M.shape s x) e ∙ g.2 x hx)).1

  -- every transducer that does the same has at least as many states
  pub fewest : S.count ≤ M.shape.count
  unfolding stands
  fewest = pigeonhole S.count M.shape.count (λ q h. stands (minimal.reached q h).word)
      (λ q h. walk-below k M.shape M.next_below M.start M.start_below (minimal.reached q h).word (minimal.reached q h).below)
      (λ p q h g e.
      let a = minimal.reached p h in
      let b = minimal.reached q g in
      sym a.leads ∙ told a.word b.word a.below b.below e ∙ b.leads)
