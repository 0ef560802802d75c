-- A word that was tried with a tag.
use Prim.Native.Nat.{ℕ, ◌+◌, ◌<◌}
use native.Mathlib.Omega.{arith}
use native.Mathlib.Decide.{ℕ_discrete}
use mathlib.Core.Path.{◌≡◌, sym, ap, ◌∙◌, subst}
use mathlib.Core.List.{List}
use Rattle.limits.specs.declared.Limits.{Limits}
use Rattle.transducers.specs.Transducer.{Shape}
use Rattle.agreement.specs.Search.{total, StepAgrees}
use Rattle.agreement.specs.Stored.{Searching, label_at, left_at, right_at}
use Rattle.agreement.proofs.Stored.{stored-kept, stored-listed, stored_next}
use Rattle.listing.specs.Listing.{Linked}
use Rattle.workspace.specs.declared.Grid.{Grid}
use Rattle.workspace.specs.Holds.{standing}
use Rattle.equivalence.specs.Tables.{Tables, given}
use Rattle.equivalence.specs.Search.{Stored, Followed, Apart}
use Rattle.equivalence.proofs.Tables.{left-inside, right-inside, left-some, right-some, sum}

-- the numbers of a link by other names
relink : {labels pairs labels' pairs' : List ℕ} {t t' x x' y y' q q' n i a r : ℕ} → t ≡ t' → x ≡ x' → y ≡ y' → q ≡ q'
    → Linked labels pairs labels' pairs' t n x y x q i a r → Linked labels pairs labels' pairs' t' n x' y' x' q' i a r
relink {labels} {pairs} {labels'} {pairs'} {t} {t'} {x} {x'} {y} {y'} {q} {q'} {n} {i} {a} {r} et ex ey eq l =
    subst (λ (z : ℕ). Linked labels pairs labels' pairs' t' n x' y' x' z i a r) eq
    (subst (λ (z : ℕ). Linked labels pairs labels' pairs' t' n x' z x' q i a r) ey
    (subst (λ (z : ℕ). Linked labels pairs labels' pairs' t' n z y z q i a r) ex
    (subst (λ (z : ℕ). Linked labels pairs labels' pairs' z n x y x q i a r) et l)))

module _ {lim : Limits} {bs ix : List ℕ} {g : Grid} {W : List ℕ} {m s : ℕ} (ok : Tables lim bs ix g W m s) where
  abbrev S : Shape
  S = given lim bs

  abbrev T : Shape
  T = standing g W 0 m

  -- where the word leads was listed, or has one label
  module _ {n i a : ℕ} {labels pairs : List ℕ} (found : Searching g.tags S T n i a labels pairs) (stored : Stored s m labels pairs)
      (hi : i < n) (ha : a < g.tags) (agrees : StepAgrees S T (left_at pairs i) (right_at pairs i) a) (labels' pairs' : List ℕ) (r : ℕ) where
    abbrev left : ℕ
    left = S.next (left_at pairs i) a

    abbrev right : ℕ
    right = T.next (right_at pairs i) a

    module _ (linked : Linked labels pairs labels' pairs' (total S T) n left (S.count + right) left right i a r) where
      stored_now : Stored s m labels' pairs'
      stored_now =
          record {
            labels_long = omega (arith, stored.labels_long, linked.labels_long);
            pairs_long = omega (arith, stored.pairs_long, linked.pairs_long);
          }

      followed : Dec (label_at labels (S.count + right) ≡ label_at labels left) → Followed g.tags S T s m i (a + 1) labels' pairs' r
      followed (yes e) =
          let u = linked.level e in
          let kept = stored-kept g.tags S T (left-inside ok) (right-inside ok) (left-some ok) (right-some ok) found hi ha agrees (sym e) in
          record {
            stored = stored_now;
            searching = rw (u.0, u.1, u.2) kept;
            inside = omega (arith, u.0);
          }
      followed (no d) =
          let u = linked.listed d in
          let more = stored-listed g.tags S T (left-inside ok) (right-inside ok) (left-some ok) (right-some ok) found hi ha agrees (λ e. d (sym e)) labels' pairs' u.1 u.2.is in
          record { stored = stored_now; searching = rw u.0 more; inside = omega (arith, u.0) }

    follows : (left' right' : ℕ) → left' ≡ left → right' ≡ right → Linked labels pairs labels' pairs' (s + m) n left' (s + right') left' right' i a r
        → Followed g.tags S T s m i (a + 1) labels' pairs' r
    follows left' right' el er l =
        let side : s + right' ≡ S.count + right = omega (arith, ok.states, er) in
        followed (relink (sym (sum ok)) el side er l) (ℕ_discrete (label_at labels (S.count + right)) (label_at labels left))

  -- the same by the names of the states in code
  pub follows_from : {n i a : ℕ} {labels pairs : List ℕ} (found : Searching g.tags S T n i a labels pairs) → Stored s m labels pairs → i < n → a < g.tags
      → (p q : ℕ) → p ≡ left_at pairs i → q ≡ right_at pairs i → StepAgrees S T p q a
      → (labels' pairs' : List ℕ) (r left right : ℕ) → left ≡ S.next p a → right ≡ T.next q a
      → Linked labels pairs labels' pairs' (s + m) n left (s + right) left right i a r
      → Followed g.tags S T s m i (a + 1) labels' pairs' r
  follows_from {n} {i} {a} {labels} {pairs} found stored hi ha p q ep eq agrees labels' pairs' r left right el er l =
      follows found stored hi ha (subst (λ (x : ℕ). StepAgrees S T x (right_at pairs i) a) ep (subst (λ (x : ℕ). StepAgrees S T p x a) eq agrees)) labels' pairs' r left right
      (el ∙ ap (λ (x : ℕ). S.next x a) ep) (er ∙ ap (λ (x : ℕ). T.next x a) eq) l

  -- both differ with the tag
  pub tried_differs : {n i a : ℕ} {labels pairs : List ℕ} → Followed g.tags S T s m i a labels pairs n → a < g.tags → (p q : ℕ) → p ≡ left_at pairs i → q ≡ right_at pairs i
      → (StepAgrees S T p q a → ⊥) → Apart g.tags S T s m i a pairs
  tried_differs {n} {i} {a} {labels} {pairs} f ha p q ep eq differs =
      record {
        n = n;
        labels = labels;
        stored = f.stored;
        searching = f.searching;
        inside = f.inside;
        tag = ha;
        differs = λ e. differs (subst (λ (x : ℕ). StepAgrees S T x q a) (sym ep) (subst (λ (x : ℕ). StepAgrees S T (left_at pairs i) x a) (sym eq) e));
      }

  -- every tag was tried
  pub tried_all : {n i a : ℕ} {labels pairs : List ℕ} → Followed g.tags S T s m i a labels pairs n → a ≡ g.tags → Stored s m labels pairs × Searching g.tags S T n (i + 1) 0 labels pairs × (i < n)
  tried_all {n} {i} {a} {labels} {pairs} f e =
      (f.stored, stored_next g.tags S T (left-inside ok) (right-inside ok) (left-some ok) (right-some ok) (subst (λ (x : ℕ). Searching g.tags S T n i x labels pairs) e f.searching) f.inside, f.inside)
