-- The search at its beginning and at its end.
use Prim.Native.Nat.{ℕ, ◌+◌, ◌*◌, ◌≤◌, ◌<◌}
use native.Mathlib.Omega.{arith}
use mathlib.Core.Path.{◌≡◌, sym, ap₂, ◌∙◌, subst}
use mathlib.Core.List.{List, [], ◌∷◌, ◌++◌}
use lib.ListN.{length, drop, length-append}
use Rattle.std.specs.Prelude.{Result, Ok, Err}
use Rattle.limits.specs.declared.Limits.{Limits}
use Rattle.transducers.specs.Transducer.{Shape, puts}
use Rattle.transducers.specs.Canonical.{Same}
use Rattle.agreement.specs.Search.{renamed}
use Rattle.agreement.specs.Stored.{Searching, Chained, label_at}
use Rattle.agreement.proofs.Stored.{stored-start, stored-ended, stored-differs}
use Rattle.listing.specs.Listing.{Labeled, Linked, StoredWords}
use Rattle.workspace.specs.declared.Grid.{Grid}
use Rattle.workspace.specs.Holds.{standing}
use Rattle.equivalence.specs.Tables.{Tables, given}
use Rattle.equivalence.specs.Search.{Stored, TriedAs, Apart, Sought, Shown}
use Rattle.equivalence.specs.declared.Difference.{Difference}
use Rattle.equivalence.proofs.Tables.{left-inside, right-inside, left-some, right-some, sum, few, bound}

-- fewer words are chained too
fewer : {k n i : ℕ} {word : ℕ → List ℕ} {pairs : List ℕ} → i < n → Chained k n word pairs → Chained k (i + 1) word pairs
fewer h c =
    record {
      first = c.first;
      before = λ j some less. c.before j some (omega arith);
      tag = λ j some less. c.tag j some (omega arith);
      came = λ j some less. c.came j some (omega arith);
    }

-- what the trial of a word answered
module _ {k : ℕ} {S T : Shape} {s m i : ℕ} (labels : List ℕ) {pairs : List ℕ} where
  pub tried_agrees : (r : Result ℕ Difference) (n : ℕ) → r ≡ Ok n → TriedAs k S T s m i labels pairs r → Stored s m labels pairs × Searching k S T n (i + 1) 0 labels pairs × (i < n)
  tried_agrees r n e h = subst (TriedAs k S T s m i labels pairs) e h

  pub tried_apart : (r : Result ℕ Difference) (d : Difference) → r ≡ Err d → TriedAs k S T s m i labels pairs r → (d.word ≡ i) × Apart k S T s m d.word d.tag pairs
  tried_apart r d e h = subst (TriedAs k S T s m i labels pairs) e h

module _ {lim : Limits} {bs ix : List ℕ} {g : Grid} {W : List ℕ} {m s : ℕ} (ok : Tables lim bs ix g W m s) where
  abbrev S : Shape
  S = given lim bs

  abbrev T : Shape
  T = standing g W 0 m

  pub both_some : (0 < s) × (0 < m)
  both_some = (omega (arith, left-some ok, ok.states), omega (arith, right-some ok, sum ok, ok.states))

  -- the empty word is listed
  module _ (labels labels' labels'' pairs pairs' : List ℕ) (r : ℕ) (numbered : Labeled labels labels' (s + m) (λ x. x))
      (linked : Linked labels' pairs labels'' pairs' (s + m) 0 0 s 0 0 0 0 r) where
    at-start : label_at labels' 0 ≡ 0
    at-start = numbered.is 0 (omega (arith, both_some))

    at_other : label_at labels' s ≡ s
    at_other = numbered.is s (omega (arith, both_some))

    pub begun : Searching g.tags S T 1 0 0 labels'' pairs'
    begun =
        let u = linked.listed (λ e. omega (arith, e, at-start, at_other, both_some)) in
        let names : (x : ℕ) → renamed (label_at labels' s) (label_at labels' 0) (label_at labels' x) ≡ renamed S.count 0 (label_at labels' x) =
        λ x. ap₂ (λ (y z : ℕ). renamed y z (label_at labels' x)) (at_other ∙ sym ok.states) at-start in
        stored-start g.tags S T (left-inside ok) (right-inside ok) (left-some ok) (right-some ok) labels' labels'' pairs pairs'
        (ok.indexed.sound.empty ∙ sym ok.ready.sound.empty)
        (λ x h. numbered.is x (omega (arith, sum ok)))
        (λ x h. u.2.is x (omega (arith, sum ok)) ∙ names x)
        u.1

    pub stored_begun : s + m ≤ length labels → 4 * (s + m) ≤ length pairs → Stored s m labels'' pairs'
    stored_begun hl hp =
        record {
          labels_long = omega (arith, numbered.long, linked.labels_long);
          pairs_long = omega (arith, linked.pairs_long);
        }

  -- every listed word was tried
  pub all_tried : {n i : ℕ} {labels pairs : List ℕ} → Searching g.tags S T n i 0 labels pairs → i ≡ n → Same g.tags (puts S 0) (puts T 0)
  all_tried {n} {i} {labels} {pairs} found e =
      stored-ended g.tags S T (left-inside ok) (right-inside ok) (left-some ok) (right-some ok) (subst (λ (x : ℕ). Searching g.tags S T n x 0 labels pairs) e found)

  -- what the search answered
  pub found_none : (pairs : List ℕ) (r : Result Unit Difference) → r ≡ Ok tt → Sought g.tags S T s m pairs r → Same g.tags (puts S 0) (puts T 0)
  found_none pairs r e h = subst (Sought g.tags S T s m pairs) e h

  pub found_at : {pairs : List ℕ} (d : Difference) (r : Result Unit Difference) → r ≡ Err d → Sought g.tags S T s m pairs r → Apart g.tags S T s m d.word d.tag pairs
  found_at {pairs} d r e h = subst (Sought g.tags S T s m pairs) e h

  -- a word on which both differ is written
  module _ {i a : ℕ} {pairs : List ℕ} (apart : Apart g.tags S T s m i a pairs) where
    pub words_of : StoredWords g.tags (i + 1) pairs
    words_of =
        let found = apart.searching in
        let low = bound ok found in
        record {
          word = found.word;
          chained = fewer apart.inside found.chained;
          short = λ j h. found.search.short j (omega (arith, apart.inside));
          few = omega (arith, low, apart.inside, few ok);
          room = omega (arith, low, apart.inside, apart.stored.pairs_long);
          few_tags = ok.few_tags;
        }

    pub word-few : i + 1 ≤ 512
    word-few = words_of.few

    pub shown : (before after : List ℕ) (r : ℕ)
        → ((word : ℕ → List ℕ) → Chained g.tags (i + 1) word pairs → (r ≡ length (word i ++ (a ∷ []))) × (after ≡ (word i ++ (a ∷ [])) ++ drop r before))
        → Shown g.tags S T before after r
    shown before after r wrote =
        let found = apart.searching in
        let w = wrote found.word (fewer apart.inside found.chained) in
        let d = stored-differs g.tags S T (left-inside ok) (right-inside ok) (left-some ok) (right-some ok) found apart.inside apart.tag apart.differs in
        record {
          sentence = found.word i ++ (a ∷ []);
          long = sym w.0;
          some = omega (arith, w.0, length-append (found.word i) (a ∷ []));
          short = omega (arith, w.0, d.2, word-few);
          below = d.0;
          differs = d.1;
          front = w.1;
        }
