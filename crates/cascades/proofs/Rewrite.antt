-- What a rule makes of a word, by equations that do not count the tags, and place by place, for a search that goes through a sentence from
-- the front; and cascades one rule at a time.
use Prim.Native.Nat.{ℕ, zero, suc, ◌+◌, ◌≤◌, ◌<◌}
use native.Mathlib.Omega.{arith}
use native.Mathlib.Numerals.{add-one}
use mathlib.Core.Path.{◌≡◌, refl, sym, ap, ap₂, ◌∙◌, subst}
use mathlib.Core.Bool.{Bool, true, false}
use mathlib.Core.List.{List, [], ◌∷◌, ◌++◌, append_assoc}
use lib.ListN.{length, drop, take, get_or, set, length-drop, length-take, length-set, length-append, take-append-drop}
use lib.Seq.{drop-cons, drop_at, take_at, take-suc, length-take-le, set-append_left}
use Rattle.words.specs.Parts.{Begun}
use Rattle.cascades.specs.Pattern.{Class, fits}
use Rattle.cascades.specs.Rule.{Kind, once, everywhere, Rule}
use Rattle.cascades.specs.Rewrite.{behind, rewrite, apply, apply_all}
use Rattle.cascades.specs.Leftmost.{Match}
use Rattle.cascades.proofs.Pattern.{fits-length, fits-short, fits-match, match-fits, match-length}

-- ---- the equations

-- only what f makes of w counts
behind-same : (k : Kind) (f g : List ℕ → List ℕ) (w : List ℕ) → f w ≡ g w → behind k f w ≡ behind k g w
behind-same once f g w e = refl
behind-same everywhere f g w e = e

rewrite-nothing : (n : ℕ) (r : Rule) → rewrite n r [] ≡ []
rewrite-nothing zero r = refl
rewrite-nothing (suc n) r = refl

module _ (r : Rule) where
  abbrev u : List Class
  u = r.pattern

  -- where u does not begin at the front: the first tag, and again behind it
  pub apply-other : (a : ℕ) (w : List ℕ) → fits u (a ∷ w) ≡ false → apply r (a ∷ w) ≡ a ∷ apply r w
  apply-other a w e = cc

  -- a word shorter than u is unchanged
  pub apply-short : (w : List ℕ) → length w < length u → apply r w ≡ w
  apply-short [] h = refl
  apply-short (a ∷ w) h = apply-other a w (fits-short u (a ∷ w) h) ∙ ap (λ (x : List ℕ). a ∷ x) (apply-short w (omega arith))

  module _ (some : 0 < length u) where
    -- the number does not count, if it is no less than the length
    enough : (n m : ℕ) (w : List ℕ) → length w ≤ n → length w ≤ m → rewrite n r w ≡ rewrite m r w
    enough zero m [] h g = sym (rewrite-nothing m r)
    enough zero m (a ∷ w) h g = absurd (omega arith)
    enough (suc n) m w h g = step m w h g (λ i x. enough n i x)
      where
        by : (i a : ℕ) (w : List ℕ) (t : Bool) → rewrite n r w ≡ rewrite i r w → rewrite n r (drop (length u) (a ∷ w)) ≡ rewrite i r (drop (length u) (a ∷ w))
            → ◌≡◌ {A = List ℕ}
            (elim t [ true ↦ set (take (length u) (a ∷ w)) r.place r.tag ++ behind r.kind (rewrite n r) (drop (length u) (a ∷ w)) | false ↦ a ∷ rewrite n r w ])
            (elim t [ true ↦ set (take (length u) (a ∷ w)) r.place r.tag ++ behind r.kind (rewrite i r) (drop (length u) (a ∷ w)) | false ↦ a ∷ rewrite i r w ])
        by i a w true e f =
            ap (λ (x : List ℕ). set (take (length u) (a ∷ w)) r.place r.tag ++ x) (behind-same r.kind (rewrite n r) (rewrite i r) (drop (length u) (a ∷ w)) f)
        by i a w false e f = ap (λ (x : List ℕ). a ∷ x) e

        step : (m : ℕ) (w : List ℕ) → length w ≤ suc n → length w ≤ m → ((i : ℕ) (x : List ℕ) → length x ≤ n → length x ≤ i → rewrite n r x ≡ rewrite i r x)
            → rewrite (suc n) r w ≡ rewrite m r w
        step m [] h g rest = sym (rewrite-nothing m r)
        step zero (a ∷ w) h g rest = absurd (omega arith)
        step (suc i) (a ∷ w) h g rest =
            let x = drop (length u) (a ∷ w) in
            let l = length-drop (length u) (a ∷ w) in
            by i a w (fits u (a ∷ w)) (rest i w (omega arith) (omega arith)) (rest i x (omega arith) (omega arith))

    -- where it does: the match with the new tag, and then the rest as it is, or again behind the match
    pub apply-match : (w : List ℕ) → fits u w ≡ true
        → apply r w ≡ set (take (length u) w) r.place r.tag ++ behind r.kind (apply r) (drop (length u) w)
    apply-match [] e = absurd (omega (arith, fits-length u [] e))
    apply-match (a ∷ w) e =
        let x = drop (length u) (a ∷ w) in
        let n = length-drop (length u) (a ∷ w) in
        let fires : apply r (a ∷ w) ≡ set (take (length u) (a ∷ w)) r.place r.tag ++ behind r.kind (rewrite (length w) r) x = cc in
        fires
        ∙ ap (λ (y : List ℕ). set (take (length u) (a ∷ w)) r.place r.tag ++ y)
        (behind-same r.kind (rewrite (length w) r) (apply r) x (enough (length w) (length x) x (omega arith) (omega arith)))

    -- the same of a match with more behind it
    pub apply-front : (m y : List ℕ) → Match u m → apply r (m ++ y) ≡ set m r.place r.tag ++ behind r.kind (apply r) y
    apply-front m y is =
        let n : length u ≡ length m = sym (match-length u m is) in
        apply-match (m ++ y) (match-fits u m y is)
        ∙ ap₂ (λ (x z : List ℕ). set x r.place r.tag ++ behind r.kind (apply r) z) (take_at m y (length u) (sym n)) (drop_at m y (length u) (sym n))

-- ---- a word that is rewritten where it stands, from the front

-- a tag written in the middle part
set_middle : (x u y : List ℕ) (p t : ℕ) → p < length u → set (x ++ (u ++ y)) (length x + p) t ≡ x ++ (set u p t ++ y)
set_middle [] u y p t h = let e : 0 + p ≡ p = omega arith in rw e (set-append_left u y p t h)
set_middle (a ∷ x) u y p t h =
    let e : suc (length x) + p ≡ suc (length x + p) = omega arith in
    rw e (ap (λ (r : List ℕ). a ∷ r) (set_middle x u y p t h))

module _ (r : Rule) (s₀ s : List ℕ) (i : ℕ) (b : Begun (apply r) (apply r) s₀ s s i) where
  -- the pattern does not begin at i
  pub begun_other : i < length s → fits r.pattern (drop i s) ≡ false → Begun (apply r) (apply r) s₀ s s (i + 1)
  begun_other h e =
      let p : fits r.pattern (get_or s i 0 ∷ drop (suc i) s) ≡ false = subst (λ (x : List ℕ). fits r.pattern x ≡ false) (drop-cons s i 0 h) e in
      record {
        inside = omega arith;
        long = b.long;
        beside = refl;
        cut =
            cc (
              b.cut,
              drop-cons s i 0 h,
              apply-other r (get_or s i 0) (drop (suc i) s) p,
              take-suc s i 0 h,
              add-one i,
              append_assoc (take i s) (get_or s i 0 ∷ []) (apply r (drop (suc i) s)),
            );
      }

  -- it has no room from i on
  pub begun_short : length s < i + length r.pattern → s ≡ apply r s₀
  begun_short h =
      sym (b.cut ∙ ap (λ (x : List ℕ). take i s ++ x) (apply-short r (drop i s) (omega (arith, length-drop i s, b.inside))) ∙ take-append-drop i s)

  -- it begins at i, and the new tag is put there
  pub begun_match : r.place < length r.pattern → fits r.pattern (drop i s) ≡ true
      → Begun (apply r) (behind r.kind (apply r)) s₀ (set s (i + r.place) r.tag) (set s (i + r.place) r.tag) (i + length r.pattern)
  begun_match hp e =
      let u = r.pattern in
      let m = take (length u) (drop i s) in
      let y = drop (length u) (drop i s) in
      let z = set s (i + r.place) r.tag in
      let new = set m r.place r.tag in
      let is : drop i s ≡ m ++ y = sym (take-append-drop (length u) (drop i s)) in
      let here : Match u m = fits-match u (drop i s) e in
      let long : length m ≡ length u = match-length u m here in
      let whole : s ≡ take i s ++ (m ++ y) = sym (take-append-drop i s) ∙ ap (λ (x : List ℕ). take i s ++ x) is in
      let l : length (take i s) ≡ i = length-take-le i s b.inside in
      let size : length z ≡ length s = length-set s (i + r.place) r.tag in
      let room : i + length u ≤ length s = omega (arith, fits-length u (drop i s) e, length-drop i s, b.inside, hp) in
      let written : z ≡ (take i s ++ new) ++ y =
      ap₂ (λ (x : List ℕ) (n : ℕ). set x (n + r.place) r.tag) whole (sym l) ∙ set_middle (take i s) m y r.place r.tag (omega arith)
      ∙ sym (append_assoc (take i s) new y)
      in
      let n : length (take i s ++ new) ≡ i + length u = omega (arith, length-append (take i s) new, l, length-set m r.place r.tag, long) in
      record {
        inside = omega arith;
        long = size ∙ b.long;
        beside = refl;
        cut =
            b.cut ∙ ap (λ (x : List ℕ). take i s ++ apply r x) is
            ∙ ap (λ (x : List ℕ). take i s ++ x) (apply-front r (omega arith) m y here)
            ∙ sym (append_assoc (take i s) new (behind r.kind (apply r) y))
            ∙ sym (ap₂ (λ (v w : List ℕ). v ++ behind r.kind (apply r) w)
            (ap (take (i + length u)) written ∙ take_at (take i s ++ new) y (i + length u) n)
            (ap (drop (i + length u)) written ∙ drop_at (take i s ++ new) y (i + length u) n));
      }

-- ---- cascades

pub apply_all-append : (rs more : List Rule) (w : List ℕ) → apply_all (rs ++ more) w ≡ apply_all more (apply_all rs w)
apply_all-append [] more w = refl
apply_all-append (r ∷ rs) more w = apply_all-append rs more (apply r w)

rewrite-long : (n : ℕ) (r : Rule) (w : List ℕ) → length (rewrite n r w) ≡ length w
rewrite-long zero r w = refl
rewrite-long (suc n) r [] = refl
rewrite-long (suc n) r (a ∷ w) = test (fits r.pattern (a ∷ w)) (rewrite-long n r w) (rest r.kind (rewrite-long n r (drop (length r.pattern) (a ∷ w))))
  where
    x : List ℕ
    x = drop (length r.pattern) (a ∷ w)

    rest : (k : Kind) → length (rewrite n r x) ≡ length x → length (behind k (rewrite n r) x) ≡ length x
    rest once e = refl
    rest everywhere e = e

    test : (t : Bool) → length (rewrite n r w) ≡ length w → length (behind r.kind (rewrite n r) x) ≡ length x
        → length {A = ℕ} (elim t [ true ↦ set (take (length r.pattern) (a ∷ w)) r.place r.tag ++ behind r.kind (rewrite n r) x | false ↦ a ∷ rewrite n r w ]) ≡ suc (length w)
    test true h e =
        omega (
          arith,
          length-append (set (take (length r.pattern) (a ∷ w)) r.place r.tag) (behind r.kind (rewrite n r) x),
          length-set (take (length r.pattern) (a ∷ w)) r.place r.tag,
          length-take (length r.pattern) (a ∷ w),
          e,
          length-drop (length r.pattern) (a ∷ w),
        )
    test false h e = ap suc h

-- a rule keeps the number of tags, and so does a cascade
pub apply-long : (r : Rule) (w : List ℕ) → length (apply r w) ≡ length w
apply-long r w = rewrite-long (length w) r w

pub apply_all-long : (rs : List Rule) (w : List ℕ) → length (apply_all rs w) ≡ length w
apply_all-long [] w = refl
apply_all-long (r ∷ rs) w = apply_all-long rs (apply r w) ∙ apply-long r w
