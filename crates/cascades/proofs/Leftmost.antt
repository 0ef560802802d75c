-- What a rule makes of a word is 002's leftmost rewrite relation with the identity elsewhere; and, of an everywhere rule, that relation again
-- behind each match. Both ways; of matches where a pattern has sets, and as 002 has it where it has none.
use Prim.Native.Nat.{ℕ, zero, suc, ◌≤◌, ◌<◌}
use native.Mathlib.Omega.{arith}
use mathlib.Core.Path.{◌≡◌, refl, sym, ap, ◌∙◌, subst}
use mathlib.Core.Logic.{◌⊎◌, inl, inr, ◌↔◌}
use mathlib.Core.Bool.{Bool, true, false, false≢true}
use mathlib.Core.List.{List, [], ◌∷◌, ◌++◌, append_cancel_left}
use lib.ListN.{length, take, drop, set, get_or, length-append, length-set, take-append-drop}
use lib.Seq.{take_at, get_or-set_same}
use Rattle.words.specs.Word.{Prefix}
use Rattle.cascades.specs.Pattern.{Class, fits, some_set, word}
use Rattle.cascades.specs.Rule.{Kind, once, everywhere, Rule}
use Rattle.cascades.specs.Rewrite.{behind, apply}
use Rattle.cascades.specs.Leftmost.{OccursAt, Behavior, Everywhere, nowhere, match, Match, MatchAt, Matched, MatchBehavior, EveryMatch, none, more}
use Rattle.cascades.proofs.Pattern.{plain_word, fits-match, match-fits, match-length, match-plain, plain-match}
use Rattle.cascades.proofs.Rewrite.{apply-other, apply-front}
use Rattle.cascades.proofs.Ending.{match-at}

-- no match in x m y begins before x ends
abbrev First : List Class → List ℕ → List ℕ → List ℕ → Type 0
First u x m y = (z : List ℕ) → MatchAt u (x ++ (m ++ y)) z → Prefix x z

-- the leftmost match in w
record Found (u : List Class) (w : List ℕ) : Type 0 where
  front : List ℕ
  at : MatchAt u w front
  first : (z : List ℕ) → MatchAt u w z → Prefix front z

there : (u : List Class) (w z m y : List ℕ) → Match u m → w ≡ z ++ (m ++ y) → MatchAt u w z
there u w z m y is cut = record { match = m; back = y; is = is; cut = cut }

moved : (u : List Class) (v w z : List ℕ) → v ≡ w → MatchAt u w z → MatchAt u v z
moved u v w z e o = there u v z o.match o.back o.is (e ∙ o.cut)

-- one tag in front of a word that the pattern does not fit
module _ (u : List Class) (a : ℕ) (w : List ℕ) (fails : fits u (a ∷ w) ≡ false) where
  later : (z : List ℕ) → MatchAt u (a ∷ w) z → (z' : List ℕ) × (z ≡ a ∷ z') × MatchAt u w z'
  later [] o = absurd (false≢true (sym fails ∙ ap (fits u) o.cut ∙ match-fits u o.match o.back o.is))
  later (b ∷ z) o = (z, cc o.cut, there u w z o.match o.back o.is (ap (drop 1) o.cut))

-- nothing matches in nothing
not_in_nothing : (u : List Class) → 0 < length u → Matched u [] → ⊥
not_in_nothing u n (z, o) =
    omega (arith, ap length o.cut, length-append z (o.match ++ o.back), length-append o.match o.back, match-length u o.match o.is)

-- a word has a leftmost match or none
find : (u : List Class) → 0 < length u → (w : List ℕ) → Found u w ⊎ (Matched u w → ⊥)
find u n [] = inr (not_in_nothing u n)
find u n (a ∷ w) = by (fits u (a ∷ w)) refl (find u n w)
  where
    by : (t : Bool) → fits u (a ∷ w) ≡ t → Found u w ⊎ (Matched u w → ⊥) → Found u (a ∷ w) ⊎ (Matched u (a ∷ w) → ⊥)
    by true p f =
        inl (record {
          front = [];
          at = there u (a ∷ w) [] (take (length u) (a ∷ w)) (drop (length u) (a ∷ w)) (fits-match u (a ∷ w) p) (sym (take-append-drop (length u) (a ∷ w)));
          first = λ z o. record { rest = z; split = refl };
        })
    by false p (inl f) =
        inl (record {
          front = a ∷ f.front;
          at = there u (a ∷ w) (a ∷ f.front) f.at.match f.at.back f.at.is (ap (λ (x : List ℕ). a ∷ x) f.at.cut);
          first = λ z o.
              let b = later u a w p z o in
              let g = f.first b.0 b.2 in
              record { rest = g.rest; split = cc (b.1, g.split) };
        })
    by false p (inr never) = inr (λ o. let b = later u a w p o.0 o.1 in never (b.0, b.2))

module _ (r : Rule) (n : 0 < length r.pattern) where
  abbrev u : List Class
  u = r.pattern

  abbrev p : ℕ
  p = r.place

  abbrev t : ℕ
  t = r.tag

  -- the leftmost match gets the new tag, and the rest becomes what it does behind a match
  apply-first : (x m y : List ℕ) → Match u m → First u x m y → apply r (x ++ (m ++ y)) ≡ x ++ (set m p t ++ behind r.kind (apply r) y)
  apply-first [] m y is first = apply-front r n m y is
  apply-first (a ∷ x) m y is first = by (fits u (a ∷ (x ++ (m ++ y)))) refl (apply-first x m y is)
    where
      by : (c : Bool) → fits u (a ∷ (x ++ (m ++ y))) ≡ c → (First u x m y → apply r (x ++ (m ++ y)) ≡ x ++ (set m p t ++ behind r.kind (apply r) y))
          → apply r (a ∷ (x ++ (m ++ y))) ≡ a ∷ (x ++ (set m p t ++ behind r.kind (apply r) y))
      by true e rest =
          let w = a ∷ (x ++ (m ++ y)) in
          let g = first [] (there u w [] (take (length u) w) (drop (length u) w) (fits-match u w e) (sym (take-append-drop (length u) w))) in
          absurd (omega (arith, ap length g.split))
      by false e rest =
          apply-other r a (x ++ (m ++ y)) e
          ∙ ap (λ (l : List ℕ). a ∷ l)
          (rest (λ z o.
          let w = a ∷ (x ++ (m ++ y)) in
          let g = first (a ∷ z) (there u w (a ∷ z) o.match o.back o.is (ap (λ (l : List ℕ). a ∷ l) o.cut)) in
          record { rest = g.rest; split = ap (drop 1) g.split }))

  -- a word in which nothing matches is unchanged
  apply-nowhere : (w : List ℕ) → (Matched u w → ⊥) → apply r w ≡ w
  apply-nowhere [] never = refl
  apply-nowhere (a ∷ w) never = by (fits u (a ∷ w)) refl (apply-nowhere w)
    where
      by : (c : Bool) → fits u (a ∷ w) ≡ c → ((Matched u w → ⊥) → apply r w ≡ w) → apply r (a ∷ w) ≡ a ∷ w
      by true e rest =
          absurd (never ([], there u (a ∷ w) [] (take (length u) (a ∷ w)) (drop (length u) (a ∷ w)) (fits-match u (a ∷ w) e) (sym (take-append-drop (length u) (a ∷ w)))))
      by false e rest =
          apply-other r a w e
          ∙ ap (λ (l : List ℕ). a ∷ l)
          (rest (λ o. never (a ∷ o.0, there u (a ∷ w) (a ∷ o.0) o.1.match o.1.back o.1.is (ap (λ (l : List ℕ). a ∷ l) o.1.cut))))

  -- at a place where a match is known
  apply_found : (w x : List ℕ) (o : MatchAt u w x) → ((z : List ℕ) → MatchAt u w z → Prefix x z) → apply r w ≡ x ++ (set o.match p t ++ behind r.kind (apply r) o.back)
  apply_found w x o first = ap (apply r) o.cut ∙ apply-first x o.match o.back o.is (λ z q. first z (moved u w (x ++ (o.match ++ o.back)) z o.cut q))

  -- w becomes w' by a leftmost rule exactly if w = x m y with m a match and x the shortest such, and w' = x m' y with m' the same tags and the
  -- new one at p; or nothing matches and w' is w
  pub once_is_leftmost : r.kind ≡ once → (w w' : List ℕ) → (apply r w ≡ w') ↔ MatchBehavior u p t w w'
  once_is_leftmost k w w' = (λ e. from e (find u n w), to)
    where
      left : (x m y : List ℕ) → x ++ (set m p t ++ behind r.kind (apply r) y) ≡ x ++ (set m p t ++ y)
      left x m y = ap (λ (q : Kind). x ++ (set m p t ++ behind q (apply r) y)) k

      from : apply r w ≡ w' → Found u w ⊎ (Matched u w → ⊥) → MatchBehavior u p t w w'
      from e (inl f) =
          inl (record {
            front = f.front;
            at = f.at;
            after = sym e ∙ apply_found w f.front f.at f.first ∙ left f.front f.at.match f.at.back;
            first = f.first;
          })
      from e (inr never) = inr (sym e ∙ apply-nowhere w never, never)

      to : MatchBehavior u p t w w' → apply r w ≡ w'
      to (inl l) = apply_found w l.front l.at l.first ∙ left l.front l.at.match l.at.back ∙ sym l.after
      to (inr (e, never)) = apply-nowhere w never ∙ sym e

  -- by an everywhere rule exactly if the matches rewritten are the leftmost, the leftmost behind it, and so on
  pub everywhere_is_every : r.kind ≡ everywhere → (w w' : List ℕ) → (apply r w ≡ w') ↔ EveryMatch u p t w w'
  everywhere_is_every k w w' = (λ e. subst (EveryMatch u p t w) e (from (length w) w (omega arith)), to w w')
    where
      again : (x m y : List ℕ) → Match u m → First u x m y → apply r (x ++ (m ++ y)) ≡ x ++ (set m p t ++ apply r y)
      again x m y is first = apply-first x m y is first ∙ ap (λ (q : Kind). x ++ (set m p t ++ behind q (apply r) y)) k

      to : (w w' : List ℕ) → EveryMatch u p t w w' → apply r w ≡ w'
      to _ _ (none w never) = apply-nowhere w never
      to _ _ (more x m y y' is first rest) = again x m y is first ∙ ap (λ (l : List ℕ). x ++ (set m p t ++ l)) (to y y' rest)

      from : (i : ℕ) (w : List ℕ) → length w ≤ i → EveryMatch u p t w (apply r w)
      from zero [] h = none [] (not_in_nothing u n)
      from zero (a ∷ w) h = absurd (omega arith)
      from (suc i) w h = by (find u n w) (from i)
        where
          by : Found u w ⊎ (Matched u w → ⊥) → ((x : List ℕ) → length x ≤ i → EveryMatch u p t x (apply r x)) → EveryMatch u p t w (apply r w)
          by (inl f) rest =
              let m = f.at.match in
              let y = f.at.back in
              let shorter : length y ≤ i = omega (arith, ap length f.at.cut, length-append f.front (m ++ y), length-append m y, match-length u m f.at.is) in
              let first : First u f.front m y = λ z o. f.first z (moved u w (f.front ++ (m ++ y)) z f.at.cut o) in
              subst (λ (x : List ℕ). EveryMatch u p t x (apply r x)) (sym f.at.cut)
              (subst (EveryMatch u p t (f.front ++ (m ++ y))) (sym (again f.front m y f.at.is first)) (more f.front m y (apply r y) f.at.is first (rest y shorter)))
          by (inr never) rest = subst (EveryMatch u p t w) (sym (apply-nowhere w never)) (none w never)

  -- a word is unchanged exactly if nothing matches, where the new tag is another than the one at the place
  pub unchanged_is_nowhere : some_set (drop p u) ≡ false → p < length u → (get_or (word u) p 0 ≡ t → ⊥) → (w : List ℕ) → (apply r w ≡ w) ↔ (Matched u w → ⊥)
  unchanged_is_nowhere fixed inside new w = (λ e o. from e (find u n w) o, apply-nowhere w)
    where
      from : apply r w ≡ w → Found u w ⊎ (Matched u w → ⊥) → Matched u w → ⊥
      from e (inl f) o =
          let m = f.at.match in
          let y = behind r.kind (apply r) f.at.back in
          let long = match-length u m f.at.is in
          let same : m ++ f.at.back ≡ set m p t ++ y =
          append_cancel_left f.front (m ++ f.at.back) (set m p t ++ y) (sym f.at.cut ∙ sym e ∙ apply_found w f.front f.at f.first)
          in
          let fronts : m ≡ set m p t = sym (take_at m f.at.back (length m) refl) ∙ ap (take (length m)) same ∙ take_at (set m p t) y (length m) (length-set m p t) in
          new (sym (match-at u m p f.at.is fixed) ∙ ap (λ (x : List ℕ). get_or x p 0) fronts ∙ get_or-set_same m p t 0 (omega arith))
      from e (inr never) o = never o

-- ---- where no set stands, u is a word and v is u with the new tag at p

module _ (r : Rule) (n : 0 < length r.pattern) (no_set : some_set r.pattern ≡ false) where
  abbrev tags : List ℕ
  tags = word r.pattern

  -- "v is u with the tag at p replaced"
  abbrev changed : List ℕ
  changed = set (word r.pattern) r.place r.tag

  only : (m : List ℕ) → Match r.pattern m → m ≡ tags
  only m is = plain-match tags m (subst (λ (u : List Class). Match u m) (sym (plain_word r.pattern no_set)) is)

  itself : Match r.pattern tags
  itself = subst (λ (u : List Class). Match u (word r.pattern)) (plain_word r.pattern no_set) (match-plain tags)

  to-match : (w z : List ℕ) → OccursAt tags w z → MatchAt r.pattern w z
  to-match w z o = there r.pattern w z tags o.0 itself o.1

  from-match : (w z : List ℕ) → MatchAt r.pattern w z → OccursAt tags w z
  from-match w z o = (o.back, o.cut ∙ ap (λ (m : List ℕ). z ++ (m ++ o.back)) (only o.match o.is))

  -- 002's behavior of the rule: w = x u y and w' = x v y with x the shortest such, or u occurs nowhere and w' is w
  pub once_is_behavior : r.kind ≡ once → (w w' : List ℕ) → (apply r w ≡ w') ↔ Behavior tags changed w w'
  unfolding from-match to-match there
  once_is_behavior k w w' = (λ e. to ((once_is_leftmost r n k w w').0 e), λ b. (once_is_leftmost r n k w w').1 (from b))
    where
      to : MatchBehavior r.pattern r.place r.tag w w' → Behavior tags changed w w'
      to (inl l) =
          let is = only l.at.match l.at.is in
          inl (record {
            front = l.front;
            back = l.at.back;
            before = (from-match w l.front l.at).1;
            after = l.after ∙ ap (λ (m : List ℕ). l.front ++ (set m r.place r.tag ++ l.at.back)) is;
            first = λ z o. l.first z (to-match w z o);
          })
      to (inr (e, never)) = inr (e, λ o. never (o.0, to-match w o.0 o.1))

      from : Behavior tags changed w w' → MatchBehavior r.pattern r.place r.tag w w'
      from (inl l) =
          inl (record { front = l.front; at = to-match w l.front (l.back, l.before); after = l.after; first = λ z o. l.first z (from-match w z o) })
      from (inr (e, never)) = inr (e, λ o. never (o.0, from-match w o.0 o.1))

  -- and of an everywhere rule, again behind each match
  pub everywhere_is_all : r.kind ≡ everywhere → (w w' : List ℕ) → (apply r w ≡ w') ↔ Everywhere tags changed w w'
  everywhere_is_all k w w' = (λ e. to w w' ((everywhere_is_every r n k w w').0 e), λ b. (everywhere_is_every r n k w w').1 (from w w' b))
    where
      to : (w w' : List ℕ) → EveryMatch r.pattern r.place r.tag w w' → Everywhere tags changed w w'
      to _ _ (none w never) = nowhere w (λ o. never (o.0, to-match w o.0 o.1))
      to _ _ (more x m y y' is first rest) =
          subst (λ (z : List ℕ). Everywhere tags changed (x ++ (z ++ y)) (x ++ (set z r.place r.tag ++ y'))) (sym (only m is))
          (match x y y' (λ z o. first z (subst (λ (q : List ℕ). MatchAt r.pattern (x ++ (q ++ y)) z) (sym (only m is)) (to-match (x ++ (tags ++ y)) z o))) (to y y' rest))

      from : (w w' : List ℕ) → Everywhere tags changed w w' → EveryMatch r.pattern r.place r.tag w w'
      from _ _ (nowhere w never) = none w (λ o. never (o.0, from-match w o.0 o.1))
      from _ _ (match x y y' first rest) = more x tags y y' itself (λ z o. first z (from-match (x ++ (tags ++ y)) z o)) (from y y' rest)
