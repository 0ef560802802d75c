-- The transducer of one rule and an end tag.
use Prim.Native.Nat.{ℕ, zero, suc, ◌+◌, ◌-◌, ◌*◌, ◌≤◌, ◌<◌}
use native.Mathlib.Omega.{arith}
use native.Mathlib.Decide.{dec_lt}
use mathlib.Core.Path.{◌≡◌, refl, sym, ap, ◌∙◌}
use mathlib.Core.Bool.{Bool, true, false, ◌||◌, false≢true}
use mathlib.Core.List.{List, [], ◌∷◌, ◌++◌, append_assoc, append-nil}
use borrow.Author.Tests.{eq-eqb, ne_eqb}
use lib.Bits.{bit_and}
use lib.Dec.{eqb}
use lib.ListN.{length, take, drop, get_or, length-append}
use lib.Seq.{take-suc, get_or-take, length-take-le}
use Rattle.words.specs.Word.{Below}
use Rattle.words.specs.Front.{first}
use Rattle.words.specs.Overlap.{overlap}
use Rattle.words.proofs.Word.{below-take, below-drop}
use Rattle.words.proofs.Overlap.{skipped, overlap-split}
use Rattle.words.proofs.Pieces.{Without}
use Rattle.cascades.specs.Pattern.{Class, one, accepts, word, plain}
use Rattle.cascades.specs.Rule.{Kind, once, everywhere, Rule, has_set, ValidRule}
use Rattle.cascades.specs.Ending.{before}
use Rattle.cascades.proofs.Pattern.{word-length, plain-length, plain_word}
use Rattle.cascades.proofs.Ending.{no_or, before_at_lem}
use Rattle.transducers.specs.Transducer.{Shape, puts}
use Rattle.transducers.specs.Run.{walk}
use Rattle.transducers.specs.Canonical.{Inside, Minimal, Sound}
use Rattle.transducers.specs.Ended.{ended}
use Rattle.transducers.proofs.Ended.{sound-ended}
use Rattle.minimal.specs.Matcher.{held, moves}
use Rattle.minimal.specs.Bits.{accepting, bits}
use Rattle.minimal.specs.OneRule.{states, borders, one_rule}
use Rattle.minimal.proofs.Matcher.{moves_quiet}
use Rattle.minimal.proofs.Bits.{width-zero, width_le, fires_bits, bits_none}
use Rattle.minimal.proofs.OneRule.{states-few, fires_borders, overlap-step, borders_move, of_matcher, by_borders, sound-borders, walk-prefix, early-rule, apart-rule}

-- equal words end with equal tags
last-same : (v w : List ℕ) (a b : ℕ) → v ++ (a ∷ []) ≡ w ++ (b ∷ []) → a ≡ b
last-same [] [] a b e = cc
last-same [] (y ∷ w) a b e = absurd (omega (arith, ap length e, length-append w (b ∷ [])))
last-same (x ∷ v) [] a b e = absurd (omega (arith, ap length e, length-append v (a ∷ [])))
last-same (x ∷ v) (y ∷ w) a b e = last-same v w a b (ap (drop 1) e)

-- ---- a word that is one piece

-- with the end tag at its last place alone, where the start holds nothing
puts-piece : (e : ℕ) (S : Shape) → S.final 0 ≡ [] → (w : List ℕ) → before e (plain w) ≡ false → (q : ℕ) → puts (ended e S) q w ≡ puts S q w
puts-piece e S z [] h q = refl
puts-piece e S z (a ∷ []) h q = by (eqb a e)
  where
    by : (t : Bool) → elim t as (λ x. List ℕ) [ true ↦ S.output q a ++ S.final (S.next q a) | false ↦ S.output q a ] ++ S.final (elim t as (λ x. ℕ) [ true ↦ 0 | false ↦ S.next q a ])
        ≡ S.output q a ++ S.final (S.next q a)
    by true = ap (λ (x : List ℕ). (S.output q a ++ S.final (S.next q a)) ++ x) z ∙ append-nil (S.output q a ++ S.final (S.next q a))
    by false = refl
puts-piece e S z (a ∷ b ∷ w) h q = by (eqb a e) h (λ g. puts-piece e S z (b ∷ w) g (S.next q a))
  where
    by : (t : Bool) → (t || before e (plain (b ∷ w))) ≡ false → (before e (plain (b ∷ w)) ≡ false → puts (ended e S) (S.next q a) (b ∷ w) ≡ puts S (S.next q a) (b ∷ w))
        → elim t as (λ x. List ℕ) [ true ↦ S.output q a ++ S.final (S.next q a) | false ↦ S.output q a ] ++ puts (ended e S) (elim t as (λ x. ℕ) [ true ↦ 0 | false ↦ S.next q a ]) (b ∷ w)
        ≡ S.output q a ++ puts S (S.next q a) (b ∷ w)
    by true g rest = absurd (false≢true (sym g))
    by false g rest = ap (λ (x : List ℕ). S.output q a ++ x) (rest g)

walk-piece : (e : ℕ) (S : Shape) (w : List ℕ) → Without e w → (q : ℕ) → walk (ended e S) q w ≡ walk S q w
walk-piece e S [] h q = refl
walk-piece e S (a ∷ w) h q =
    let next : (ended e S).next q a ≡ S.next q a = cc (ne_eqb a e h.0) in
    ap (λ (s : ℕ). walk (ended e S) s w) next ∙ walk-piece e S w h.1 (S.next q a)

before-drop : (e i : ℕ) (u : List ℕ) → before e (plain u) ≡ false → before e (plain (drop i u)) ≡ false
before-drop e zero u h = h
before-drop e (suc i) [] h = refl
before-drop e (suc i) (a ∷ []) h = before-drop e i [] refl
before-drop e (suc i) (a ∷ b ∷ w) h = before-drop e i (b ∷ w) (no_or (eqb a e) (before e (plain (b ∷ w))) h).1

without_at : (e : ℕ) (w : List ℕ) → ((i : ℕ) → i < length w → get_or w i 0 ≡ e → ⊥) → Without e w
without_at e [] h = tt
without_at e (a ∷ w) h = (h 0 (omega arith), without_at e w (λ i l. h (suc i) (omega arith)))

-- ---- after an end tag nothing is held

module _ (e : ℕ) (u : List ℕ) (free : before e (plain u) ≡ false) where
  -- no tag before the last is the end tag
  other_at : (i : ℕ) → i + 1 < length u → get_or u i 0 ≡ e → ⊥
  other_at i l f =
      let none = before_at_lem e (plain u) free i (omega (arith, plain-length u)) in
      false≢true (sym none ∙ ap (λ (c : Class). accepts c e) (at u i (omega arith)) ∙ eq-eqb (get_or u i 0) e f)
    where
      at : (w : List ℕ) (i : ℕ) → i < length w → get_or (plain w) i (one 0) ≡ one (get_or w i 0)
      at [] i h = absurd (omega arith)
      at (a ∷ w) zero h = refl
      at (a ∷ w) (suc i) h = at w i (omega arith)

  -- a part of the pattern that ends with the end tag is no part: it is nothing or all
  pub none_matched : (j i : ℕ) → overlap u (take j u ++ (e ∷ [])) ≡ i → i < length u → i ≡ 0
  none_matched j zero is l = refl
  none_matched j (suc i) is l =
      let t = take j u ++ (e ∷ []) in
      let split : t ≡ skipped u t ++ take (suc i) u = overlap-split u t ∙ ap (λ (m : ℕ). skipped u t ++ take m u) is in
      let snoc : t ≡ (skipped u t ++ take i u) ++ (get_or u i 0 ∷ []) =
      split ∙ ap (λ (l : List ℕ). skipped u t ++ l) (take-suc u i 0 (omega arith)) ∙ sym (append_assoc (skipped u t) (take i u) (get_or u i 0 ∷ []))
      in
      absurd (other_at i (omega arith) (sym (last-same (take j u) (skipped u t ++ take i u) e (get_or u i 0) snoc)))

  pub quiet_borders : (k : Kind) (p : ℕ) → p < length u → (j : ℕ) → j ≤ length u → held u p (moves (length u) (borders k u) j e) ≡ []
  quiet_borders k p inside j le =
      moves_quiet u p 0 (borders k u) inside refl k (fires_borders k u) j e le
      (λ h. ((overlap-step u j e h).1, none_matched j (overlap u (take j u ++ (e ∷ []))) refl))

-- either the pattern is complete or nothing of it is matched
pub quiet_rule : (l k e : ℕ) (r : Rule) → ValidRule l k r → before e r.pattern ≡ false → (s : ℕ) → s < (one_rule r).count → (one_rule r).final ((one_rule r).next s e) ≡ []
quiet_rule l k e r ok free =
    of_matcher (λ M. (s : ℕ) → s < M.states → held (word u) r.place (M.longest (moves (length (word u)) M s e)) ≡ []) r
    (λ f s h.
    moves_quiet (word u) r.place 0 (bits r.kind u) inside (width-zero (length u)) r.kind (fires_bits r.kind u (omega (arith, ok.place_inside))) s e
    (omega (arith, width_le (length u) s, long))
    (λ l. (omega (arith, width_le (length u) (bit_and (2 * s + 1) (accepting u e)), long), λ m. bits_none e u free (2 * s + 1) (omega (arith, long)))))
    (λ f s h.
    quiet_borders e (word u) (ap (before e) (plain_word u f) ∙ free) r.kind r.place inside s (omega (arith, states-few r.kind (length (word u)))))
  where
    u : List Class
    u = r.pattern

    long : length (word r.pattern) ≡ length r.pattern
    long = word-length r.pattern

    inside : r.place < length (word r.pattern)
    inside = omega (arith, long, ok.place_inside)

-- ---- how many states one rule needs

-- the first m states of a transducer
abbrev pub upto : ℕ → Shape → Shape
upto m S = record { count = m; next = S.next; output = S.output; final = S.final }

pub puts_upto : (m : ℕ) (S : Shape) (w : List ℕ) (q : ℕ) → puts (upto m S) q w ≡ puts S q w
puts_upto m S [] q = refl
puts_upto m S (a ∷ w) q = ap (λ (x : List ℕ). S.output q a ++ x) (puts_upto m S w (S.next q a))

walk_upto : (m : ℕ) (S : Shape) (w : List ℕ) (q : ℕ) → walk (upto m S) q w ≡ walk S q w
walk_upto m S [] q = refl
walk_upto m S (a ∷ w) q = walk_upto m S w (S.next q a)

-- m states are enough if none of them leads out, and all are needed if the end tag stands in none of the fronts that lead to them
module _ (l k e : ℕ) (r : Rule) (ok : ValidRule l k r) (none : has_set r ≡ false) (free : before e (plain (word r.pattern)) ≡ false)
    (m : ℕ) (some : 0 < m) (few : m ≤ states r.kind (length (word r.pattern))) (inside : Inside k (upto m (ended e (by_borders r))))
    (fronts : (j : ℕ) → j < m → Without e (take j (word r.pattern))) where
  abbrev pub reached-states : Shape
  reached-states = upto m (ended e (by_borders r))

  whole : Sound k (ended e (by_borders r))
  whole = sound-ended e (by_borders r) k (sound-borders l k r ok none)

  pub sound-states : Sound k reached-states
  sound-states =
      record {
        some = some;
        empty = whole.empty;
        next_below = inside;
        output_below = λ q a h g. whole.output_below q a (omega arith) g;
        final_below = λ q h. whole.final_below q (omega arith);
        balanced = λ q a h g. whole.balanced q a (omega arith) g;
      }

  on_rest : (q i : ℕ) → puts reached-states q (drop i (word r.pattern)) ≡ puts (by_borders r) q (drop i (word r.pattern))
  on_rest q i =
      puts_upto m (ended e (by_borders r)) (drop i (word r.pattern)) q
      ∙ puts-piece e (by_borders r) whole.empty (drop i (word r.pattern)) (before-drop e i (word r.pattern) free) q

  rest_below : (i : ℕ) → Below k (drop i (word r.pattern))
  rest_below i = below-drop k i (word r.pattern) ok.pattern_below

  pub minimal-states : Minimal k reached-states
  minimal-states =
      let most = states-few r.kind (length (word r.pattern)) in
      record {
        next_below = inside;
        reached = λ j h.
            record {
              word = take j (word r.pattern);
              below = below-take k j (word r.pattern) ok.pattern_below;
              leads = walk_upto m (ended e (by_borders r)) (take j (word r.pattern)) 0 ∙ walk-piece e (by_borders r) (take j (word r.pattern)) (fronts j h) 0 ∙ walk-prefix l k r ok none j (omega arith);
            };
        early = λ j h c all. early-rule l k r ok none j (omega arith) c (λ i. ap first (sym (on_rest j i)) ∙ all (drop i (word r.pattern)) (rest_below i));
        apart = λ i j hi hj same.
            apart-rule l k r ok none i j (omega arith) (omega arith) (λ x. sym (on_rest i x) ∙ same (drop x (word r.pattern)) (rest_below x) ∙ on_rest j x);
      }

-- the two numbers: of a leftmost rule one more than the pattern has tags, and as many where it ends with the end tag; of an everywhere rule
-- as many
module _ (l k e : ℕ) (r : Rule) (ok : ValidRule l k r) (none : has_set r ≡ false) (free : before e (plain (word r.pattern)) ≡ false) where
  abbrev n : ℕ
  n = length (word r.pattern)

  abbrev last : ℕ
  last = get_or (word r.pattern) (n - 1) 0

  front-free : (j : ℕ) → j ≤ n → (j ≡ n → last ≡ e → ⊥) → Without e (take j (word r.pattern))
  front-free j h other =
      without_at e (take j (word r.pattern)) (λ i b f.
      let long : length (take j (word r.pattern)) ≡ j = length-take-le j (word r.pattern) h in
      let is : get_or (word r.pattern) i 0 ≡ e = sym (get_or-take j (word r.pattern) i 0 (omega arith)) ∙ f in
      at i (omega arith) is (dec_lt (i + 1) n))
    where
      at : (i : ℕ) → i < j → get_or (word r.pattern) i 0 ≡ e → Dec (i + 1 < n) → ⊥
      at i b f (yes g) = other_at e (word r.pattern) free i g f
      at i b f (no g) = let z : i ≡ n - 1 = omega arith in other (omega arith) (ap (λ (x : ℕ). get_or (word r.pattern) x 0) (sym z) ∙ f)

  -- of an everywhere rule all are reached, and nothing lies behind a match
  module _ (kind : r.kind ≡ everywhere) where
    pub fronts-within : (j : ℕ) → j < n → Without e (take j (word r.pattern))
    fronts-within j h = front-free j (omega arith) (λ z. omega arith)

    pub inside-within : Inside k (upto n (ended e (by_borders r)))
    inside-within =
        let all : states r.kind n ≡ n = ap (λ (x : Kind). states x n) kind in
        λ q a h g. omega (arith, (sound-ended e (by_borders r) k (sound-borders l k r ok none)).next_below q a (omega arith) g)

  module _ (kind : r.kind ≡ once) where
    all-states : states r.kind n ≡ suc n
    all-states = ap (λ (x : Kind). states x n) kind

    -- all are reached
    module _ (other : last ≡ e → ⊥) where
      pub fronts-all : (j : ℕ) → j < suc n → Without e (take j (word r.pattern))
      fronts-all j h = front-free j (omega arith) (λ z. other)

      pub inside-all : Inside k (upto (suc n) (ended e (by_borders r)))
      inside-all q a h g = omega (arith, (sound-ended e (by_borders r) k (sound-borders l k r ok none)).next_below q a (omega (arith, all-states)) g, all-states)

    -- the one after a whole match is not: it begins afresh
    module _ (same : last ≡ e) where
      pub fronts-before : (j : ℕ) → j < n → Without e (take j (word r.pattern))
      fronts-before j h = front-free j (omega arith) (λ z. omega arith)

      -- what completes the pattern is its last tag
      completes : (q a : ℕ) → overlap (word r.pattern) (take q (word r.pattern) ++ (a ∷ [])) ≡ n → a ≡ e
      completes q a is =
          let u = word r.pattern in
          let t = take q u ++ (a ∷ []) in
          let pos : 0 < n = omega (arith, ok.place_inside, word-length r.pattern) in
          let is-n : suc (n - 1) ≡ n = omega arith in
          let split : t ≡ skipped u t ++ take n u = overlap-split u t ∙ ap (λ (i : ℕ). skipped u t ++ take i u) is in
          let snoc : t ≡ (skipped u t ++ take (n - 1) u) ++ (last ∷ []) =
          split ∙ ap (λ (i : ℕ). skipped u t ++ take i u) (sym is-n) ∙ ap (λ (y : List ℕ). skipped u t ++ y) (take-suc u (n - 1) 0 (omega arith))
          ∙ sym (append_assoc (skipped u t) (take (n - 1) u) (last ∷ []))
          in
          last-same (take q u) (skipped u t ++ take (n - 1) u) a last snoc ∙ same

      pub inside-before : Inside k (upto n (ended e (by_borders r)))
      inside-before q a h g = by (eqb a e) refl
        where
          by : (t : Bool) → eqb a e ≡ t → elim t as (λ x. ℕ) [ true ↦ 0 | false ↦ (by_borders r).next q a ] < n
          by true f = omega arith
          by false f =
              let le = (overlap-step (word r.pattern) q a h).1 in
              let ne : overlap (word r.pattern) (take q (word r.pattern) ++ (a ∷ [])) ≡ n → ⊥ = λ z. false≢true (sym f ∙ eq-eqb a e (completes q a z)) in
              omega (arith, borders_move (word r.pattern) r.kind q a h (omega (arith, all-states)), le, ne)
