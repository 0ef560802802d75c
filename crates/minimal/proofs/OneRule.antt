-- The transducer of one rule does what the rule does (002, proposition 3). Without sets it is normalized (lemma 4) and minimal (proposition 5),
-- by what it makes of the rests of the pattern alone.
use Prim.Native.Nat.{ℕ, zero, suc, ◌-◌, ◌^◌, ◌≤◌, ◌<◌}
use native.Mathlib.Omega.{arith}
use native.Mathlib.Nat.{pow-suc}
use native.Mathlib.Decide.{ℕ_discrete, dec_lt}
use mathlib.Core.Path.{◌≡◌, refl, sym, ap, ◌∙◌, subst}
use mathlib.Core.Logic.{◌⊎◌, inl, inr}
use mathlib.Core.List.{List, [], ◌∷◌, ◌++◌, append-nil, append_cancel_left}
use mathlib.Core.Bool.{Bool, true, false, false≢true}
use lib.ListN.{length, take, drop, get_or, set, length-append, length-drop, length-set, take-append-drop, drop_of_length-le}
use lib.Pow.{pow_mono}
use lib.Seq.{take_all, take-take, take-set-le, get_or-set_same, get_or-take, take-suc, drop-cons, length-take-le}
use Rattle.words.specs.Word.{prefix}
use Rattle.words.specs.Front.{first}
use Rattle.words.specs.Overlap.{overlap}
use Rattle.words.proofs.Word.{below_suc, prefix-front, prefix-take}
use Rattle.words.proofs.Overlap.{overlap_le, overlap-prefix}
use Rattle.cascades.specs.Pattern.{Class, some_set, word}
use Rattle.cascades.specs.Rule.{Kind, once, everywhere, Rule, has_set, ValidRule}
use Rattle.cascades.specs.Rewrite.{behind, apply}
use Rattle.cascades.specs.Leftmost.{Match}
use Rattle.cascades.proofs.Pattern.{word-length, plain_word, match-plain}
use Rattle.cascades.proofs.Rewrite.{apply-short, apply-front}
use Rattle.transducers.specs.Transducer.{Shape, puts}
use Rattle.transducers.specs.Run.{walk}
use Rattle.transducers.specs.Canonical.{Same, Sound, Held}
use Rattle.transducers.proofs.Run.{walk-append}
use Rattle.minimal.specs.Matcher.{Matcher, held, moves, matching}
use Rattle.minimal.specs.Bits.{bits}
use Rattle.minimal.specs.OneRule.{states, fired, borders, matcher_of, one_rule}
use Rattle.minimal.proofs.Matcher.{ending, Fires, Matches, held_in, held_all, held-length, moves-match, moves_on, puts-end, does-before, sound-matching, held-matching}
use Rattle.minimal.proofs.Front.{front, front-prefix, fronts-rule, rewrites_rule}
use Rattle.minimal.proofs.Bits.{alive, alive_most, matches_bits}

-- ---- the borders are a matcher

overlap-ending : (u : List Class) → some_set u ≡ false → (t : List ℕ) → overlap (word u) t ≡ length (ending (front u) t)
overlap-ending u none [] = refl
overlap-ending u none (b ∷ t) = by (prefix (b ∷ t) (word u)) (front u (b ∷ t)) (sym (front-prefix u none (b ∷ t))) (overlap-ending u none t)
  where
    by : (c d : Bool) → c ≡ d → overlap (word u) t ≡ length (ending (front u) t)
        → elim c as (λ x. ℕ) [ true ↦ suc (length t) | false ↦ overlap (word u) t ] ≡ length {A = ℕ} (elim d as (λ x. List ℕ) [ true ↦ b ∷ t | false ↦ ending (front u) t ])
    by true true e rest = refl
    by true false e rest = absurd (false≢true (sym e))
    by false true e rest = absurd (false≢true e)
    by false false e rest = rest

-- the states of both kinds
pub states-few : (k : Kind) (n : ℕ) → (n ≤ states k n) × (states k n ≤ suc n)
states-few once n = (omega arith, omega arith)
states-few everywhere n = (omega arith, omega arith)

fired-inside : (k : Kind) (n : ℕ) → 0 < n → fired k n < states k n
fired-inside once n h = omega arith
fired-inside everywhere n h = h

-- a state that is the whole pattern is the one after a match
fired-there : (k : Kind) (n i : ℕ) → i < states k n → i ≡ n → fired k n ≡ i
fired-there once n i h e = sym e
fired-there everywhere n i h e = absurd (omega arith)

pub fires_borders : (k : Kind) (u : List ℕ) → Fires k (length u) (borders k u)
fires_borders once u = refl
fires_borders everywhere u = refl

module _ (u : List ℕ) where
  pub overlap-step : (s a : ℕ) → s < length u → (overlap u (take s u ++ (a ∷ [])) ≤ suc s) × (overlap u (take s u ++ (a ∷ [])) ≤ length u)
  overlap-step s a h =
      let o = overlap_le u (take s u ++ (a ∷ [])) in
      (omega (arith, o.0, length-append (take s u) (a ∷ []), length-take-le s u (omega arith)), o.1)

  -- a step goes to the overlap, if that is a state
  pub borders_move : (k : Kind) (j a : ℕ) → j < length u → overlap u (take j u ++ (a ∷ [])) < states k (length u)
      → moves (length u) (borders k u) j a ≡ overlap u (take j u ++ (a ∷ []))
  borders_move k j a h l = by (ℕ_discrete (overlap u (take j u ++ (a ∷ []))) (length u))
    where
      by : Dec (overlap u (take j u ++ (a ∷ [])) ≡ length u) → moves (length u) (borders k u) j a ≡ overlap u (take j u ++ (a ∷ []))
      by (yes e) = moves-match u 0 0 (borders k u) j a h e ∙ fired-there k (length u) (overlap u (take j u ++ (a ∷ []))) l e
      by (no g) = moves_on u 0 0 (borders k u) j a h (omega (arith, (overlap-step j a h).1))

module _ (k : Kind) (u : List Class) (none : some_set u ≡ false) (some : 0 < length u) where
  step-overlap : (z : List ℕ) (a : ℕ) → front u z ≡ true → overlap (word u) (take (length z) (word u) ++ (a ∷ [])) ≡ length (ending (front u) (z ++ (a ∷ [])))
  step-overlap z a e =
      ap (λ (y : List ℕ). overlap (word u) (y ++ (a ∷ []))) (sym (prefix-take z (word u) (sym (front-prefix u none z) ∙ e))) ∙ overlap-ending u none (z ++ (a ∷ []))

  matches_borders : Matches k (word u) (front u) (borders k (word u)) length
  matches_borders =
      let few = states-few k (length (word u)) in
      let long = word-length u in
      record {
        start = refl;
        codes = λ z e h. refl;
        steps = λ z a e h. (step-overlap z a e, λ l. step-overlap z a e);
        some = omega arith;
        low = refl;
        few = λ s h. omega arith;
        one_more = λ s a h l. overlap-step (word u) s a l;
        step-below = λ s a h l m. omega arith;
        fired-below = fired-inside k (length (word u)) (omega arith);
        fires = fires_borders k (word u);
      }

-- ---- the transducer of every rule

-- its matcher, by whether it has a set
abbrev pub matcher_by : Rule → Bool → Matcher
matcher_by r t = elim t [ true ↦ bits r.kind r.pattern | false ↦ borders r.kind (word r.pattern) ]

pub matcher_is : (r : Rule) (t : Bool) → has_set r ≡ t → matcher_of r ≡ matcher_by r t
matcher_is r t e = ap (matcher_by r) e

pub of_matcher : (P : Matcher → Type 0) (r : Rule) → (has_set r ≡ true → P (matcher_by r true)) → (has_set r ≡ false → P (matcher_by r false)) → P (matcher_of r)
of_matcher P r with_set without = by (has_set r) refl
  where
    by : (t : Bool) → has_set r ≡ t → P (matcher_by r t)
    by true e = with_set e
    by false e = without e

module _ (l k : ℕ) (r : Rule) (ok : ValidRule l k r) where
  some : 0 < length r.pattern
  some = omega (arith, ok.place_inside)

  matches_rule : (code : List ℕ → ℕ) × Matches r.kind (word r.pattern) (front r.pattern) (matcher_of r) code
  matches_rule =
      of_matcher (λ M. (code : List ℕ → ℕ) × Matches r.kind (word r.pattern) (front r.pattern) M code) r (λ e. (alive r.pattern, matches_bits r.kind r.pattern some))
      (λ e. (length, matches_borders r.kind r.pattern e some))

  -- 002, proposition 3
  pub does-rule : Same k (puts (one_rule r) 0) (apply r)
  does-rule x hx =
      let code = matches_rule.0 in
      let C = matches_rule.1 in
      let F = fronts-rule l k r ok in
      ap (λ (s : ℕ). puts (one_rule r) s x) (sym C.start)
      ∙ ap (λ (o : List ℕ). o ++ puts (one_rule r) (code []) x) (sym (take_all r.place [] (omega arith)))
      ∙ does-before r.kind (word r.pattern) r.place r.tag (front r.pattern) F (apply r) (rewrites_rule l k r ok) (matcher_of r) code C x [] refl
      (omega (arith, F.inside))

  pub sound-rule : Sound k (one_rule r)
  sound-rule =
      sound-matching k r.kind (word r.pattern) r.place r.tag (front r.pattern) (fronts-rule l k r ok) (matcher_of r) matches_rule.0 matches_rule.1
      ok.pattern_below ok.tag_below

  -- at most one tag less than the pattern has is held
  pub held-rule : Held (l - 1) (one_rule r)
  held-rule j hj =
      omega (
        arith,
        held-matching k r.kind (word r.pattern) r.place r.tag (front r.pattern) (fronts-rule l k r ok) (matcher_of r) matches_rule.0 matches_rule.1
            ok.pattern_below ok.tag_below j hj,
        ok.short,
        word-length r.pattern,
      )

  -- without sets it has at most one state more than the pattern has places; with sets one more than there are sets of lengths
  pub rule-few : (has_set r ≡ false → (one_rule r).count ≤ suc (length r.pattern)) × ((one_rule r).count ≤ suc (2 ^ (l - 1)))
  rule-few = (
    λ e. omega (arith, ap (λ (M : Matcher). M.states) (matcher_is r false e), states-few r.kind (length (word r.pattern)), word-length r.pattern),
    of_matcher (λ M. M.states ≤ suc (2 ^ (l - 1))) r
        (λ e. omega (arith, alive_most r.kind (length r.pattern), pow_mono {i = length r.pattern - 1} {j = l - 1} (omega (arith, ok.short))))
        (λ e. omega (arith, states-few r.kind (length (word r.pattern)), word-length r.pattern, ok.short, few (l - 1))),
  )
    where
      few : (n : ℕ) → suc n ≤ 2 ^ n
      few zero = omega arith
      few (suc n) = omega (arith, few n, pow-suc 2 n)

-- ---- the transducer of a rule without sets

abbrev pub by_borders : Rule → Shape
by_borders r = matching (word r.pattern) r.place r.tag (borders r.kind (word r.pattern))

pub rule-borders : (r : Rule) → has_set r ≡ false → one_rule r ≡ by_borders r
rule-borders r e = ap (matching (word r.pattern) r.place r.tag) (matcher_is r false e)

module _ (l k : ℕ) (r : Rule) (ok : ValidRule l k r) (none : has_set r ≡ false) where
  u : List ℕ
  u = word r.pattern

  v : List ℕ
  v = set (word r.pattern) r.place r.tag

  p : ℕ
  p = r.place

  n : ℕ
  n = length (word r.pattern)

  v_front : take p v ≡ take p u
  unfolding u v p
  v_front = take-set-le r.place (word r.pattern) r.place r.tag (omega arith)

  v_length : length v ≡ length u
  unfolding u v
  v_length = length-set (word r.pattern) r.place r.tag

  p_below : p < n
  unfolding p n
  p_below = (fronts-rule l k r ok).inside

  differs : u ≡ v → ⊥
  unfolding u v p n
  differs e = ok.tag_new (ap (λ (w : List ℕ). get_or w r.place 0) e ∙ get_or-set_same (word r.pattern) r.place r.tag 0 p_below)

  held_at : (j : ℕ) → j < n → held (word r.pattern) r.place j ≡ drop p (take j u)
  unfolding u p n
  held_at j h = held_in (word r.pattern) r.place r.tag j h

  held-end : held (word r.pattern) r.place n ≡ []
  unfolding n
  held-end = held_all (word r.pattern) r.place r.tag (length (word r.pattern)) refl

  held-long : (j : ℕ) → j < n → length (held (word r.pattern) r.place j) ≡ j - p
  unfolding p n
  held-long j h = held-length (word r.pattern) r.place r.tag j h

  -- once the rule was applied the rest is put out as it is
  puts-after : (x : List ℕ) → puts (by_borders r) n x ≡ x
  unfolding n
  puts-after = puts-end (word r.pattern) r.place r.tag (borders r.kind (word r.pattern)) (length (word r.pattern)) refl

  -- what was put out before and is still put out is what the rule makes of what was matched and is read
  puts_in : (x : List ℕ) (j : ℕ) → j < n → take p (take j u) ++ puts (by_borders r) j x ≡ apply r (take j u ++ x)
  unfolding u p n
  puts_in x j h =
      let row = word r.pattern in
      let w = take j row in
      let long : length w ≡ j = length-take-le j row (omega arith) in
      let F = fronts-rule l k r ok in
      ap (λ (s : ℕ). take r.place w ++ puts (by_borders r) s x) (sym long)
      ∙ does-before r.kind row r.place r.tag (front r.pattern) F (apply r) (rewrites_rule l k r ok) (borders r.kind row) length
      (matches_borders r.kind r.pattern none (omega (arith, ok.place_inside))) x w (front-prefix r.pattern none w ∙ prefix-front j row) (omega arith)

  pub sound-borders : Sound k (by_borders r)
  sound-borders = subst (Sound k) (rule-borders r none) (sound-rule l k r ok)

  -- a prefix of u leads to its own state
  pub walk-prefix : (j : ℕ) → j < states r.kind (length (word r.pattern)) → walk (by_borders r) 0 (take j (word r.pattern)) ≡ j
  unfolding u n
  walk-prefix zero h = refl
  walk-prefix (suc j) h =
      let in-u : j < length u = omega (arith, states-few r.kind (length (word r.pattern))) in
      let more : take (suc j) u ≡ take j u ++ (get_or u j 0 ∷ []) = take-suc u j 0 in-u in
      let there : overlap u (take j u ++ (get_or u j 0 ∷ [])) ≡ suc j =
      ap (overlap u) (sym more) ∙ overlap-prefix u (take (suc j) u) (prefix-front (suc j) u) ∙ length-take-le (suc j) u in-u in
      ap (walk (by_borders r) 0) more
      ∙ walk-append (by_borders r) 0 (take j u) (get_or u j 0 ∷ [])
      ∙ ap (λ (s : ℕ). moves (length (word r.pattern)) (borders r.kind (word r.pattern)) s (get_or u j 0)) (walk-prefix j (omega arith))
      ∙ borders_move (word r.pattern) r.kind j (get_or (word r.pattern) j 0) in-u (omega arith)
      ∙ there

  -- the rest of u completes the match
  puts-rest : (j : ℕ) → j < n → take p (take j u) ++ puts (by_borders r) j (drop j u) ≡ v
  unfolding u v n
  puts-rest j h =
      puts_in (drop j u) j h ∙ ap (apply r) (take-append-drop j u ∙ sym (append-nil u)) ∙ apply-front r (omega (arith, ok.place_inside)) u [] itself
      ∙ ap (λ (x : List ℕ). v ++ x) (nothing-behind r.kind) ∙ append-nil v
    where
      itself : Match r.pattern (word r.pattern)
      itself = subst (λ (x : List Class). Match x (word r.pattern)) (plain_word r.pattern none) (match-plain (word r.pattern))

      nothing-behind : (k : Kind) → behind k (apply r) [] ≡ []
      nothing-behind once = refl
      nothing-behind everywhere = refl

  -- up to the place all that was matched has been put out
  said_all : (j : ℕ) → j < n → (p < j → ⊥) → take p (take j u) ≡ take j u
  unfolding u n
  said_all j h low = take_all p (take j u) (omega (arith, length-take-le j u (omega arith)))

  -- there the rest of u is not put out as it is
  changed : (j : ℕ) → j < n → (p < j → ⊥) → drop j u ≡ puts (by_borders r) j (drop j u) → ⊥
  unfolding u n
  changed j h low e =
      differs (sym (take-append-drop j u) ∙ ap (λ (o : List ℕ). take j u ++ o) e ∙ ap (λ (o : List ℕ). o ++ puts (by_borders r) j (drop j u)) (sym (said_all j h low)) ∙ puts-rest j h)

  -- the last rest of u is nothing
  no_rest : drop n u ≡ []
  unfolding u n
  no_rest = drop_of_length-le (word r.pattern) {i = length (word r.pattern)} (omega arith)

  -- 002, lemma 4: no tag begins all that is put out on the rests of u
  pub early-rule : (j : ℕ) → j < suc (length (word r.pattern)) → (c : ℕ) → ((i : ℕ) → first (puts (by_borders r) j (drop i (word r.pattern))) ≡ suc c) → ⊥
  unfolding u v p n
  early-rule j hj c all = go (below_suc j n hj) (dec_lt p j)
    where
      at_once : first (puts (by_borders r) j []) ≡ suc c
      at_once = ap (λ (x : List ℕ). first (puts (by_borders r) j x)) (sym no_rest) ∙ all n

      go : (j < n) ⊎ (j ≡ n) → Dec (p < j) → ⊥
      go (inr e) d = let z : suc c ≡ 0 = sym at_once ∙ ap (λ (i : ℕ). first (held (word r.pattern) r.place i)) e ∙ ap first held-end in omega arith
      go (inl h) (no d) = let z : suc c ≡ 0 = sym at_once
          ∙ ap first (held_at j h ∙ drop_of_length-le (take j u) {i = p} (omega (arith, length-take-le j u (omega arith)))) in omega arith
      go (inl h) (yes d) =
          let inside : p < length (take j u) = omega (arith, length-take-le j u (omega arith)) in
          let old : suc c ≡ suc (get_or u p 0) = sym at_once ∙ ap first (held_at j h ∙ drop-cons (take j u) p 0 inside)
          ∙ ap suc (get_or-take j u p 0 d) in
          let back : take p v ++ puts (by_borders r) j (drop j u) ≡ take p v ++ drop p v =
          ap (λ (o : List ℕ). o ++ puts (by_borders r) j (drop j u)) (v_front ∙ sym (take-take p j u (omega arith)))
          ∙ puts-rest j h ∙ sym (take-append-drop p v) in
          let new : suc c ≡ suc r.tag =
          sym (all j)
          ∙ ap first (append_cancel_left (take p v) (puts (by_borders r) j (drop j u)) (drop p v) back ∙ drop-cons v p 0 (omega (arith, v_length, p_below)))
          ∙ ap suc (get_or-set_same (word r.pattern) r.place r.tag 0 p_below) in
          ok.tag_new (omega arith)

  -- i and j put out the same on the rests of u
  abbrev pub SameRests : ℕ → ℕ → Type 0
  SameRests i j = (m : ℕ) → puts (by_borders r) i (drop m (word r.pattern)) ≡ puts (by_borders r) j (drop m (word r.pattern))

  same_length : (i j : ℕ) → SameRests i j → length (held (word r.pattern) r.place i) ≡ length (held (word r.pattern) r.place j)
  unfolding u n
  same_length i j same = ap length (ap (puts (by_borders r) i) (sym no_rest) ∙ same n ∙ ap (puts (by_borders r) j) no_rest)

  -- 002, proposition 5: two states are told apart by nothing more, by the rest of u after the one, or by that after the other
  told : (i j : ℕ) → i < j → (j < n) ⊎ (j ≡ n) → Dec (p < i) → Dec (p < j) → SameRests i j → ⊥
  unfolding u n
  told i j lt (inl h) d (yes b) same = omega (arith, same_length i j same, held-long i (omega arith), held-long j h)
  told i j lt (inl h) d (no b) same =
      let x = drop j u in
      let short : length (take i u ++ x) < length r.pattern = omega (arith, word-length r.pattern, length-append (take i u) x, length-take-le i u (omega arith), length-drop j u) in
      let keeps : puts (by_borders r) i x ≡ x =
      append_cancel_left (take i u) (puts (by_borders r) i x) x
      (ap (λ (o : List ℕ). o ++ puts (by_borders r) i x) (sym (said_all i (omega arith) (λ g. omega arith))) ∙ puts_in x i (omega arith) ∙ apply-short r (take i u ++ x) short) in
      changed j h b (sym keeps ∙ same j)
  told i j lt (inr e) (yes d) b same = omega (arith, same_length i j same, held-long i (omega arith), ap (λ (s : ℕ). length (held (word r.pattern) r.place s)) e, ap length held-end)
  told i j lt (inr e) (no d) b same =
      let x = drop i u in
      let keeps : puts (by_borders r) j x ≡ x = ap (λ (s : ℕ). puts (by_borders r) s x) e ∙ puts-after x in
      changed i (omega arith) d (sym keeps ∙ sym (same i))

  pub apart-rule : (i j : ℕ) → i < suc (length (word r.pattern)) → j < suc (length (word r.pattern)) → SameRests i j → i ≡ j
  unfolding n
  apart-rule i j hi hj same = by (dec_lt i j) (dec_lt j i)
    where
      by : Dec (i < j) → Dec (j < i) → i ≡ j
      by (yes lt) d = absurd (told i j lt (below_suc j n hj) (dec_lt p i) (dec_lt p j) same)
      by (no b) (yes lt) = absurd (told j i lt (below_suc i n hi) (dec_lt p j) (dec_lt p i) (λ m. sym (same m)))
      by (no b) (no d) = omega arith
