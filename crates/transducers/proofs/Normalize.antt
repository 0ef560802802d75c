-- Laws of normalization: consistent fronts from which nothing was cut too much are the definition's, in whatever order they were
-- lowered; the result does the same, early.
use Prim.Native.Nat.{ℕ, zero, suc, ◌+◌, ◌≤◌, ◌<◌}
use native.Mathlib.Omega.{arith}
use mathlib.Core.Path.{◌≡◌, refl, sym, ap, ◌∙◌}
use mathlib.Core.Logic.{◌⊎◌, inl, inr}
use mathlib.Core.List.{List, [], ◌∷◌, ◌++◌, append_assoc, map}
use lib.ListN.{length, get_or, length-append, length-map, length-drop, get_or-map}
use Rattle.words.specs.Word.{Below, Prefix}
use Rattle.words.specs.Front.{first, meet}
use Rattle.words.proofs.Word.{below-append, below_right, below_left}
use Rattle.words.proofs.Front.{begins_nil, begins_refl, begins_trans, begins_under, begins_length, begins_whole, begins_drop, begins_either, begins_cancel, meet_left, meet_right, meet_greatest}
use Rattle.transducers.specs.Transducer.{Shape, puts}
use Rattle.transducers.specs.Table.{Step, Table, no_step, row, shape}
use Rattle.transducers.specs.Canonical.{Same, Inside, Early, Sound, Held}
use Rattle.transducers.specs.Tabulate.{tabulate, Rows, Doing}
use Rattle.transducers.specs.Normalize.{front, lower_row, lower, size, fronts, stripped, normalize, Consistent, Above}
use Rattle.transducers.proofs.Rounds.{rounds_keep, rounds-rest, total_le, total-same}
use Rattle.transducers.proofs.Tabulate.{length-tabulate, at-tabulate, early-table, doing-table}

-- consistent fronts begin all that is still put out
pub begins_puts : (k : ℕ) (S : Shape) (F : ℕ → List ℕ) → Consistent k S F → Inside k S
    → (q : ℕ) → q < S.count → (x : List ℕ) → Below k x → Prefix (F q) (puts S q x)
begins_puts k S F c inside q hq [] hx = c.held q hq
begins_puts k S F c inside q hq (a ∷ x) hx =
    let rest = begins_puts k S F c inside (S.next q a) (inside q a hq hx.0) x hx.1 in
    begins_trans (c.steps q a hq hx.0) (begins_under (S.output q a) rest)

-- the final words are above
pub above-finals : (k : ℕ) (S : Shape) → Above k S S.final
above-finals k S q hq z all = all [] tt

-- what begins all that q still puts out begins the output of each step with the front after it
pub above_step : (k : ℕ) (S : Shape) (F : ℕ → List ℕ) → Above k S F → Inside k S
    → (q a : ℕ) → q < S.count → a < k → (z : List ℕ) → ((x : List ℕ) → Below k x → Prefix z (puts S q x)) → Prefix z (S.output q a ++ F (S.next q a))
above_step k S F above inside q a hq ha z all = go (begins_either (S.output q a) z (S.final (S.next q a)) (all (a ∷ []) (ha, tt)))
  where
    go : Prefix z (S.output q a) ⊎ ((y : List ℕ) × (z ≡ S.output q a ++ y)) → Prefix z (S.output q a ++ F (S.next q a))
    go (inl h) = begins_trans h (record { rest = F (S.next q a); split = refl })
    go (inr h) =
        rw h.1 (begins_under (S.output q a) (above (S.next q a) (inside q a hq ha) h.0
        (λ x hx. begins_cancel (S.output q a) h.0 (puts S (S.next q a) x) (rw h.1 at (all (a ∷ x) (ha, hx))))))

-- so fronts that are lowered to what they have in common with a step, one at a time or all at once, in any order, stay above
pub above-lowered : (k : ℕ) (S : Shape) (F G : ℕ → List ℕ) → Above k S F → Inside k S
    → ((q : ℕ) → q < S.count → (G q ≡ F q) ⊎ ((a : ℕ) × (a < k) × (G q ≡ meet (F q) (S.output q a ++ F (S.next q a))))) → Above k S G
above-lowered k S F G above inside how q hq z all = go (how q hq)
  where
    go : (G q ≡ F q) ⊎ ((a : ℕ) × (a < k) × (G q ≡ meet (F q) (S.output q a ++ F (S.next q a)))) → Prefix z (G q)
    go (inl e) = rw e (above q hq z all)
    go (inr h) =
        let a = h.0 in
        rw h.2 (meet_greatest z (F q) (S.output q a ++ F (S.next q a)) (above q hq z all) (above_step k S F above inside q a hq h.1 z all))

-- fronts that are consistent and above are the longest common prefixes, so there are no others
pub fronts_unique : (k : ℕ) (S : Shape) → Inside k S
    → (F G : ℕ → List ℕ) → Consistent k S F → Above k S F → Consistent k S G → Above k S G → (q : ℕ) → q < S.count → F q ≡ G q
fronts_unique k S inside F G cF aF cG aG q hq =
    begins_whole (aG q hq (F q) (begins_puts k S F cF inside q hq)) (begins_length (aF q hq (G q) (begins_puts k S G cG inside q hq)))

module _ (fs : List (List ℕ)) where
  low-start : (ss : List Step) (w : List ℕ) → Prefix (lower_row fs ss w) w
  low-start [] w = begins_refl w
  low-start (s ∷ ss) w = begins_trans (low-start ss (meet w (s.output ++ front fs s.next))) (meet_left w (s.output ++ front fs s.next))

  low_step : (ss : List Step) (w : List ℕ) (i : ℕ) → i < length ss
      → Prefix (lower_row fs ss w) ((get_or ss i no_step).output ++ front fs (get_or ss i no_step).next)
  low_step [] w i h = absurd (omega arith)
  low_step (s ∷ ss) w zero h = begins_trans (low-start ss (meet w (s.output ++ front fs s.next))) (meet_right w (s.output ++ front fs s.next))
  low_step (s ∷ ss) w (suc i) h = low_step ss (meet w (s.output ++ front fs s.next)) i (omega arith)

  low_greatest : (ss : List Step) (w z : List ℕ) → Prefix z w
      → ((i : ℕ) → i < length ss → Prefix z ((get_or ss i no_step).output ++ front fs (get_or ss i no_step).next)) → Prefix z (lower_row fs ss w)
  low_greatest [] w z h all = h
  low_greatest (s ∷ ss) w z h all =
      let o = s.output ++ front fs s.next in
      low_greatest ss (meet w o) z (meet_greatest z w o h (all 0 (omega arith))) (λ i g. all (suc i) (omega arith))

module _ (k : ℕ) (t : Table) (rows : Rows k t) (sound : Sound k (shape t)) where
  -- what the rounds keep: a front for each state, a prefix of its final word, above
  record Kept (fs : List (List ℕ)) : Type 0 where
    long : length fs ≡ length t
    held : (q : ℕ) → q < length t → Prefix (front fs q) ((shape t).final q)
    above : Above k (shape t) (front fs)

  at-lower : (fs : List (List ℕ)) (q : ℕ) → q < length t → front (lower t fs) q ≡ lower_row fs (row t q).steps (front fs q)
  at-lower fs q h = at-tabulate (length t) q (λ q. lower_row fs (row t q).steps (front fs q)) [] h

  begins_lower : (fs : List (List ℕ)) (q : ℕ) → q < length t → Prefix (front (lower t fs) q) (front fs q)
  begins_lower fs q h = rw (at-lower fs q h) (low-start fs (row t q).steps (front fs q))

  keep : (fs : List (List ℕ)) → Kept fs → Kept (lower t fs)
  keep fs m =
      record {
        long = length-tabulate (length t) 0 (λ q. lower_row fs (row t q).steps (front fs q));
        held = λ q h. begins_trans (begins_lower fs q h) (m.held q h);
        above = λ q h z all. rw (at-lower fs q h) (low_greatest fs (row t q).steps (front fs q) z (m.above q h z all)
            (λ a g. above_step k (shape t) (front fs) m.above sound.next_below q a h (omega (arith, rows q h)) z all));
      }

  sizes : (fs : List (List ℕ)) → Kept fs → length (map length (lower t fs)) ≡ length (map length fs)
  sizes fs m = omega (arith, length-map (lower t fs) length, length-map fs length, (keep fs m).long, m.long)

  smaller : (fs : List (List ℕ)) → Kept fs → (i : ℕ) → i < length (map length (lower t fs))
      → get_or (map length (lower t fs)) i 0 ≤ get_or (map length fs) i 0
  smaller fs m i h =
      rw (get_or-map length (lower t fs) i [], get_or-map length fs i [])
      (begins_length (begins_lower fs i (omega (arith, length-map (lower t fs) length, (keep fs m).long))))

  down : (fs : List (List ℕ)) → Kept fs → size (lower t fs) ≤ size fs
  down fs m = total_le (map length (lower t fs)) (map length fs) (sizes fs m) (smaller fs m)

  -- fronts that lowering leaves as long as they are are consistent
  rest : (fs : List (List ℕ)) → Kept fs → size (lower t fs) ≡ size fs → Consistent k (shape t) (front fs)
  rest fs m e =
      record {
        held = m.held;
        steps = λ q a h g. rw (← whole q h) (rw (at-lower fs q h) (low_step fs (row t q).steps (front fs q) a (omega (arith, rows q h))));
      }
    where
      whole : (q : ℕ) → q < length t → front (lower t fs) q ≡ front fs q
      whole q h =
          let i : q < length (map length (lower t fs)) = omega (arith, length-map (lower t fs) length, (keep fs m).long) in
          let same = total-same (map length (lower t fs)) (map length fs) (sizes fs m) (smaller fs m) e q i in
          begins_whole (begins_lower fs q h) (omega (arith, rw (get_or-map length (lower t fs) q [], get_or-map length fs q []) at same))

  start : List (List ℕ)
  start = tabulate (length t) 0 (λ q. (row t q).final)

  kept-start : Kept start
  unfolding start
  kept-start =
      let at : (q : ℕ) → q < length t → front start q ≡ (shape t).final q = λ q h. at-tabulate (length t) q (λ q. (row t q).final) [] h in
      record {
        long = length-tabulate (length t) 0 (λ q. (row t q).final);
        held = λ q h. rw (at q h) (begins_refl ((shape t).final q));
        above = λ q h z all. rw (at q h) (above-finals k (shape t) q h z all);
      }

  kept-fronts : Kept (fronts t)
  unfolding start
  kept-fronts = rounds_keep size (lower t) Kept keep (size start) start kept-start

  pub fronts_consistent : Consistent k (shape t) (front (fronts t))
  unfolding start
  fronts_consistent = rest (fronts t) kept-fronts (rounds-rest size (lower t) Kept keep down (size start) start kept-start (omega arith))

  pub fronts-above : Above k (shape t) (front (fronts t))
  fronts-above = kept-fronts.above

  -- any fronts that rest and are above are those of the definition, in whatever order they were computed
  pub fronts-any : (F : ℕ → List ℕ) → Consistent k (shape t) F → Above k (shape t) F → (q : ℕ) → q < length t → F q ≡ front (fronts t) q
  fronts-any F c a = fronts_unique k (shape t) sound.next_below F (front (fronts t)) c a fronts_consistent fronts-above

module _ (k : ℕ) (S : Shape) (F : ℕ → List ℕ) (sound : Sound k S) (c : Consistent k S F) where
  strip_output : (q a : ℕ) → q < S.count → a < k → F q ++ (stripped S F).output q a ≡ S.output q a ++ F (S.next q a)
  strip_output q a h g = begins_drop (c.steps q a h g)

  strip_final : (q : ℕ) → q < S.count → F q ++ (stripped S F).final q ≡ S.final q
  strip_final q h = begins_drop (c.held q h)

  -- each state puts out what it did, without its front
  pub strip_puts : (q : ℕ) → q < S.count → (x : List ℕ) → Below k x → F q ++ puts (stripped S F) q x ≡ puts S q x
  strip_puts q h [] hx = strip_final q h
  strip_puts q h (a ∷ x) hx =
      sym (append_assoc (F q) ((stripped S F).output q a) (puts (stripped S F) (S.next q a) x))
      ∙ ap (λ (l : List ℕ). l ++ puts (stripped S F) (S.next q a) x) (strip_output q a h hx.0)
      ∙ append_assoc (S.output q a) (F (S.next q a)) (puts (stripped S F) (S.next q a) x)
      ∙ ap (λ (l : List ℕ). S.output q a ++ l) (strip_puts (S.next q a) (sound.next_below q a h hx.0) x hx.1)

  -- nothing is held at the start, so its front is empty
  strip_start : F 0 ≡ []
  strip_start = begins_whole (begins_trans (c.held 0 sound.some) (rw sound.empty (begins_nil []))) (omega arith)

  sound-stripped : Sound k (stripped S F)
  sound-stripped =
      record {
        some = sound.some;
        empty = rw (strip_start) sound.empty;
        next_below = sound.next_below;
        output_below = λ q a h g.
            let to = S.next q a in
            below_right k (F q) ((stripped S F).output q a)
            (rw (strip_output q a h g) (below-append k (S.output q a) (F to) (sound.output_below q a h g) (front_below to (sound.next_below q a h g))));
        final_below = λ q h. below_right k (F q) ((stripped S F).final q) (rw (strip_final q h) (sound.final_below q h));
        balanced = λ q a h g. omega (arith, lengths q a h g, final-lengths q h, final-lengths (S.next q a) (sound.next_below q a h g), sound.balanced q a h g);
      }
    where
      front_below : (q : ℕ) → q < S.count → Below k (F q)
      front_below q h = below_left k (F q) ((stripped S F).final q) (rw (strip_final q h) (sound.final_below q h))

      lengths : (q a : ℕ) → q < S.count → a < k
          → length (F q) + length ((stripped S F).output q a) ≡ length (S.output q a) + length (F (S.next q a))
      lengths q a h g = omega (arith, simp length-append at (ap length (strip_output q a h g)))

      final-lengths : (q : ℕ) → q < S.count → length (F q) + length ((stripped S F).final q) ≡ length (S.final q)
      final-lengths q h = omega (arith, simp length-append at (ap length (strip_final q h)))

  -- nothing begins all that is left
  early-stripped : Above k S F → Early k (stripped S F)
  early-stripped above q h b all =
      omega (
        arith,
        length-append (F q) (b ∷ []),
        begins_length (above q h (F q ++ (b ∷ [])) (λ x hx. rw (← strip_puts q h x hx) (begins_under (F q) (begun (puts (stripped S F) q x) (all x hx))))),
      )
    where
      begun : (w : List ℕ) → first w ≡ suc b → Prefix (b ∷ []) w
      begun [] e = absurd (omega arith)
      begun (a ∷ w) e = let d : a ≡ b = omega arith in record { rest = w; split = rw d }

module _ (k d : ℕ) (f : List ℕ → List ℕ) (t : Table) (doing : Doing k d f t) where
  S : Shape
  S = stripped (shape t) (front (fronts t))

  consistent : Consistent k (shape t) (front (fronts t))
  consistent = fronts_consistent k t doing.rows doing.sound

  S_sound : Sound k S
  unfolding S
  S_sound = sound-stripped k (shape t) (front (fronts t)) doing.sound consistent

  pub doing-normalize : Doing k d f (normalize k t)
  unfolding S
  doing-normalize = doing-table k S S_sound d f held does
    where
      held : Held d S
      held q h = omega (arith, length-drop (length (front (fronts t) q)) ((shape t).final q), doing.held q h)

      does : Same k (puts S 0) f
      does x hx =
          ap (λ (l : List ℕ). l ++ puts S 0 x) (sym (strip_start k (shape t) (front (fronts t)) doing.sound consistent))
          ∙ strip_puts k (shape t) (front (fronts t)) doing.sound consistent 0 doing.sound.some x hx
          ∙ doing.does x hx

  pub early-normalize : Early k (shape (normalize k t))
  unfolding S
  early-normalize = early-table k S S_sound (early-stripped k (shape t) (front (fronts t)) doing.sound consistent (fronts-above k t doing.rows doing.sound))
