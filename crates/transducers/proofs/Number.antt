-- Laws of numbering: the list of states in the order of first reach, and that the result does the same and is canonical.
use Prim.Native.Nat.{ℕ, zero, suc, ◌+◌, ◌≤◌, ◌<◌}
use native.Mathlib.Omega.{arith}
use mathlib.Core.Path.{◌≡◌, refl, sym, ap, ap₂, ◌∙◌, subst}
use mathlib.Core.Logic.{◌⊎◌, inl, inr}
use mathlib.Core.List.{List, [], ◌∷◌, ◌++◌}
use mathlib.Core.Bool.{Bool, true, false}
use lib.ListN.{length, get_or, length-append, get_or-append}
use lib.Seq.{get_or-append_seam}
use lib.Dec.{eqb, ltb}
use borrow.Author.Tests.{eqb-true, eq-eqb, ltb-true, ltb-false}
use Rattle.words.specs.Word.{Below}
use Rattle.words.proofs.Word.{below_suc, below-append}
use Rattle.transducers.specs.Transducer.{Shape, puts}
use Rattle.transducers.specs.Table.{Step, Table, no_step, row, shape}
use Rattle.transducers.specs.Run.{walk}
use Rattle.transducers.specs.Canonical.{Same, Inside, Early, Reached, Apart, Sound, Canonical}
use Rattle.transducers.specs.Numbered.{Before, Earlier, AsReached}
use Rattle.transducers.specs.Tabulate.{Rows, Doing}
use Rattle.transducers.specs.Number.{place, note, note_all, visit, order, numbered, number}
use Rattle.transducers.proofs.Run.{walk-append, earlier_in, earlier_place}
use Rattle.transducers.proofs.Lower.{pigeonhole}
use Rattle.transducers.proofs.Find.{find-hit, find_first}
use Rattle.transducers.proofs.Tabulate.{canonical_table, doing-table}

-- the list grows at its end, and its members keep their places
pub note-length : (l : List ℕ) (s : ℕ) → length l ≤ length (note l s)
note-length l s = go (ltb (place l s) (length l))
  where
    go : (c : Bool) → length l ≤ length {A = ℕ} (elim c [ true ↦ l | false ↦ l ++ (s ∷ []) ])
    go true = omega arith
    go false = omega (arith, length-append l (s ∷ []))

pub note-kept : (l : List ℕ) (s j : ℕ) → j < length l → get_or (note l s) j 0 ≡ get_or l j 0
note-kept l s j h = go (ltb (place l s) (length l))
  where
    go : (c : Bool) → get_or (elim c [ true ↦ l | false ↦ l ++ (s ∷ []) ]) j 0 ≡ get_or l j 0
    go true = refl
    go false = get_or-append l (s ∷ []) 0 j h

pub note_all-length : (ss : List Step) (l : List ℕ) → length l ≤ length (note_all ss l)
note_all-length [] l = omega arith
note_all-length (s ∷ ss) l = omega (arith, note-length l s.next, note_all-length ss (note l s.next))

pub note_all-kept : (ss : List Step) (l : List ℕ) (j : ℕ) → j < length l → get_or (note_all ss l) j 0 ≡ get_or l j 0
note_all-kept [] l j h = refl
note_all-kept (s ∷ ss) l j h = note_all-kept ss (note l s.next) j (omega (arith, note-length l s.next)) ∙ note-kept l s.next j h

-- a step before this one is before the next one, and before the next state's
later : {k : ℕ} {T : Shape} {p a q : ℕ} → Earlier k T p a q → Earlier k T p (suc a) q
later {p} {a} e = record { state = e.state; tag = e.tag; tag_below = e.tag_below; before = go e.before; leads = e.leads }
  where
    go : Before e.state e.tag p a → Before e.state e.tag p (suc a)
    go (inl h) = inl h
    go (inr h) = inr (h.0, omega (arith, h.1))

down : {k : ℕ} {T : Shape} {p a q : ℕ} → Earlier k T p a q → Earlier k T (suc p) 0 q
down {k} {T} {p} {a} {q} e =
    record { state = e.state; tag = e.tag; tag_below = e.tag_below; before = inl (omega (arith, (earlier_place k T p a q e).0)); leads = e.leads }

module _ (k : ℕ) (S : Shape) (inside : Inside k S) where
  -- the next states of the members of a list
  abbrev listed : List ℕ → Shape
  listed l = record { count = length l; next = λ p a. S.next (get_or l p 0) a; output = λ p a. []; final = λ p. [] }

  -- where the step from the p-th member at b leads, earlier steps have led to all members before
  record Placed (l : List ℕ) (p b : ℕ) : Type 0 where
    at : ℕ
    at-below : at < length l
    is : get_or l at 0 ≡ S.next (get_or l p 0) b
    ahead : (q : ℕ) → 0 < q → q < at → Earlier k (listed l) p b (get_or l q 0)

  -- the members are states that are reached, each once, state 0 first
  record Members (l : List ℕ) : Type 0 where
    some : 0 < length l
    start : get_or l 0 0 ≡ 0
    below : (j : ℕ) → j < length l → get_or l j 0 < S.count
    apart : (i j : ℕ) → i < length l → j < length l → get_or l i 0 ≡ get_or l j 0 → i ≡ j
    reached : (j : ℕ) → j < length l → Reached k S (get_or l j 0)

  -- the list after the steps before that from the i-th member at a
  record Visit (l : List ℕ) (i a : ℕ) : Type 0 where
    members : Members l
    here : i ≤ length l
    came : (q : ℕ) → 0 < q → q < length l → Earlier k (listed l) i a (get_or l q 0)
    done : (p b : ℕ) → p < length l → b < k → Before p b i a → Placed l p b

  reached-step : (q a : ℕ) → a < k → Reached k S q → Reached k S (S.next q a)
  reached-step q a ha r =
      record {
        word = r.word ++ (a ∷ []);
        below = below-append k r.word (a ∷ []) r.below (ha, tt);
        leads = walk-append S 0 r.word (a ∷ []) ∙ ap (λ (s : ℕ). S.next s a) r.leads;
      }

  -- a longer list keeps what was said of its members
  module _ (l : List ℕ) (s : ℕ) where
    kept : (j : ℕ) → j < length l → get_or (l ++ (s ∷ [])) j 0 ≡ get_or l j 0
    kept j h = get_or-append l (s ∷ []) 0 j h

    lift : (p a q : ℕ) → p < length l → q < length l → Earlier k (listed l) p a (get_or l q 0)
        → Earlier k (listed (l ++ (s ∷ []))) p a (get_or (l ++ (s ∷ [])) q 0)
    lift p a q hp hq e =
        let low : e.state < length l = omega (arith, (earlier_place k (listed l) p a (get_or l q 0) e).0) in
        earlier_in e (ap (λ (r : ℕ). S.next r e.tag) (kept e.state low) ∙ e.leads ∙ sym (kept q hq))

  -- noting the next state of the step at a
  visit-note : (l : List ℕ) (i a : ℕ) → Visit l i a → i < length l → a < k → Visit (note l (S.next (get_or l i 0) a)) i (suc a)
  visit-note l i a v hi ha = go (ltb (place l s) (length l)) refl
    where
      s : ℕ
      s = S.next (get_or l i 0) a

      before_or_at : (p b : ℕ) → Before p b i (suc a) → Before p b i a ⊎ ((p ≡ i) × (b ≡ a))
      before_or_at p b (inl h) = inl (inl h)
      before_or_at p b (inr h) = at (below_suc b a h.1)
        where
          at : (b < a) ⊎ (b ≡ a) → Before p b i a ⊎ ((p ≡ i) × (b ≡ a))
          at (inl lt) = inl (inr (h.0, lt))
          at (inr e) = inr (h.0, e)

      go : (c : Bool) → ltb (place l s) (length l) ≡ c → Visit (elim c [ true ↦ l | false ↦ l ++ (s ∷ []) ]) i (suc a)
      go true e =
          record {
            members = v.members;
            here = v.here;
            came = λ q pos hq. later (v.came q pos hq);
            done = λ p b hp hb w. placed p b hp hb (before_or_at p b w);
          }
        where
          in_list : place l s < length l
          in_list = ltb-true (place l s) (length l) e

          new : Placed l i a
          new =
              record {
                at = place l s;
                at-below = in_list;
                is = sym (eqb-true s (get_or l (place l s) 0) (find-hit (eqb s) 0 l in_list));
                ahead = λ q pos hq. v.came q pos (omega (arith, in_list));
              }

          placed : (p b : ℕ) → p < length l → b < k → Before p b i a ⊎ ((p ≡ i) × (b ≡ a)) → Placed l p b
          placed p b hp hb (inl w) = v.done p b hp hb w
          placed p b hp hb (inr w) = rw (w.0, w.1) new
      go false e =
          record {
            members =
                record {
                  some = omega (arith, long);
                  start = kept l s 0 v.members.some ∙ v.members.start;
                  below = λ j hj. below_at j (split j hj);
                  apart = λ p q hp hq same. apart-at p q (split p hp) (split q hq) same;
                  reached = λ j hj. reached-at j (split j hj);
                };
            here = omega (arith, long);
            came = λ q pos hq. came-at q pos (split q hq);
            done = λ p b hp hb w. placed p b hp hb (before_or_at p b w);
          }
        where
          l' : List ℕ
          l' = l ++ (s ∷ [])

          long : length l' ≡ suc (length l)
          long = omega (arith, length-append l (s ∷ []))

          split : (j : ℕ) → j < length l' → (j < length l) ⊎ (j ≡ length l)
          split j h = below_suc j (length l) (omega (arith, long))

          end : get_or l' (length l) 0 ≡ s
          end = get_or-append_seam l s [] 0

          fresh : (j : ℕ) → j < length l → s ≡ get_or l j 0 → ⊥
          fresh j h d = omega (arith, ltb-false (place l s) (length l) e, find_first (eqb s) 0 l j h (eq-eqb s (get_or l j 0) d))

          below_at : (j : ℕ) → (j < length l) ⊎ (j ≡ length l) → get_or l' j 0 < S.count
          below_at j (inl h) = rw (kept l s j h) (v.members.below j h)
          below_at j (inr d) = rw (d, end) (inside (get_or l i 0) a (v.members.below i hi) ha)

          apart-at : (p q : ℕ) → (p < length l) ⊎ (p ≡ length l) → (q < length l) ⊎ (q ≡ length l) → get_or l' p 0 ≡ get_or l' q 0 → p ≡ q
          apart-at p q (inl hp) (inl hq) d = v.members.apart p q hp hq (sym (kept l s p hp) ∙ d ∙ kept l s q hq)
          apart-at p q (inl hp) (inr eq) d = absurd (fresh p hp (sym (sym (kept l s p hp) ∙ d ∙ ap (λ (j : ℕ). get_or l' j 0) eq ∙ end)))
          apart-at p q (inr ep) (inl hq) d = absurd (fresh q hq (sym end ∙ ap (λ (j : ℕ). get_or l' j 0) (sym ep) ∙ d ∙ kept l s q hq))
          apart-at p q (inr ep) (inr eq) d = ep ∙ sym eq

          reached-at : (j : ℕ) → (j < length l) ⊎ (j ≡ length l) → Reached k S (get_or l' j 0)
          reached-at j (inl h) = rw (kept l s j h) (v.members.reached j h)
          reached-at j (inr d) = rw (d, end) (reached-step (get_or l i 0) a ha (v.members.reached i hi))

          came-at : (q : ℕ) → 0 < q → (q < length l) ⊎ (q ≡ length l) → Earlier k (listed l') i (suc a) (get_or l' q 0)
          came-at q pos (inl h) = later (lift l s i a q hi h (v.came q pos h))
          came-at q pos (inr d) =
              record {
                state = i;
                tag = a;
                tag_below = ha;
                before = inr (refl, omega arith);
                leads = ap (λ (r : ℕ). S.next r a) (kept l s i hi) ∙ sym end ∙ ap (λ (j : ℕ). get_or l' j 0) (sym d);
              }

          new : Placed l' i a
          new =
              record {
                at = length l;
                at-below = omega (arith, long);
                is = end ∙ ap (λ (r : ℕ). S.next r a) (sym (kept l s i hi));
                ahead = λ q pos hq. lift l s i a q hi hq (v.came q pos hq);
              }

          old : (p b : ℕ) → p < length l → Placed l p b → Placed l' p b
          old p b hp f =
              record {
                at = f.at;
                at-below = omega (arith, long, f.at-below);
                is = kept l s f.at f.at-below ∙ f.is ∙ ap (λ (r : ℕ). S.next r b) (sym (kept l s p hp));
                ahead = λ q pos hq. let h : q < length l = omega (arith, f.at-below) in lift l s p b q hp h (f.ahead q pos hq);
              }

          placed : (p b : ℕ) → p < length l' → b < k → Before p b i a ⊎ ((p ≡ i) × (b ≡ a)) → Placed l' p b
          placed p b hp hb (inl w) = let h : p < length l = low w in old p b h (v.done p b h hb w)
            where
              low : Before p b i a → p < length l
              low (inl g) = omega arith
              low (inr g) = omega (arith, g.0)
          placed p b hp hb (inr w) = rw (w.0, w.1) new

  -- noting the next states of all steps from the i-th member
  visit-row : (ss : List Step) (l : List ℕ) (i a : ℕ) → Visit l i a → i < length l → a + length ss ≡ k
      → ((b : ℕ) → b < length ss → (get_or ss b no_step).next ≡ S.next (get_or l i 0) (a + b)) → Visit (note_all ss l) (suc i) 0
  visit-row [] l i a v hi long is =
      record {
        members = v.members;
        here = hi;
        came = λ q pos hq. down (v.came q pos hq);
        done = λ p b hp hb w. v.done p b hp hb (before p b hb w);
      }
    where
      before : (p b : ℕ) → b < k → Before p b (suc i) 0 → Before p b i a
      before p b hb (inl h) = by (below_suc p i h)
        where
          by : (p < i) ⊎ (p ≡ i) → Before p b i a
          by (inl lt) = inl lt
          by (inr e) = inr (e, omega arith)
      before p b hb (inr h) = absurd (omega (arith, h.1))
  visit-row (s ∷ ss) l i a v hi long is =
      let at_a : s.next ≡ S.next (get_or l i 0) a = is 0 (omega arith) ∙ ap (S.next (get_or l i 0)) (let e : a + 0 ≡ a = omega arith in e) in
      let l' = note l s.next in
      let stays : get_or l' i 0 ≡ get_or l i 0 = note-kept l s.next i hi in
      visit-row ss l' i (suc a) (rw at_a (visit-note l i a v hi (omega arith))) (omega (arith, note-length l s.next)) (omega arith)
      (λ b hb. is (suc b) (omega arith) ∙ ap₂ (λ (r c : ℕ). S.next r c) (sym stays) (let e : a + suc b ≡ suc a + b = omega arith in e))

  -- a list with no member twice is no longer than there are states
  visit-length : (l : List ℕ) (i a : ℕ) → Visit l i a → length l ≤ S.count
  visit-length l i a v = pigeonhole (length l) S.count (λ j h. get_or l j 0) v.members.below v.members.apart

module _ (k : ℕ) (t : Table) (rows : Rows k t) (sound : Sound k (shape t)) where
  -- the search ends with a list whose members' next states are members
  visit-ends : (n i : ℕ) (l : List ℕ) → Visit k (shape t) sound.next_below l i 0 → length t ≤ n + i
      → let m = visit n t i l in Visit k (shape t) sound.next_below m (length m) 0
  visit-ends zero i l v le = rw (← whole) v
    where
      whole : i ≡ length l
      whole = omega (arith, v.here, visit-length k (shape t) sound.next_below l i 0 v)
  visit-ends (suc n) i l v le = go (ltb i (length l)) refl (λ hi. visit-ends n (suc i) (note_all (row t (get_or l i 0)).steps l) (row_done hi) (omega arith))
    where
      Ends : List ℕ → Type 0
      Ends m = Visit k (shape t) sound.next_below m (length m) 0

      row_done : i < length l → Visit k (shape t) sound.next_below (note_all (row t (get_or l i 0)).steps l) (suc i) 0
      row_done hi =
          visit-row k (shape t) sound.next_below (row t (get_or l i 0)).steps l i 0 v hi (omega (arith, rows (get_or l i 0) (v.members.below i hi)))
          (λ b hb. ap ((shape t).next (get_or l i 0)) (let e : b ≡ 0 + b = omega arith in e))

      go : (c : Bool) → ltb i (length l) ≡ c → (i < length l → Ends (visit n t (suc i) (note_all (row t (get_or l i 0)).steps l)))
          → Ends (elim c [ true ↦ visit n t (suc i) (note_all (row t (get_or l i 0)).steps l) | false ↦ l ])
      go true e on = on (ltb-true i (length l) e)
      go false e on =
          let whole : i ≡ length l = omega (arith, v.here, ltb-false i (length l) e) in
          subst (λ (j : ℕ). Visit k (shape t) sound.next_below l j 0) whole v

  ordered : Visit k (shape t) sound.next_below (order t) (length (order t)) 0
  ordered = visit-ends (length t) 0 (0 ∷ []) first (omega arith)
    where
      only : (j : ℕ) → j < 1 → j ≡ 0
      only j h = omega arith

      first : Visit k (shape t) sound.next_below (0 ∷ []) 0 0
      first =
          record {
            members =
                record {
                  some = omega arith;
                  start = refl;
                  below = λ j h. rw (only j h) sound.some;
                  apart = λ i j h g e. omega arith;
                  reached = λ j h. rw (only j h) (record { word = []; below = tt; leads = refl });
                };
            here = omega arith;
            came = λ q pos h. absurd (omega arith);
            done = λ p b hp hb w. absurd (never p b w);
          }
        where
          never : (p b : ℕ) → Before p b 0 0 → ⊥
          never p b (inl h) = omega arith
          never p b (inr h) = omega (arith, h.1)

  -- the members of the order
  pub order_below : (q : ℕ) → q < length (order t) → get_or (order t) q 0 < length t
  order_below = ordered.members.below

  -- each stands in it once
  pub place-order : (q : ℕ) → q < length (order t) → place (order t) (get_or (order t) q 0) ≡ q
  place-order q h =
      let l = order t in
      let s = get_or l q 0 in
      let le = find_first (eqb s) 0 l q h (eq-eqb s s refl) in
      let g : place l s < length l = omega arith in
      ordered.members.apart (place l s) q g h (sym (eqb-true s (get_or l (place l s) 0) (find-hit (eqb s) 0 l g)))

  S : Shape
  S = numbered (shape t) (order t)

  next-at : (q a : ℕ) (h : q < length (order t)) (g : a < k) → S.next q a ≡ (ordered.done q a h g (inl h)).at
  unfolding S
  next-at q a h g = let f = ordered.done q a h g (inl h) in ap (place (order t)) (sym f.is) ∙ place-order f.at f.at-below

  -- the next state by its place
  next_place : (q a : ℕ) → q < length (order t) → a < k
      → (S.next q a < length (order t)) × (get_or (order t) (S.next q a) 0 ≡ (shape t).next (get_or (order t) q 0) a)
  unfolding S
  next_place q a h g =
      let f = ordered.done q a h g (inl h) in
      let e = next-at q a h g in
      (omega (arith, f.at-below), ap (λ (j : ℕ). get_or (order t) j 0) e ∙ f.is)

  same-puts : (q : ℕ) → q < length (order t) → Same k (puts S q) (puts (shape t) (get_or (order t) q 0))
  unfolding S
  same-puts q h [] hx = refl
  same-puts q h (a ∷ x) hx =
      let n = next_place q a h hx.0 in
      ap (λ (o : List ℕ). (shape t).output (get_or (order t) q 0) a ++ o) (same-puts (S.next q a) n.0 x hx.1 ∙ ap (λ (s : ℕ). puts (shape t) s x) n.1)

  start-puts : Same k (puts S 0) (puts (shape t) 0)
  start-puts x hx = same-puts 0 ordered.members.some x hx ∙ ap (λ (s : ℕ). puts (shape t) s x) ordered.members.start

  same-walk : (q : ℕ) → q < length (order t) → (w : List ℕ) → Below k w
      → (walk S q w < length (order t)) × (get_or (order t) (walk S q w) 0 ≡ walk (shape t) (get_or (order t) q 0) w)
  unfolding S
  same-walk q h [] hw = (h, refl)
  same-walk q h (a ∷ w) hw =
      let n = next_place q a h hw.0 in
      let r = same-walk (S.next q a) n.0 w hw.1 in
      (r.0, r.1 ∙ ap (λ (s : ℕ). walk (shape t) s w) n.1)

  S_sound : Sound k S
  unfolding S
  S_sound =
      record {
        some = ordered.members.some;
        empty = ap (shape t).final ordered.members.start ∙ sound.empty;
        next_below = λ q a h g. (next_place q a h g).0;
        output_below = λ q a h g. sound.output_below (get_or (order t) q 0) a (ordered.members.below q h) g;
        final_below = λ q h. sound.final_below (get_or (order t) q 0) (ordered.members.below q h);
        balanced = λ q a h g. rw (next_place q a h g).1 (sound.balanced (get_or (order t) q 0) a (ordered.members.below q h) g);
      }

  -- numbering makes a table canonical whose states are early and, as far as they are reached, apart
  canonical_numbered : Early k (shape t) → Apart k (shape t) → Canonical k S
  unfolding S
  canonical_numbered early apart =
      record {
        some = ordered.members.some;
        minimal =
            record {
              next_below = S_sound.next_below;
              reached = λ q h. reach q h (ordered.members.reached q h);
              early = λ q h b all. early (get_or (order t) q 0) (ordered.members.below q h) b λ x hx. rw (← same-puts q h x hx) (all x hx);
              apart = λ p q hp hq same.
                  ordered.members.apart p q hp hq
                  (apart (get_or (order t) p 0) (get_or (order t) q 0) (ordered.members.below p hp) (ordered.members.below q hq) (ordered.members.reached p hp) (ordered.members.reached q hq)
                  (λ x hx. sym (same-puts p hp x hx) ∙ same x hx ∙ same-puts q hq x hx));
            };
        numbered = earlier;
      }
    where
      reach : (q : ℕ) → q < length (order t) → Reached k (shape t) (get_or (order t) q 0) → Reached k S q
      reach q h r =
          let w = same-walk 0 ordered.members.some r.word r.below in
          let e = w.1 ∙ ap (λ (s : ℕ). walk (shape t) s r.word) ordered.members.start ∙ r.leads in
          record { word = r.word; below = r.below; leads = ordered.members.apart (walk S 0 r.word) q w.0 h e }

      earlier : AsReached k S
      earlier p a q hp ha pos lt =
          let f = ordered.done p a hp ha (inl hp) in
          let e = next-at p a hp ha in
          let g = f.ahead q pos (omega arith) in
          earlier_in g (ap (place (order t)) g.leads ∙ place-order q (omega (arith, f.at-below)))

module _ (k d : ℕ) (f : List ℕ → List ℕ) (t : Table) (doing : Doing k d f t) where
  pub doing-number : Doing k d f (number k t)
  unfolding S
  doing-number =
      doing-table k (numbered (shape t) (order t)) (S_sound k t doing.rows doing.sound) d f
      (λ q h. doing.held (get_or (order t) q 0) (order_below k t doing.rows doing.sound q h))
      (λ x hx. start-puts k t doing.rows doing.sound x hx ∙ doing.does x hx)

  pub canonical_number : Early k (shape t) → Apart k (shape t) → Canonical k (shape (number k t))
  unfolding S
  canonical_number early apart =
      canonical_table k (numbered (shape t) (order t)) (S_sound k t doing.rows doing.sound) (canonical_numbered k t doing.rows doing.sound early apart)
