-- Laws of merging: classes that rest and are as coarse as can be are the definition's, whatever computed them; the result does the
-- same, and no two states that it reaches still put out the same.
use Prim.Native.Nat.{ℕ, suc, ◌*◌, ◌-◌, ◌≤◌, ◌<◌}
use native.Mathlib.Omega.{arith}
use mathlib.Core.Path.{◌≡◌, refl, sym, ap, ap₂, ◌∙◌, subst}
use mathlib.Core.List.{List, [], ◌∷◌, ◌++◌, map}
use lib.ListN
use lib.ListN.{length, get_or, length-map}
use lib.Seq.{ext_get_or}
use Rattle.words.specs.Word.{Below}
use Rattle.words.specs.Front.{same_all}
use Rattle.words.proofs.Front.{same_all_refl, same_all_true}
use Rattle.transducers.specs.Transducer.{Shape, puts}
use Rattle.transducers.specs.Table.{Step, Table, no_step, row, shape}
use Rattle.transducers.specs.Run.{walk}
use Rattle.transducers.specs.Canonical.{Same, Inside, Early, Reached, Apart, Sound}
use Rattle.transducers.specs.Rounds.{total}
use Rattle.transducers.specs.Find.{find}
use Rattle.transducers.specs.Tabulate.{tabulate, Rows, Doing}
use Rattle.transducers.specs.Merge.{class, key_of, refine, classes, merged, merge, Classes}
use Rattle.transducers.proofs.Lower.{same_step}
use Rattle.transducers.proofs.Find.{find-hit, find_first}
use Rattle.transducers.proofs.Rounds.{rounds_keep, rounds-rest, total_le, total-same}
use Rattle.transducers.proofs.Tabulate.{length-tabulate, at-tabulate, get_or-map_at, length-table, puts-table, walk-table, early-table, doing-table}

module _ (k : ℕ) (S : Shape) (inside : Inside k S) where
  -- a state still puts out what its class does
  pub class-puts : (c : ℕ → ℕ) → Classes k S c → (q : ℕ) → q < S.count → Same k (puts S (c q)) (puts S q)
  class-puts c m q h [] hx = m.finals q h
  class-puts c m q h (a ∷ x) hx =
      let g : c q < S.count = omega (arith, m.low q h) in
      ap₂ (λ (o l : List ℕ). o ++ l) (m.outputs q a h hx.0)
      (sym (class-puts c m (S.next (c q) a) (inside (c q) a g hx.0) x hx.1)
      ∙ ap (λ (s : ℕ). puts S s x) (m.nexts q a h hx.0)
      ∙ class-puts c m (S.next q a) (inside q a h hx.0) x hx.1)

  -- any two such namings are equal
  classes_le : (c d : ℕ → ℕ) → Classes k S c → Classes k S d → (q : ℕ) → q < S.count → c q ≤ d q
  classes_le c d m n q h =
      let g : d q < S.count = omega (arith, n.low q h) in
      omega (arith, m.coarsest q (d q) h g (λ x hx. sym (class-puts d n q h x hx)), m.low (d q) g)

  pub classes_unique : (c d : ℕ → ℕ) → Classes k S c → Classes k S d → (q : ℕ) → q < S.count → c q ≡ d q
  classes_unique c d m n q h = omega (arith, classes_le c d m n q h, classes_le d c n m q h)

  -- the name of a class is its own
  class-class : (c : ℕ → ℕ) → Classes k S c → (q : ℕ) → q < S.count → c (c q) ≡ c q
  class-class c m q h = m.coarsest (c q) q (omega (arith, m.low q h)) h (class-puts c m q h)

-- classes that hold together states that put out the same still do when a class is split by final words, outputs and classes
-- of next states, one class at a time or all at once, in any order
pub coarse_refined : (k : ℕ) (S : Shape) → Inside k S → Early k S → (c d : ℕ → ℕ)
    → ((p q : ℕ) → p < S.count → q < S.count → Same k (puts S p) (puts S q) → c p ≡ c q)
    → ((p q : ℕ) → p < S.count → q < S.count → c p ≡ c q → S.final p ≡ S.final q
    → ((a : ℕ) → a < k → (S.output p a ≡ S.output q a) × (c (S.next p a) ≡ c (S.next q a))) → d p ≡ d q)
    → (p q : ℕ) → p < S.count → q < S.count → Same k (puts S p) (puts S q) → d p ≡ d q
coarse_refined k S inside early c d coarse split p q hp hq same =
    split p q hp hq (coarse p q hp hq same) (same [] tt) λ a ha.
    let on = same_step k S S p q a ha (early (S.next p a) (inside p a hp ha)) (early (S.next q a) (inside q a hq ha)) same in
    (on.0, coarse (S.next p a) (S.next q a) (inside p a hp ha) (inside q a hq ha) on.1)

-- maps over the steps of two rows are equal if they are at each tag
map_at : {A : Type 0} (f : Step → A) (l m : List Step) → map f l ≡ map f m → (i : ℕ) → f (get_or l i no_step) ≡ f (get_or m i no_step)
map_at f l m e i = sym (ListN.get_or-map f l i no_step) ∙ ap (λ r. get_or r i (f no_step)) e ∙ ListN.get_or-map f m i no_step

map_same : {A : Type 0} (f : Step → A) (l m : List Step) → length l ≡ length m
    → ((i : ℕ) → i < length l → f (get_or l i no_step) ≡ f (get_or m i no_step)) → map f l ≡ map f m
map_same f l m e h =
    ext_get_or (f no_step) (map f l) (map f m) (length-map l f ∙ e ∙ sym (length-map m f))
    (λ i g. ListN.get_or-map f l i no_step ∙ h i (omega (arith, length-map l f)) ∙ sym (ListN.get_or-map f m i no_step))

total_bound : (l : List ℕ) (m : ℕ) → ((i : ℕ) → i < length l → get_or l i 0 ≤ m) → total l ≤ length l * m
total_bound [] m h = omega arith
total_bound (a ∷ l) m h = omega (arith, h 0 (omega arith), total_bound l m (λ i g. h (suc i) (omega arith)))

module _ (k : ℕ) (t : Table) (rows : Rows k t) (sound : Sound k (shape t)) (early : Early k (shape t)) where
  -- what the rounds keep: a lower name for each state, and one name for states that still put out the same
  record Kept (cs : List ℕ) : Type 0 where
    long : length cs ≡ length t
    low : (q : ℕ) → q < length t → class cs q ≤ q
    coarse : (p q : ℕ) → p < length t → q < length t → Same k (puts (shape t) p) (puts (shape t) q) → class cs p ≡ class cs q

  keys : List ℕ → List (List (List ℕ))
  keys cs = tabulate (length t) 0 (key_of t cs)

  at-refine : (cs : List ℕ) (q : ℕ) → q < length t → class (refine t cs) q ≡ find (same_all (key_of t cs q)) (keys cs)
  unfolding keys
  at-refine cs q h =
      get_or-map_at (λ key. find (same_all key) (keys cs)) (keys cs) q [] 0 (omega (arith, length-tabulate (length t) 0 (key_of t cs)))
      ∙ ap (λ (key : List (List ℕ)). find (same_all key) (keys cs)) (at-tabulate (length t) q (key_of t cs) [] h)

  refined_low : (cs : List ℕ) (q : ℕ) → q < length t → class (refine t cs) q ≤ q
  unfolding keys
  refined_low cs q h =
      rw (at-refine cs q h)
      (find_first (same_all (key_of t cs q)) [] (keys cs) q (omega (arith, length-tabulate (length t) 0 (key_of t cs)))
      (rw (at-tabulate (length t) q (key_of t cs) [] h) (same_all_refl (key_of t cs q))))

  refined_key : (cs : List ℕ) (q : ℕ) → q < length t → key_of t cs q ≡ key_of t cs (class (refine t cs) q)
  unfolding keys
  refined_key cs q h =
      let p = class (refine t cs) q in
      let g : p < length t = omega (arith, refined_low cs q h) in
      let hit = find-hit (same_all (key_of t cs q)) [] (keys cs) (omega (arith, at-refine cs q h, length-tabulate (length t) 0 (key_of t cs))) in
      same_all_true (key_of t cs q) (key_of t cs p) (rw (← at-refine cs q h, at-tabulate (length t) p (key_of t cs) [] g) at hit)

  key_class : (cs : List ℕ) (p q : ℕ) → key_of t cs p ≡ key_of t cs q → class cs p ≡ class cs q
  key_class cs p q e = cc

  key_nexts : (cs : List ℕ) (p q : ℕ) → key_of t cs p ≡ key_of t cs q → (a : ℕ) → class cs ((shape t).next p a) ≡ class cs ((shape t).next q a)
  key_nexts cs p q e = map_at (λ s. class cs s.next) (row t p).steps (row t q).steps (cc)

  key_finals : (cs : List ℕ) (p q : ℕ) → key_of t cs p ≡ key_of t cs q → (shape t).final p ≡ (shape t).final q
  key_finals cs p q e = cc

  key_outputs : (cs : List ℕ) (p q : ℕ) → key_of t cs p ≡ key_of t cs q → (a : ℕ) → (shape t).output p a ≡ (shape t).output q a
  key_outputs cs p q e = map_at (λ s. s.output) (row t p).steps (row t q).steps (cc)

  -- states that still put out the same have the same key
  same_key : (cs : List ℕ) → Kept cs → (p q : ℕ) → p < length t → q < length t → Same k (puts (shape t) p) (puts (shape t) q)
      → key_of t cs p ≡ key_of t cs q
  same_key cs m p q hp hq same =
      let on : (a : ℕ) → a < k → ((shape t).output p a ≡ (shape t).output q a) × Same k (puts (shape t) ((shape t).next p a)) (puts (shape t) ((shape t).next q a))
      = λ a ha. same_step k (shape t) (shape t) p q a ha (early ((shape t).next p a) (sound.next_below p a hp ha))
      (early ((shape t).next q a) (sound.next_below q a hq ha)) same in
      let long : length (row t p).steps ≡ length (row t q).steps = rows p hp ∙ sym (rows q hq) in
      let nexts = map_same (λ s. class cs s.next) (row t p).steps (row t q).steps long
      (λ a g.
      let ha : a < k = omega (arith, rows p hp) in
      m.coarse ((shape t).next p a) ((shape t).next q a) (sound.next_below p a hp ha) (sound.next_below q a hq ha) (on a ha).1) in
      let outs = map_same (λ s. s.output) (row t p).steps (row t q).steps long (λ a g. (on a (omega (arith, rows p hp))).0) in
      cc (m.coarse p q hp hq same, nexts, outs, same [] tt)

  keep : (cs : List ℕ) → Kept cs → Kept (refine t cs)
  unfolding keys
  keep cs m =
      record {
        long = length-map (keys cs) (λ key. find (same_all key) (keys cs)) ∙ length-tabulate (length t) 0 (key_of t cs);
        low = refined_low cs;
        coarse = λ p q hp hq same. at-refine cs p hp
            ∙ ap (λ (key : List (List ℕ)). find (same_all key) (keys cs)) (same_key cs m p q hp hq same) ∙ sym (at-refine cs q hq);
      }

  grows : (cs : List ℕ) → Kept cs → (q : ℕ) → q < length cs → class cs q ≤ class (refine t cs) q
  grows cs m q g =
      let h : q < length t = omega (arith, m.long) in
      omega (arith, key_class cs q (class (refine t cs) q) (refined_key cs q h), m.low (class (refine t cs) q) (omega (arith, refined_low cs q h)))

  room : (cs : List ℕ) → Kept cs → total cs ≤ length t * length t
  room cs m = rw m.long at (total_bound cs (length t) (λ i g. omega (arith, m.long, m.low i (omega (arith, m.long)))))

  down : (cs : List ℕ) → Kept cs → length t * length t - total (refine t cs) ≤ length t * length t - total cs
  down cs m = omega (arith, total_le cs (refine t cs) (m.long ∙ sym (keep cs m).long) (grows cs m))

  -- classes that refining leaves as they are
  rest : (cs : List ℕ) → Kept cs → length t * length t - total (refine t cs) ≡ length t * length t - total cs → Classes k (shape t) (class cs)
  rest cs m e =
      record {
        low = m.low;
        finals = λ q h. sym (key_finals cs q (class cs q) (key q h));
        outputs = λ q a h g. sym (key_outputs cs q (class cs q) (key q h) a);
        nexts = λ q a h g. sym (key_nexts cs q (class cs q) (key q h) a);
        coarsest = m.coarse;
      }
    where
      stays : (q : ℕ) → q < length t → class cs q ≡ class (refine t cs) q
      stays q h =
          total-same cs (refine t cs) (m.long ∙ sym (keep cs m).long) (grows cs m)
          (omega (arith, e, room cs m, room (refine t cs) (keep cs m))) q (omega (arith, m.long))

      key : (q : ℕ) → q < length t → key_of t cs q ≡ key_of t cs (class cs q)
      key q h = refined_key cs q h ∙ ap (key_of t cs) (sym (stays q h))

  pub classes_are : Classes k (shape t) (class (classes t))
  classes_are =
      rest (classes t) (rounds_keep measure (refine t) Kept keep (length t * length t) none kept-none)
      (rounds-rest measure (refine t) Kept keep down (length t * length t) none kept-none (omega arith))
    where
      measure : List ℕ → ℕ
      measure cs = length t * length t - total cs

      none : List ℕ
      none = tabulate (length t) 0 (λ q. 0)

      at : (q : ℕ) → q < length t → class none q ≡ 0
      at q h = at-tabulate (length t) q (λ q. 0) 0 h

      kept-none : Kept none
      kept-none = record { long = length-tabulate (length t) 0 (λ q. 0); low = λ q h. omega (arith, at q h); coarse = λ p q hp hq same. at p hp ∙ sym (at q hq) }

  -- any classes that rest and are as coarse as can be are those of the definition, whatever computed them
  pub classes-any : (c : ℕ → ℕ) → Classes k (shape t) c → (q : ℕ) → q < length t → c q ≡ class (classes t) q
  classes-any c m = classes_unique k (shape t) sound.next_below c (class (classes t)) m classes_are

module _ (k : ℕ) (S : Shape) (c : ℕ → ℕ) (sound : Sound k S) (m : Classes k S c) where
  -- each state puts out what it did
  merged-puts : (q : ℕ) → q < S.count → Same k (puts (merged S c) q) (puts S q)
  merged-puts q h [] hx = refl
  merged-puts q h (a ∷ x) hx =
      let g = sound.next_below q a h hx.0 in
      ap (λ (l : List ℕ). S.output q a ++ l)
      (merged-puts (c (S.next q a)) (omega (arith, m.low (S.next q a) g)) x hx.1 ∙ class-puts k S sound.next_below c m (S.next q a) g x hx.1)

  sound-merged : Sound k (merged S c)
  sound-merged =
      record {
        some = sound.some;
        empty = sound.empty;
        next_below = λ q a h g. omega (arith, m.low (S.next q a) (sound.next_below q a h g), sound.next_below q a h g);
        output_below = sound.output_below;
        final_below = sound.final_below;
        balanced = λ q a h g. rw (m.finals (S.next q a) (sound.next_below q a h g)) (sound.balanced q a h g);
      }

  -- a state that is reached from one with the name of its class has the name of its class
  named : (w : List ℕ) → Below k w → (q : ℕ) → q < S.count → c q ≡ q → c (walk (merged S c) q w) ≡ walk (merged S c) q w
  named [] hw q h e = e
  named (a ∷ w) hw q h e =
      let g = sound.next_below q a h hw.0 in
      named w hw.1 (c (S.next q a)) (omega (arith, m.low (S.next q a) g)) (class-class k S sound.next_below c m (S.next q a) g)

module _ (k d : ℕ) (f : List ℕ → List ℕ) (t : Table) (doing : Doing k d f t) (early : Early k (shape t)) where
  S : Shape
  S = merged (shape t) (class (classes t))

  are : Classes k (shape t) (class (classes t))
  are = classes_are k t doing.rows doing.sound early

  S_sound : Sound k S
  unfolding S
  S_sound = sound-merged k (shape t) (class (classes t)) doing.sound are

  S_puts : (q : ℕ) → q < length t → Same k (puts S q) (puts (shape t) q)
  unfolding S
  S_puts = merged-puts k (shape t) (class (classes t)) doing.sound are

  pub doing-merge : Doing k d f (merge k t)
  unfolding S
  doing-merge = doing-table k S S_sound d f doing.held (λ x hx. S_puts 0 doing.sound.some x hx ∙ doing.does x hx)

  pub early-merge : Early k (shape (merge k t))
  unfolding S
  early-merge = early-table k S S_sound (λ q h c all. early q h c λ x hx. rw (← S_puts q h x hx) (all x hx))

  -- states that are reached and still put out the same are one
  pub apart-merge : Apart k (shape (merge k t))
  unfolding S
  apart-merge p q hp hq rp rq same =
      sym (own p rp) ∙ are.coarsest p q (back p hp) (back q hq) (λ x hx. sym (all p (back p hp) x hx) ∙ same x hx ∙ all q (back q hq) x hx)
      ∙ own q rq
    where
      back : (q : ℕ) → q < length (merge k t) → q < length t
      back q h = omega (arith, length-table k S)

      all : (q : ℕ) → q < length t → Same k (puts (shape (merge k t)) q) (puts (shape t) q)
      all q h x hx = puts-table k S S_sound q h x hx ∙ S_puts q h x hx

      own : (q : ℕ) → Reached k (shape (merge k t)) q → class (classes t) q ≡ q
      own q r =
          let zero-own : class (classes t) 0 ≡ 0 = omega (arith, are.low 0 doing.sound.some) in
          let e = sym (walk-table k S S_sound r.word r.below) ∙ r.leads in
          subst (λ (s : ℕ). class (classes t) s ≡ s) e
          (named k (shape t) (class (classes t)) doing.sound are r.word r.below 0 doing.sound.some zero-own)
