-- A table holds what was tabulated; transducers that agree in range have the same properties.
use Prim.Native.Nat.{ℕ, zero, suc, ◌+◌, ◌<◌}
use native.Mathlib.Omega.{arith}
use mathlib.Core.Path.{◌≡◌, refl, sym, ap, ap₂, ◌∙◌}
use mathlib.Core.List.{List, [], ◌∷◌, ◌++◌, map}
use lib.ListN.{length, get_or}
use lib.Seq.{ext_get_or}
use Rattle.words.specs.Word.{Below}
use Rattle.transducers.specs.Transducer.{Shape, puts}
use Rattle.transducers.specs.Table.{Step, Row, Table, no_step, no_row, row, step, shape}
use Rattle.transducers.specs.Run.{walk}
use Rattle.transducers.specs.Canonical.{Same, Inside, Early, Minimal, Sound, Held, Canonical, Agree}
use Rattle.transducers.specs.Numbered.{AsReached}
use Rattle.transducers.proofs.Run.{earlier_in, earlier_place}
use Rattle.transducers.specs.Tabulate.{tabulate, step_of, row_of, table, Rows, Doing}

pub length-tabulate : {A : Type 0} (n i : ℕ) (f : ℕ → A) → length (tabulate n i f) ≡ n
length-tabulate zero i f = refl
length-tabulate (suc n) i f = ap suc (length-tabulate n (suc i) f)

pub get_or-tabulate : {A : Type 0} (n i j : ℕ) (f : ℕ → A) (d : A) → j < n → get_or (tabulate n i f) j d ≡ f (i + j)
get_or-tabulate zero i j f d h = absurd (omega arith)
get_or-tabulate (suc n) i zero f d h = let e : i ≡ i + 0 = omega arith in ap f e
get_or-tabulate (suc n) i (suc j) f d h = let e : suc i + j ≡ i + suc j = omega arith in get_or-tabulate n (suc i) j f d (omega arith) ∙ ap f e

pub at-tabulate : {A : Type 0} (n j : ℕ) (f : ℕ → A) (d : A) → j < n → get_or (tabulate n 0 f) j d ≡ f j
at-tabulate n j f d h = let e : 0 + j ≡ j = omega arith in get_or-tabulate n 0 j f d h ∙ ap f e

pub get_or-map_at : {A B : Type 0} (f : A → B) (l : List A) (i : ℕ) (d : A) (e : B) → i < length l → get_or (map f l) i e ≡ f (get_or l i d)
get_or-map_at f [] i d e h = absurd (omega arith)
get_or-map_at f (x ∷ l) zero d e h = refl
get_or-map_at f (x ∷ l) (suc i) d e h = get_or-map_at f l i d e (omega arith)

pub length-table : (k : ℕ) (S : Shape) → length (table k S) ≡ S.count
length-table k S = length-tabulate S.count 0 (row_of k S)

pub row-table : (k : ℕ) (S : Shape) (q : ℕ) → q < S.count → row (table k S) q ≡ row_of k S q
row-table k S q h = at-tabulate S.count q (row_of k S) no_row h

pub step-table : (k : ℕ) (S : Shape) (q a : ℕ) → q < S.count → a < k → step (table k S) q a ≡ step_of S q a
step-table k S q a h g = ap (λ (r : Row). get_or r.steps a no_step) (row-table k S q h) ∙ at-tabulate k a (step_of S q) no_step g

pub agree_table : (k : ℕ) (S : Shape) → Agree k S (shape (table k S))
agree_table k S =
    record {
      counts = sym (length-table k S);
      nexts = λ q a h g. sym (ap (λ (s : Step). s.next) (step-table k S q a h g));
      outputs = λ q a h g. sym (ap (λ (s : Step). s.output) (step-table k S q a h g));
      finals = λ q h. sym (ap (λ (r : Row). r.final) (row-table k S q h));
    }

pub rows-table : (k : ℕ) (S : Shape) → Rows k (table k S)
rows-table k S q h = ap (λ (r : Row). length r.steps) (row-table k S q (rw length-tabulate at h)) ∙ length-tabulate k 0 (step_of S q)

-- tables of k steps to a row that agree are equal
pub table-equal : (k : ℕ) (t u : Table) → Rows k t → Rows k u → Agree k (shape t) (shape u) → t ≡ u
table-equal k t u ht hu agree = ext_get_or no_row t u agree.counts rows
  where
    steps : (q : ℕ) (h : q < length t) (a : ℕ) → a < length (row t q).steps → step t q a ≡ step u q a
    steps q h a g i =
        let g' : a < k = omega (arith, ht q h) in
        record { next = agree.nexts q a h g' i; output = agree.outputs q a h g' i }

    rows : (q : ℕ) → q < length t → row t q ≡ row u q
    rows q h i =
        record {
          final = agree.finals q h i;
          steps = ext_get_or no_step (row t q).steps (row u q).steps (ht q h ∙ sym (hu q (omega (arith, agree.counts)))) (steps q h) i;
        }

module _ (k : ℕ) (S T : Shape) (agree : Agree k S T) (inside : Inside k S) where
  puts_agree : (q : ℕ) → q < S.count → Same k (puts S q) (puts T q)
  puts_agree q hq [] hx = agree.finals q hq
  puts_agree q hq (a ∷ x) hx =
      ap₂ (λ (o l : List ℕ). o ++ l) (agree.outputs q a hq hx.0)
      (puts_agree (S.next q a) (inside q a hq hx.0) x hx.1 ∙ ap (λ (s : ℕ). puts T s x) (agree.nexts q a hq hx.0))

  walk_agree : (q : ℕ) → q < S.count → (w : List ℕ) → Below k w → walk S q w ≡ walk T q w
  walk_agree q hq [] hx = refl
  walk_agree q hq (a ∷ x) hx = walk_agree (S.next q a) (inside q a hq hx.0) x hx.1 ∙ ap (λ (s : ℕ). walk T s x) (agree.nexts q a hq hx.0)

  back : (q : ℕ) → q < T.count → q < S.count
  back q h = omega (arith, agree.counts)

  next_agree : Inside k T
  next_agree q a hq ha = omega (arith, agree.counts, agree.nexts q a (back q hq) ha, inside q a (back q hq) ha)

  early_agree : Early k S → Early k T
  early_agree early q hq c all = early q (back q hq) c λ x hx. rw (puts_agree q (back q hq) x hx) (all x hx)

  minimal_agree : 0 < S.count → Minimal k S → Minimal k T
  minimal_agree some m =
      record {
        next_below = next_agree;
        reached = λ q hq.
            let r = m.reached q (back q hq) in
            record { word = r.word; below = r.below; leads = sym (walk_agree 0 some r.word r.below) ∙ r.leads };
        early = early_agree m.early;
        apart = λ p q hp hq same. m.apart p q (back p hp) (back q hq) λ x hx. puts_agree p (back p hp) x hx ∙ same x hx
            ∙ sym (puts_agree q (back q hq) x hx);
      }

  numbered_agree : AsReached k S → AsReached k T
  numbered_agree n p a q hp ha pos lt =
      let e = n p a q (back p hp) ha pos (rw (agree.nexts p a (back p hp) ha) lt) in
      let place = earlier_place k S p a q e in
      let low : e.state < S.count = omega (arith, agree.counts, hp) in
      earlier_in e (sym (agree.nexts e.state e.tag low e.tag_below) ∙ e.leads)

  canonical_agree : Canonical k S → Canonical k T
  canonical_agree c =
      record { some = omega (arith, agree.counts, c.some); minimal = minimal_agree c.some c.minimal; numbered = numbered_agree c.numbered }

sound_agree : (k : ℕ) (S T : Shape) → Agree k S T → Sound k S → Sound k T
sound_agree k S T agree sound =
    record {
      some = omega (arith, agree.counts, sound.some);
      empty = sym (agree.finals 0 sound.some) ∙ sound.empty;
      next_below = next_agree k S T agree sound.next_below;
      output_below = λ q a hq ha. rw (agree.outputs q a (low q hq) ha) at (sound.output_below q a (low q hq) ha);
      final_below = λ q hq. rw (agree.finals q (low q hq)) at (sound.final_below q (low q hq));
      balanced = balanced;
    }
  where
    low : (q : ℕ) → q < T.count → q < S.count
    low q h = omega (arith, agree.counts)

    balanced : (q a : ℕ) → q < T.count → a < k → length (T.output q a) + length (T.final (T.next q a)) ≡ length (T.final q) + 1
    balanced q a hq ha =
        let h = low q hq in
        let to = agree.finals (S.next q a) (sound.next_below q a h ha) in
        rw (← agree.outputs q a h ha, ← agree.nexts q a h ha, ← to, ← agree.finals q h) (sound.balanced q a h ha)

-- a table is sound, early, canonical if what it was made of is
module _ (k : ℕ) (S : Shape) (sound : Sound k S) where
  pub sound-table : Sound k (shape (table k S))
  sound-table = sound_agree k S (shape (table k S)) (agree_table k S) sound

  pub puts-table : (q : ℕ) → q < S.count → Same k (puts (shape (table k S)) q) (puts S q)
  puts-table q h x hx = sym (puts_agree k S (shape (table k S)) (agree_table k S) sound.next_below q h x hx)

  pub walk-table : (w : List ℕ) → Below k w → walk (shape (table k S)) 0 w ≡ walk S 0 w
  walk-table w hw = sym (walk_agree k S (shape (table k S)) (agree_table k S) sound.next_below 0 sound.some w hw)

  pub early-table : Early k S → Early k (shape (table k S))
  early-table = early_agree k S (shape (table k S)) (agree_table k S) sound.next_below

  pub canonical_table : Canonical k S → Canonical k (shape (table k S))
  canonical_table = canonical_agree k S (shape (table k S)) (agree_table k S) sound.next_below

  pub doing-table : (d : ℕ) (f : List ℕ → List ℕ) → Held d S → Same k (puts S 0) f → Doing k d f (table k S)
  doing-table d f held does =
      record {
        rows = rows-table k S;
        sound = sound-table;
        held = λ q h. let g : q < S.count = omega (arith, length-table k S) in omega (arith, ap length ((agree_table k S).finals q g), held q g);
        does = λ x hx. puts-table 0 sound.some x hx ∙ does x hx;
      }
