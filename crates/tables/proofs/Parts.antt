-- The parts of a table, read and encoded: steps and states.
use Prim.Native.Nat.{ℕ, zero, suc, ◌<◌, ◌≤◌}
use native.Mathlib.Omega.{arith}
use mathlib.Core.Path.{◌≡◌, refl, sym, ap, subst, ◌∙◌}
use mathlib.Core.List.{List, [], ◌∷◌, ◌++◌, append_assoc}
use borrow.Author.Tests.{eq-eqb, le-leb, lt-ltb, eqb-true, leb-true, ltb-true}
use lib.Dec.{eqb, leb, ltb}
use lib.ListN.{length, drop, get_or}
use lib.Seq.{drop-append_seam}
use Rattle.words.specs.Word.{Below}
use Rattle.words.proofs.Word.{below-drop}
use Rattle.answers.specs.Outcome.{Outcome, result}
use Rattle.answers.proofs.Outcome.{passed, went}
use Rattle.transducers.specs.Table.{Step, Row}
use Rattle.tables.specs.Bytes.{number, high, low, tagged, joined, step_bytes, row_bytes}
use Rattle.tables.specs.Decode.{word, many, read_step, read_row}
use Rattle.tables.proofs.Words.{Begins, begins_append, word_begins, word_below, Stops, word-tagged, number_bytes, high-number, low-number}

-- every element has the property
abbrev pub Every : {A : Type 0} → (A → Type 0) → List A → Type 0
Every P [] = Unit {0}
Every P (x ∷ xs) = P x × Every P xs

pub every_at : {A : Type 0} (P : A → Type 0) (l : List A) (d : A) (i : ℕ) → Every P l → i < length l → P (get_or l i d)
every_at P [] d i e h = absurd (omega arith)
every_at P (x ∷ l) d zero e h = e.0
every_at P (x ∷ l) d (suc i) e h = every_at P l d i e.1 (omega arith)

pub every_of : {A : Type 0} (P : A → Type 0) (l : List A) (d : A) → ((i : ℕ) → i < length l → P (get_or l i d)) → Every P l
every_of P [] d f = tt
every_of P (x ∷ l) d f = (f 0 (omega arith), every_of P l d (λ i h. f (suc i) (omega arith)))

-- a step over k tags and s states
pub record GoodStep (k s : ℕ) (v : Step) : Type 0 where
  pub next_below : v.next < s
  pub output_below : Below k v.output

-- a state that holds at most h tags
pub record GoodRow (h k s : ℕ) (r : Row) : Type 0 where
  pub held : length r.final ≤ h
  pub final_below : Below k r.final
  pub whole : length r.steps ≡ k
  pub steps : Every (GoodStep k s) r.steps

pub record ReadAs {A : Type 0} (Good : A → Type 0) (bytes : A → List ℕ) (bs : List ℕ) (v : A) : Type 0 where
  pub begins : Begins (bytes v) bs
  pub good : Good v

-- n parts, one after the other
module _ {A : Type 0} (read : List ℕ → Outcome A) (bytes : A → List ℕ) where
  pub many_read :
      (Good : A → Type 0)
      → ((bs : List ℕ) (v : A) → Below 0x100 bs → read bs ≡ result v → ReadAs Good bytes bs v)
      → (n : ℕ) (bs : List ℕ) (vs : List A)
      → Below 0x100 bs
      → many read bytes n bs ≡ result vs
      → (length vs ≡ n) × ReadAs (Every Good) (joined bytes) bs vs
  many_read Good one-read zero bs vs b e =
      let same : [] ≡ vs = cc in
      rw (← same) (refl, record { begins = refl; good = tt })
  many_read Good one-read (suc n) bs vs b e =
      let one = went (read bs) _ vs e in
      let v = one.first in
      let rest = drop (length (bytes v)) bs in
      let more = went (many read bytes n rest) _ vs one.then in
      let head = one-read bs v b one.read in
      let tail = many_read Good one-read n rest more.first (below-drop 0x100 (length (bytes v)) bs b) more.read in
      let same : v ∷ more.first ≡ vs = cc more.then in
      rw (← same) (
        omega (arith, tail.0),
        record {
          begins = begins_append (bytes v) (joined bytes more.first) bs head.begins tail.1.begins;
          good = (head.good, tail.1.good);
        },
      )

  many-at : (n : ℕ) (bs : List ℕ) (v : A) (vs : List A) → read bs ≡ result v
      → many read bytes n (drop (length (bytes v)) bs) ≡ result vs
      → many read bytes (suc n) bs ≡ result (v ∷ vs)
  many-at n bs v vs e f = rw e (rw f refl)

  -- `Stop` is what has to stand after a part
  pub many_encoded :
      (Good : A → Type 0) (Stop : List ℕ → Type 0)
      → ((v : A) (rest : List ℕ) → Good v → Stop rest → read (bytes v ++ rest) ≡ result v)
      → ((v : A) (rest : List ℕ) → Stop (bytes v ++ rest))
      → (vs : List A) (rest : List ℕ)
      → Every Good vs
      → Stop rest
      → many read bytes (length vs) (joined bytes vs ++ rest) ≡ result vs
  many_encoded Good Stop one stop [] rest g st = refl
  many_encoded Good Stop one stop (v ∷ vs) rest g st =
      let tail = joined bytes vs ++ rest in
      subst (λ (z : List ℕ). many read bytes (suc (length vs)) z ≡ result (v ∷ vs)) (sym (append_assoc (bytes v) (joined bytes vs) rest))
      (many-at (length vs) (bytes v ++ tail) v vs
      (one v tail g.0 (behind vs))
      (rw (drop-append_seam (bytes v) tail) (many_encoded Good Stop one stop vs rest g.1 st)))
    where
      behind : (us : List A) → Stop (joined bytes us ++ rest)
      behind [] = st
      behind (u ∷ us) = rw (append_assoc (bytes u) (joined bytes us) rest) (stop u (joined bytes us ++ rest))

module _ (k s : ℕ) where
  pub step-read : (bs : List ℕ) (v : Step) → Below 0x100 bs → read_step k s bs ≡ result v → ReadAs (GoodStep k s) step_bytes bs v
  step-read [] v b e = let z : ◌≡◌ {A = ℕ} 0 1 = cc in absurd (omega arith)
  step-read (c ∷ []) v b e = let z : ◌≡◌ {A = ℕ} 0 1 = cc in absurd (omega arith)
  step-read (c ∷ h ∷ []) v b e = let z : ◌≡◌ {A = ℕ} 0 1 = cc in absurd (omega arith)
  step-read (c ∷ h ∷ l ∷ bs) v b e =
      let first = passed 12 (eqb c 0x33) _ v e in
      let second = passed 12 (ltb (number h l) s) _ v first.1 in
      let made : Step = record { next = number h l; output = word 0x34 k bs } in
      let same : made ≡ v = cc second.1 in
      rw (← same)
      (record {
        begins = cc (eqb-true c 0x33 first.0, high-number h l b.1.1.0, low-number h l b.1.1.0, word_begins 0x34 k bs);
        good = record { next_below = ltb-true (number h l) s second.0; output_below = word_below 0x34 k bs };
      })

  -- and back: what is encoded is read
  pub step-at : (h l : ℕ) (bs : List ℕ) → number h l < s
      → read_step k s (0x33 ∷ h ∷ l ∷ bs) ≡ result (record { next = number h l; output = word 0x34 k bs })
  step-at h l bs below = cc (lt-ltb (number h l) s below)

  pub step_encoded : (v : Step) (rest : List ℕ) → GoodStep k s v → Stops 0x34 rest → read_step k s (step_bytes v ++ rest) ≡ result v
  step_encoded v rest g stops =
      let n = number_bytes v.next in
      step-at (high v.next) (low v.next) (tagged 0x34 v.output ++ rest) (omega (arith, g.next_below))
      ∙ rw (n, word-tagged 0x34 k v.output rest g.output_below stops) refl

module _ (h k s : ℕ) where
  pub row_read : (bs : List ℕ) (r : Row) → Below 0x100 bs → read_row h k s bs ≡ result r → ReadAs (GoodRow h k s) row_bytes bs r
  row_read [] r b e = let z : ◌≡◌ {A = ℕ} 0 1 = cc in absurd (omega arith)
  row_read (c ∷ []) r b e = let z : ◌≡◌ {A = ℕ} 0 1 = cc in absurd (omega arith)
  row_read (c ∷ n ∷ bs) r b e =
      let first = passed 12 (eqb c 0x31) _ r e in
      let second = passed 12 (leb n h) _ r first.1 in
      let third = passed 12 (eqb (length (word 0x32 k bs)) n) _ r second.1 in
      let w = word 0x32 k bs in
      let rest = drop (length (tagged 0x32 w)) bs in
      let more = went (many (read_step k s) step_bytes k rest) _ r third.1 in
      let vs = more.first in
      let tail = many_read (read_step k s) step_bytes (GoodStep k s) (step-read k s) k rest vs (below-drop 0x100 (length (tagged 0x32 w)) bs b.1.1) more.read in
      let made : Row = record { final = w; steps = vs } in
      let same : made ≡ r = cc more.then in
      let held = eqb-true (length w) n third.0 in
      let most = leb-true n h second.0 in
      rw (← same)
      (record {
        begins =
            cc (
              eqb-true c 0x31 first.0,
              held,
              begins_append (tagged 0x32 w) (joined step_bytes vs) bs (word_begins 0x32 k bs) tail.1.begins,
            );
        good =
            record { held = omega (arith, held, most); final_below = word_below 0x32 k bs; whole = tail.0; steps = tail.1.good };
      })

  -- and back
  pub row_at : (n : ℕ) (bs : List ℕ) (vs : List Step) → n ≤ h → length (word 0x32 k bs) ≡ n
      → many (read_step k s) step_bytes k (drop (length (tagged 0x32 (word 0x32 k bs))) bs) ≡ result vs
      → read_row h k s (0x31 ∷ n ∷ bs) ≡ result (record { final = word 0x32 k bs; steps = vs })
  row_at n bs vs most held e = cc (le-leb n h most, eq-eqb (length (word 0x32 k bs)) n held, e)

  -- there is a step
  final-stops : (vs : List Step) (rest : List ℕ) → length vs ≡ k → 0 < k → Stops 0x32 (joined step_bytes vs ++ rest)
  final-stops [] rest e p = absurd (omega arith)
  final-stops (v ∷ vs) rest e p = λ z. omega arith

  pub row_encoded : (r : Row) (rest : List ℕ) → 0 < k → GoodRow h k s r → Stops 0x34 rest → read_row h k s (row_bytes r ++ rest) ≡ result r
  row_encoded r rest p g st =
      let tail = joined step_bytes r.steps ++ rest in
      let w = word-tagged 0x32 k r.final tail g.final_below (final-stops r.steps rest g.whole p) in
      let steps =
      many_encoded (read_step k s) step_bytes (GoodStep k s) (Stops 0x34) (step_encoded k s) (λ v z e. omega arith) r.steps rest g.steps st in
      let on = drop-append_seam (tagged 0x32 r.final) tail in
      let read : many (read_step k s) step_bytes k (drop (length (tagged 0x32 (word 0x32 k (tagged 0x32 r.final ++ tail)))) (tagged 0x32 r.final ++ tail)) ≡ result r.steps
      = rw (w, on) (rw g.whole at steps) in
      subst
      (λ (z : List ℕ). read_row h k s (0x31 ∷ length r.final ∷ z) ≡ result r)
      (sym (append_assoc (tagged 0x32 r.final) (joined step_bytes r.steps) rest))
      (row_at (length r.final) (tagged 0x32 r.final ++ tail) r.steps g.held (ap length w) read ∙ rw w refl)
