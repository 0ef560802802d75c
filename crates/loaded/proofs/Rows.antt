-- The rows stand in the numbers: step by step and row by row, from where they begin.
use Prim.Native.Nat.{ℕ, zero, suc, ◌+◌, ◌*◌, ◌≤◌, ◌<◌}
use native.Mathlib.Omega.{arith}
use mathlib.Core.Path.{◌≡◌, refl, sym, ap, ◌∙◌, subst}
use mathlib.Core.List.{List, [], ◌∷◌, ◌++◌, append_assoc}
use lib.ListN.{length, take, drop, get_or, length-append, length-drop}
use lib.Seq.{drop-drop, get_or-drop, take-append_seam, drop-append_seam}
use Rattle.words.specs.Word.{Below, Prefix}
use Rattle.words.proofs.Front.{begins_length}
use Rattle.answers.specs.Outcome.{result}
use Rattle.transducers.specs.Table.{Step, Row, Table, no_step, no_row, row}
use Rattle.tables.specs.Bytes.{joined}
use Rattle.loaded.specs.Numbers.{row_size, row_at, entry, behind, first_resting, next_at, step_numbers, steps_behind, row_numbers, row_behind, rows_numbers, numbers}
use Rattle.loaded.specs.Run.{word_of}
use Rattle.loaded.proofs.Entry.{At, word-entry}

-- the numbers from p on begin with v
abbrev pub From : List ℕ → ℕ → List ℕ → Type 0
From ns p v = Prefix v (drop p ns)

from_first : (ns : List ℕ) (p x : ℕ) (v : List ℕ) → From ns p (x ∷ v) → get_or ns p 0 ≡ x
from_first ns p x v h =
    let e : p + 0 ≡ p = omega arith in
    sym (ap (λ (i : ℕ). get_or ns i 0) e) ∙ sym (get_or-drop p ns 0 0) ∙ ap (λ (l : List ℕ). get_or l 0 0) h.split

pub from-left : (ns : List ℕ) (p : ℕ) (u v : List ℕ) → From ns p (u ++ v) → From ns p u
from-left ns p u v h = record { rest = v ++ h.rest; split = h.split ∙ append_assoc u v h.rest }

pub from-right : (ns : List ℕ) (p : ℕ) (u v : List ℕ) → From ns p (u ++ v) → From ns (p + length u) v
from-right ns p u v h =
    record {
      rest = h.rest;
      split =
          sym (drop-drop (length u) p ns) ∙ ap (drop (length u)) (h.split ∙ append_assoc u v h.rest) ∙ drop-append_seam u (v ++ h.rest);
    }

from_at : (ns : List ℕ) (p : ℕ) (w : List ℕ) → p ≤ length ns → From ns p w → At ns p w
from_at ns p w le h =
    record {
      inside = omega (arith, begins_length h, length-drop p ns);
      is = ap (take (length w)) h.split ∙ take-append_seam w h.rest;
    }

-- a word can be noted: its tags are bytes, and it has fewer than 256
pub record Noted (w : List ℕ) : Type 0 where
  pub small : Below 0x100 w
  pub short : length w < 0x100

abbrev pub NotedSteps : List Step → Type 0
NotedSteps [] = Unit {0}
NotedSteps (s ∷ ss) = Noted s.output × NotedSteps ss

abbrev pub NotedRows : List Row → Type 0
NotedRows [] = Unit {0}
NotedRows (r ∷ rs) = Noted r.final × NotedSteps r.steps × NotedRows rs

-- the steps that the numbers from p on have
abbrev pub StepsIn : List ℕ → ℕ → ℕ → ℕ → List Step → Type 0
StepsIn ns k rested p [] = Unit {0}
StepsIn ns k rested p (s ∷ ss) =
    (get_or ns p 0 ≡ next_at k rested s.next) × (word_of ns (get_or ns (p + 1) 0) ≡ result s.output) × StepsIn ns k rested (p + 2) ss

abbrev pub RowsIn : List ℕ → ℕ → ℕ → ℕ → List Row → Type 0
RowsIn ns k rested p [] = Unit {0}
RowsIn ns k rested p (r ∷ rs) =
    (word_of ns (get_or ns p 0) ≡ result r.final) × StepsIn ns k rested (p + 2) r.steps × (p + row_size k ≤ length ns) × RowsIn ns k rested (p + row_size k) rs

module _ (ns : List ℕ) (k rested : ℕ) where
  word_in : (p place : ℕ) (w v : List ℕ) → From ns p (entry place w ∷ v) → From ns place (behind w) → place ≤ length ns → Noted w → word_of ns (get_or ns p 0) ≡ result w
  word_in p place w v h b le noted = ap (word_of ns) (from_first ns p (entry place w) v h) ∙ word-entry ns place w noted.small noted.short (from_at ns place (behind w) le b)

  steps_in_lem : (ss : List Step) (p place : ℕ) → From ns p (step_numbers k rested place ss) → From ns place (steps_behind ss) → place + length (steps_behind ss) ≤ length ns
      → NotedSteps ss → StepsIn ns k rested p ss
  steps_in_lem [] p place h b le noted = tt
  steps_in_lem (s ∷ ss) p place h b le noted =
      let place' = place + length (behind s.output) in
      let after = step_numbers k rested place' ss in
      let rest = steps_behind ss in
      let two : p + 1 + 1 ≡ p + 2 = omega arith in
      let one : From ns (p + 1) (entry place s.output ∷ after) = from-right ns p (next_at k rested s.next ∷ []) (entry place s.output ∷ after) h in
      let more : From ns (p + 2) after = subst (λ (i : ℕ). From ns i after) two (from-right ns (p + 1) (entry place s.output ∷ []) after one) in (
        from_first ns p (next_at k rested s.next) (entry place s.output ∷ after) h,
        word_in (p + 1) place s.output after one (from-left ns place (behind s.output) rest b) (omega (arith, le)) noted.0,
        steps_in_lem ss (p + 2) place' more (from-right ns place (behind s.output) rest b) (omega (arith, le, length-append (behind s.output) rest)) noted.1,
      )

  step_numbers-length : (ss : List Step) (place : ℕ) → length (step_numbers k rested place ss) ≡ 2 * length ss
  step_numbers-length [] place = refl
  step_numbers-length (s ∷ ss) place = omega (arith, step_numbers-length ss (place + length (behind s.output)))

  pub row_numbers-length : (r : Row) (place : ℕ) → length r.steps ≡ k → length (row_numbers k rested place r) ≡ row_size k
  row_numbers-length r place whole = omega (arith, step_numbers-length r.steps (place + length (behind r.final)), whole)

  abbrev Whole : List Row → Type 0
  Whole rs = (q : ℕ) → q < length rs → length (get_or rs q no_row).steps ≡ k

  rows_in_lem : (rs : List Row) (p place : ℕ) → Whole rs → From ns p (rows_numbers k rested place rs) → p + length (rows_numbers k rested place rs) ≤ length ns
      → From ns place (joined row_behind rs) → place + length (joined row_behind rs) ≤ length ns → NotedRows rs → RowsIn ns k rested p rs
  rows_in_lem [] p place whole h here b le noted = tt
  rows_in_lem (r ∷ rs) p place whole h here b le noted =
      let steps = steps_behind r.steps in
      let own = row_numbers k rested place r in
      let place' = place + length (row_behind r) in
      let after = rows_numbers k rested place' rs in
      let rest = joined row_behind rs in
      let size = row_numbers-length r place (whole 0 (omega arith)) in
      let row_from = from-left ns p own after h in
      let words = from-left ns place (row_behind r) rest b in
      let step_words = step_numbers k rested (place + length (behind r.final)) r.steps in (
        word_in p place r.final (0 ∷ step_words) row_from (from-left ns place (behind r.final) steps words) (omega (arith, le)) noted.0,
        steps_in_lem r.steps (p + 2) (place + length (behind r.final)) (from-right ns p (entry place r.final ∷ 0 ∷ []) step_words row_from)
            (from-right ns place (behind r.final) steps words) (omega (arith, le, length-append (row_behind r) rest, length-append (behind r.final) steps)) noted.1,
        omega (arith, here, length-append own after, size),
        rows_in_lem rs (p + row_size k) place' (λ q hq. whole (suc q) (omega arith)) (subst (λ (i : ℕ). From ns (p + i) after) size (from-right ns p own after h))
            (omega (arith, here, length-append own after, size)) (from-right ns place (row_behind r) rest b) (omega (arith, le, length-append (row_behind r) rest)) noted.2,
      )

  pub rows_numbers-length : (rs : List Row) (place : ℕ) → Whole rs → length (rows_numbers k rested place rs) ≡ length rs * row_size k
  rows_numbers-length [] place whole = omega arith
  rows_numbers-length (r ∷ rs) place whole =
      omega (
        arith,
        length-append (row_numbers k rested place r) (rows_numbers k rested (place + length (row_behind r)) rs),
        row_numbers-length r place (whole 0 (omega arith)),
        rows_numbers-length rs (place + length (row_behind r)) (λ q hq. whole (suc q) (omega arith)),
      )

  -- one of the steps, one of the rows
  pub step_in_lem : (ss : List Step) (p a : ℕ) → a < length ss → StepsIn ns k rested p ss
      → (get_or ns (p + 2 * a) 0 ≡ next_at k rested (get_or ss a no_step).next) × (word_of ns (get_or ns (p + 2 * a + 1) 0) ≡ result (get_or ss a no_step).output)
  step_in_lem [] p a h in' = absurd (omega arith)
  step_in_lem (s ∷ ss) p zero h in' =
      let e : p + 2 * 0 ≡ p = omega arith in
      (ap (λ (i : ℕ). get_or ns i 0) e ∙ in'.0, ap (λ (i : ℕ). word_of ns (get_or ns (i + 1) 0)) e ∙ in'.1)
  step_in_lem (s ∷ ss) p (suc a) h in' =
      let e : p + 2 * suc a ≡ p + 2 + 2 * a = omega arith in
      let more = step_in_lem ss (p + 2) a (omega arith) in'.2 in
      (ap (λ (i : ℕ). get_or ns i 0) e ∙ more.0, ap (λ (i : ℕ). word_of ns (get_or ns (i + 1) 0)) e ∙ more.1)

  pub record RowIn (p : ℕ) (r : Row) : Type 0 where
    pub final : word_of ns (get_or ns p 0) ≡ result r.final
    pub steps : StepsIn ns k rested (p + 2) r.steps
    pub inside : p + row_size k ≤ length ns

  pub row_in : (rs : List Row) (p q : ℕ) → q < length rs → RowsIn ns k rested p rs → RowIn (p + q * row_size k) (get_or rs q no_row)
  row_in [] p q h in' = absurd (omega arith)
  row_in (r ∷ rs) p zero h in' =
      let e : p + 0 * row_size k ≡ p = omega arith in
      subst (λ (i : ℕ). RowIn i r) (sym e) (record { final = in'.0; steps = in'.1; inside = in'.2 })
  row_in (r ∷ rs) p (suc q) h in' =
      let e : p + row_size k + q * row_size k ≡ p + suc q * row_size k = omega arith in
      subst (λ (i : ℕ). RowIn i (get_or rs q no_row)) e (row_in rs (p + row_size k) q (omega arith) in'.3)

-- the numbers of a table, with anything behind them
pub numbers-rows : (k : ℕ) (t : Table) (behind-them : List ℕ) → ((q : ℕ) → q < length t → length (row t q).steps ≡ k) → NotedRows t
    → RowsIn (numbers k t ++ behind-them) k (first_resting t (length t) 0) 1 t
numbers-rows k t tail whole noted =
    let ns = numbers k t ++ tail in
    let rested = first_resting t (length t) 0 in
    let rows = rows_numbers k rested (row_at k (length t)) t in
    let words = joined row_behind t in
    let size = rows_numbers-length ns k rested t (row_at k (length t)) whole in
    let all : From ns 1 (rows ++ words) = record { rest = tail; split = refl } in
    let place : 1 + length rows ≡ row_at k (length t) = omega (arith, size) in
    let long : length ns ≡ 1 + (length rows + length words) + length tail = omega (arith, length-append (numbers k t) tail, length-append rows words) in
    rows_in_lem ns k rested t 1 (row_at k (length t)) whole (from-left ns 1 rows words all) (omega (arith, long))
    (subst (λ (i : ℕ). From ns i words) place (from-right ns 1 rows words all)) (omega (arith, long, place)) noted
