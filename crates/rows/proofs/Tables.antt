-- The states of a table one after the other.
use Prim.Native.Nat.{ℕ, ◌+◌, ◌*◌, ◌≤◌, ◌<◌}
use native.Mathlib.Omega.{arith}
use native.Mathlib.Nat.{suc-mul, mul-le-mul}
use native.Mathlib.Numerals.{add-one}
use mathlib.Core.Path.{◌≡◌, sym, ap, ap₂, ◌∙◌, subst}
use mathlib.Core.List.{List, [], ◌∷◌, ◌++◌}
use lib.ListN.{length, drop, get_or, length-append, drop_of_length-le}
use lib.Seq.{sets}
use Rattle.limits.specs.Limits.{most_tags}
use Rattle.limits.proofs.Range.{held-few}
use Rattle.words.proofs.Word.{drop-step}
use Rattle.words.proofs.Regions.{sets_more, sets-sets}
use Rattle.transducers.specs.Table.{Row, Table, no_row, row, step}
use Rattle.tables.specs.Bytes.{joined}
use Rattle.steps.specs.Entry.{FinalEntry, StepEntry}
use Rattle.loaded.specs.Numbers.{row_at, row_behind, row_numbers, rows_numbers}
use Rattle.loaded.proofs.Rows.{row_numbers-length}
use Rattle.entries.specs.State.{Base}
use Rattle.rows.specs.Parts.{RowHere, RowWritten, Source, RowsWritten}

pub record RowsGoing (t : Table) (k s rested : ℕ) (b₀ b : List ℕ) (q place p : ℕ) : Type 0 where
  pub later : row_at k s ≤ place
  pub place_is : place + length (joined row_behind (drop q t)) ≡ row_at k s + length (joined row_behind t)
  pub wrote : (rest : ℕ) → Base k rest rested
      → sets (sets b₀ (row_at k s) (joined row_behind t)) 1 (rows_numbers k rest (row_at k s) t)
      ≡ sets (sets b place (joined row_behind (drop q t))) p (rows_numbers k rest place (drop q t))

-- it has few tags
pub source_tags : {bs ix : List ℕ} {k s room : ℕ} → Source bs ix k s room → k ≤ most_tags
source_tags x = omega (arith, x.valid.tags_most, x.ranged.few_tags)

module _ (bs ix : List ℕ) (k s room rested : ℕ) (x : Source bs ix k s room) (b₀ : List ℕ) where
  abbrev t : Table
  t = x.table

  module _ (b : List ℕ) (q place p : ℕ) (g : RowsGoing t k s rested b₀ b q place p) where
    pub rows_end : s ≤ q → RowsWritten t k s rested b₀ b place
    rows_end h =
        let done : length t ≤ q = omega (arith, x.long) in
        let none : drop q t ≡ [] = drop_of_length-le t done in
        record {
          place_is = omega (arith, g.place_is, ap (λ (l : List Row). length (joined row_behind l)) none);
          wrote = λ rest r. sym (g.wrote rest r ∙ ap (λ (l : List Row). sets (sets b place (joined row_behind l)) p (rows_numbers k rest place l)) none);
        }

    module _ (h : q < s) where
      pub in_table : q < length t
      in_table = omega (arith, x.long)

      split : drop q t ≡ row t q ∷ drop (q + 1) t
      split = drop-step t q no_row in_table

      pub left : place + (length (row_behind (row t q)) + length (joined row_behind (drop (q + 1) t))) ≡ row_at k s + length (joined row_behind t)
      left =
          omega (
            arith,
            g.place_is,
            ap (λ (l : List Row). length (joined row_behind l)) split,
            length-append (row_behind (row t q)) (joined row_behind (drop (q + 1) t)),
          )

      abbrev pub row_here : (cell room' : ℕ) → cell ≡ q * (k + 1) → room' ≡ room → cell + k < length ix → RowHere bs ix k cell place room'
      row_here cell room' is same entries =
          record {
            row = row t q;
            held = omega (arith, x.valid.held q in_table, held-few x.lim x.ranged);
            final = subst (λ (c : ℕ). FinalEntry bs (row t q).final (get_or ix c 0)) (sym is) (x.cells q in_table).final;
            whole = x.valid.whole q in_table;
            few_tags = source_tags x;
            few_states = λ a ha. omega (arith, x.valid.next_below q a in_table ha, x.valid.states_most);
            short = λ a ha. omega (arith, x.valid.balanced q a in_table ha, x.valid.held q in_table, held-few x.lim x.ranged);
            is = λ a ha. subst (λ (c : ℕ). StepEntry k bs ix (c + 1 + a) (step t q a)) (sym is) ((x.cells q in_table).steps a ha);
            entries = entries;
            places = omega (arith, left, x.places);
            fits = omega (arith, left, x.fits, same);
          }

      pub rows_next : (b' : List ℕ) (r : ℕ) → p + (2 * k + 2) ≤ place → RowWritten (row t q) k rested place b b' p r
          → RowsGoing t k s rested b₀ b' (q + 1) r (p + (2 * k + 2))
      rows_next b' r apart w =
          let y = row t q in
          let ws = joined row_behind (drop (q + 1) t) in
          let place_is : place + length (row_behind y) ≡ r = sym w.place_is in
          record {
            later = omega (arith, g.later, place_is);
            place_is = omega (arith, left, place_is);
            wrote = λ rest e.
                let own = row_numbers k rest place y in
                let more = rows_numbers k rest (place + length (row_behind y)) (drop (q + 1) t) in
                let size : length own ≡ 2 * k + 2 = row_numbers-length bs k rest y place (x.valid.whole q in_table) in
                let both : sets (sets b place (row_behind y ++ ws)) p own ≡ sets b' (place + length (row_behind y)) ws =
                ap (λ (l : List ℕ). sets l p own) (sets_more b place (row_behind y) ws)
                ∙ sets-sets (sets b place (row_behind y)) p own (place + length (row_behind y)) ws (omega (arith, size, apart))
                ∙ ap (λ (l : List ℕ). sets l (place + length (row_behind y)) ws) (sym (w.wrote rest e)) in
                g.wrote rest e ∙ ap (λ (l : List Row). sets (sets b place (joined row_behind l)) p (rows_numbers k rest place l)) split
                ∙ sets_more (sets b place (row_behind y ++ ws)) p own more
                ∙ ap₂ (λ (l : List ℕ) (i : ℕ). sets l (p + i) more) both size
                ∙ ap (λ (i : ℕ). sets (sets b' i ws) (p + (2 * k + 2)) (rows_numbers k rest i (drop (q + 1) t))) place_is;
          }

-- ---- the rows' places

pub row_step : (k q : ℕ) → row_at k q + (2 * k + 2) ≡ row_at k (q + 1)
row_step k q = omega (arith, suc-mul q (2 * k + 2), ap (λ (n : ℕ). n * (2 * k + 2)) (add-one q))

pub row_before : (k q s : ℕ) → q < s → row_at k q + (2 * k + 2) ≤ row_at k s
row_before k q s h =
    omega (arith, row_step k q, mul-le-mul {n₁ = q + 1} {m₁ = 2 * k + 2} {n₂ = s} {m₂ = 2 * k + 2} (omega arith) (omega arith))
