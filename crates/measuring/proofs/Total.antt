-- How many numbers a table has: what is left to measure makes up the whole.
use Prim.Native.Nat.{ℕ, ◌+◌, ◌*◌, ◌≤◌, ◌<◌}
use native.Mathlib.Omega.{arith}
use mathlib.Core.Path.{◌≡◌, sym, ap, ◌∙◌}
use mathlib.Core.List.{List}
use lib.ListN.{length, drop, get_or, length-append, drop_of_length-le}
use Rattle.words.proofs.Word.{drop-step}
use Rattle.transducers.specs.Table.{Step, Row, no_step, no_row, row}
use Rattle.tables.specs.Bytes.{joined}
use Rattle.steps.specs.Entry.{count_of}
use Rattle.decoder.specs.Index.{Loaded}
use Rattle.tables.proofs.Outcomes.{read-few}
use Rattle.limits.specs.declared.Limits.{Limits}
use Rattle.loaded.specs.Numbers.{row_at, behind, steps_behind, row_behind, first_resting, rows_numbers, numbers}
use Rattle.loaded.proofs.Rows.{rows_numbers-length}

module _ {lim : Limits} (bs ix : List ℕ) (k : ℕ) (l : Loaded lim bs k ix) where
  module _ (q cell : ℕ) (h : q < length l.table) (is : cell ≡ q * (k + 1)) where
    abbrev y : Row
    y = row l.table q

    pub step_count : (a : ℕ) → a < k → count_of (get_or ix (cell + 1 + a) 0) ≡ length (get_or y.steps a no_step).output
    step_count a ha =
        ap (λ (c : ℕ). count_of (get_or ix (c + 1 + a) 0)) is
        ∙ (omega (arith, ((l.cells q h).steps a ha).count_is, l.valid.balanced q a h ha, l.valid.held q h, read-few lim bs _ l.decodes))

    pub measure_next : (total n a : ℕ) → a < k → total + length (steps_behind (drop a y.steps)) ≡ length (row_behind y)
        → n ≡ length (behind (get_or y.steps a no_step).output) → total + n + length (steps_behind (drop (a + 1) y.steps)) ≡ length (row_behind y)
    measure_next total n a ha so e =
        omega (
          arith,
          so,
          e,
          ap (λ (m : List Step). length (steps_behind m)) (drop-step y.steps a no_step (omega (arith, ha, l.valid.whole q h))),
          length-append (behind (get_or y.steps a no_step).output) (steps_behind (drop (a + 1) y.steps)),
        )

    pub measure_end : (total a : ℕ) → k ≤ a → total + length (steps_behind (drop a y.steps)) ≡ length (row_behind y) → total ≡ length (row_behind y)
    measure_end total a ha so =
        let done : length y.steps ≤ a = omega (arith, ha, l.valid.whole q h) in
        omega (arith, so, ap (λ (m : List Step). length (steps_behind m)) (drop_of_length-le y.steps done))

  numbers-length : length (numbers k l.table) ≡ row_at k (length l.table) + length (joined row_behind l.table)
  numbers-length =
      let rested = first_resting l.table (length l.table) 0 in
      let rows = rows_numbers k rested (row_at k (length l.table)) l.table in
      omega (arith, length-append rows (joined row_behind l.table), rows_numbers-length bs k rested l.table (row_at k (length l.table)) l.valid.whole)

  pub total-start : row_at k (length l.table) + length (joined row_behind (drop 0 l.table)) ≡ length (numbers k l.table)
  total-start = sym numbers-length

  pub total-next : (total n q : ℕ) → q < length l.table → total + length (joined row_behind (drop q l.table)) ≡ length (numbers k l.table)
      → n ≡ length (row_behind (row l.table q)) → total + n + length (joined row_behind (drop (q + 1) l.table)) ≡ length (numbers k l.table)
  total-next total n q h so e =
      omega (
        arith,
        so,
        e,
        ap (λ (m : List Row). length (joined row_behind m)) (drop-step l.table q no_row h),
        length-append (row_behind (row l.table q)) (joined row_behind (drop (q + 1) l.table)),
      )

  pub total-end : (total q : ℕ) → length l.table ≤ q → total + length (joined row_behind (drop q l.table)) ≡ length (numbers k l.table) → total ≡ length (numbers k l.table)
  total-end total q h so = omega (arith, so, ap (λ (m : List Row). length (joined row_behind m)) (drop_of_length-le l.table h))
