-- A table has no more numbers than bytes.
use Prim.Native.Nat.{ℕ, suc, ◌+◌, ◌*◌, ◌≤◌, ◌<◌}
use native.Mathlib.Omega.{arith}
use native.Mathlib.Nat.{suc-mul}
use mathlib.Core.Path.{◌≡◌}
use mathlib.Core.Bool.{Bool, true, false}
use mathlib.Core.List.{List, [], ◌∷◌}
use lib.Dec.{leb}
use lib.ListN.{length, get_or, length-append}
use Rattle.limits.specs.declared.Limits.{Limits}
use Rattle.transducers.specs.Table.{Step, Row, Table, no_row}
use Rattle.tables.specs.Bytes.{tagged, joined, step_bytes, row_bytes, encode}
use Rattle.tables.specs.Valid.{ValidTable}
use Rattle.tables.proofs.Words.{length-tagged}
use Rattle.loaded.specs.Numbers.{row_size, row_at, behind, steps_behind, row_behind, first_resting, rows_numbers, numbers}
use Rattle.loaded.proofs.Rows.{rows_numbers-length}

behind-few : (w : List ℕ) → length (behind w) ≤ length w
behind-few w = by (leb (length w) 3)
  where
    by : (b : Bool) → length {A = ℕ} (elim b [ true ↦ [] | false ↦ w ]) ≤ length w
    by true = omega arith
    by false = omega arith

steps-few : (ss : List Step) → 2 * length ss + length (steps_behind ss) ≤ length (joined step_bytes ss)
steps-few [] = omega arith
steps-few (s ∷ ss) =
    omega (
      arith,
      steps-few ss,
      behind-few s.output,
      length-tagged 0x34 s.output,
      length-append (behind s.output) (steps_behind ss),
      length-append (step_bytes s) (joined step_bytes ss),
    )

row-few : (k : ℕ) (x : Row) → length x.steps ≡ k → row_size k + length (row_behind x) ≤ length (row_bytes x)
row-few k x whole =
    omega (
      arith,
      whole,
      steps-few x.steps,
      behind-few x.final,
      length-tagged 0x32 x.final,
      length-append (behind x.final) (steps_behind x.steps),
      length-append (tagged 0x32 x.final) (joined step_bytes x.steps),
    )

rows_few : (k : ℕ) (t : Table) → ((q : ℕ) → q < length t → length (get_or t q no_row).steps ≡ k) → length t * row_size k + length (joined row_behind t) ≤ length (joined row_bytes t)
rows_few k [] whole = omega arith
rows_few k (x ∷ t) whole =
    omega (
      arith,
      row-few k x (whole 0 (omega arith)),
      rows_few k t (λ q h. whole (suc q) (omega arith)),
      suc-mul (length t) (row_size k),
      length-append (row_behind x) (joined row_behind t),
      length-append (row_bytes x) (joined row_bytes t),
    )

-- as many numbers as the table has bytes are always enough
pub numbers-few : {lim : Limits} (k : ℕ) (t : Table) → ValidTable lim k t → length (numbers k t) ≤ length (encode k t)
numbers-few k t v =
    let rested = first_resting t (length t) 0 in
    let rows = rows_numbers k rested (row_at k (length t)) t in
    omega (
      arith,
      rows_few k t v.whole,
      length-append rows (joined row_behind t),
      rows_numbers-length [] k rested t (row_at k (length t)) v.whole,
      length-append (joined row_bytes t) (0 ∷ []),
    )
