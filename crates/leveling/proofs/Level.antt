-- A step is balanced exactly if the counts of the index tell it so.
use Prim.Native.Nat.{ℕ, ◌+◌, ◌*◌, ◌<◌, ◌≤◌, ◌-◌}
use native.Mathlib.Omega.{arith}
use mathlib.Core.Path.{◌≡◌}
use mathlib.Core.Bool.{true}
use mathlib.Core.List.{List}
use lib.ListN.{length, get_or}
use Rattle.transducers.specs.Table.{Table, row, step, no_step, no_row}
use Rattle.tables.specs.Decode.{rows_balanced}
use Rattle.steps.specs.Entry.{count_of, base_of}
use Rattle.indexing.specs.Entries.{TableEntries}
use Rattle.leveling.specs.Level.{Level, Linked}
use Rattle.tables.proofs.Parts.{Every, every_at, every_of, GoodStep, GoodRow}
use Rattle.steps.proofs.Places.{row_inside}
use Rattle.tables.proofs.Theorem.{Balanced, RowBalanced, rows-balanced, balanced-rows}

-- a table whose states were read, with its index
module _ (most : ℕ) (few : most < 0xfe) (k s : ℕ) (bs ix : List ℕ) (t : Table) (states : length t ≡ s) (good : Every (GoodRow most k s) t) (cells : TableEntries k s bs ix t) where
  row_good : (q : ℕ) → q < s → GoodRow most k s (row t q)
  row_good q h = every_at (GoodRow most k s) t no_row q good (omega arith)

  step_good : (q a : ℕ) → q < s → a < k → GoodStep k s (step t q a)
  step_good q a h g = every_at (GoodStep k s) (row t q).steps no_step a (row_good q h).steps (omega (arith, (row_good q h).whole))

  pub held : (q : ℕ) (h : q < s) → count_of (get_or ix (q * (k + 1)) 0) ≡ length (row t q).final
  held q h = omega (arith, (cells q h).final.count_is, (row_good q h).held)

  module _ (q a : ℕ) (h : q < s) (g : a < k) where
    base : base_of (get_or ix (q * (k + 1) + 1 + a) 0) ≡ (step t q a).next * (k + 1) + 1
    base = ((cells q h).steps a g).base_is

    next-held : count_of (get_or ix (base_of (get_or ix (q * (k + 1) + 1 + a) 0) - 1) 0) ≡ length (row t (step t q a).next).final
    next-held =
        let e : base_of (get_or ix (q * (k + 1) + 1 + a) 0) - 1 ≡ (step t q a).next * (k + 1) = omega (arith, base) in
        rw e (held (step t q a).next (step_good q a h g).next_below)

    level-balanced : Level ix (q * (k + 1)) a → Balanced t (length (row t q).final) (step t q a)
    level-balanced l = omega (arith, l, held q h, next-held, ((cells q h).steps a g).count_is, (row_good q h).held)

    balanced-level : Balanced t (length (row t q).final) (step t q a) → Level ix (q * (k + 1)) a
    balanced-level l = omega (arith, l, held q h, next-held, ((cells q h).steps a g).count_is, (row_good q h).held)

    pub linked : s * (k + 1) ≤ length ix → Linked ix (q * (k + 1)) a
    linked room =
        let inside = row_inside (step t q a).next s k (length ix) (step_good q a h g).next_below room in
        (omega (arith, base), omega (arith, base, inside))

  pub levels_balanced : ((q a : ℕ) → q < s → a < k → Level ix (q * (k + 1)) a) → rows_balanced t t ≡ true
  levels_balanced all =
      balanced-rows t t
      (every_of (RowBalanced t) t no_row
      (λ q h. every_of (Balanced t (length (row t q).final)) (row t q).steps no_step
      (λ a g.
      let h' : q < s = omega arith in
      let g' : a < k = omega (arith, (row_good q h').whole) in
      level-balanced q a h' g' (all q a h' g'))))

  pub balanced_levels : rows_balanced t t ≡ true → (q a : ℕ) → q < s → a < k → Level ix (q * (k + 1)) a
  balanced_levels e q a h g =
      balanced-level q a h g
      (every_at (Balanced t (length (row t q).final)) (row t q).steps no_step a
      (every_at (RowBalanced t) t no_row q (rows-balanced t t e) (omega arith))
      (omega (arith, (row_good q h).whole)))
