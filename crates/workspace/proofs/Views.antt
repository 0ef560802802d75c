-- What the cells of rows that hold a transducer have, and that notes beside it leave it.
use Prim.Native.Nat.{ℕ, ◌+◌, ◌≤◌, ◌<◌}
use native.Mathlib.Omega.{arith}
use mathlib.Core.Path.{◌≡◌, sym, ap, ◌∙◌}
use mathlib.Core.List.{List}
use lib.ListN.{length}
use Rattle.workspace.specs.declared.Grid.{Grid}
use Rattle.workspace.specs.Entries.{NEXT, OUTPUT, FINAL}
use Rattle.workspace.specs.Cells.{at, word, Inner, Kept, Spare}
use Rattle.workspace.specs.Holds.{Holds, Ready, table_at, standing}
use Rattle.workspace.proofs.Regions.{sized-kept}
use Rattle.workspace.proofs.Words.{word-length}
use Rattle.workspace.proofs.Holds.{holds_kept, length_at, table-at}

module _ (g : Grid) (W : List ℕ) (base n : ℕ) (ok : Ready g W base n) where
  pub in_table : (q : ℕ) → q < n → q < length (table_at g W base n)
  in_table q h = omega (arith, length_at g W base n)

  pub row_below : (q : ℕ) → q < n → base + q < g.rows
  row_below q h = omega (arith, ok.inside)

  pub final_is : (q : ℕ) → q < n → word g W (base + q) g.tags FINAL ≡ (standing g W base n).final q
  final_is q h = (ok.holds.states q (in_table q h)).final_is

  pub final-size : (q : ℕ) → q < n → at g W (base + q) g.tags FINAL ≡ length ((standing g W base n).final q)
  final-size q h = sym (word-length g W (base + q) g.tags FINAL) ∙ ap length (final_is q h)

  pub final-inner : (q : ℕ) → q < n → Inner g W (base + q) g.tags FINAL
  final-inner q h =
      record { row = row_below q h; cell = omega arith; inside = omega (arith, final-size q h, ok.holds.roomy.finals q (in_table q h)) }

  module _ (q a : ℕ) (h : q < n) (ha : a < g.tags) where
    pub output_is : word g W (base + q) a OUTPUT ≡ (standing g W base n).output q a
    output_is = ((ok.holds.states q (in_table q h)).steps a ha).output_is

    pub next_is : at g W (base + q) a NEXT ≡ (standing g W base n).next q a
    next_is = ((ok.holds.states q (in_table q h)).steps a ha).next_is

    pub output-size : at g W (base + q) a OUTPUT ≡ length ((standing g W base n).output q a)
    output-size = sym (word-length g W (base + q) a OUTPUT) ∙ ap length output_is

    pub output-inner : Inner g W (base + q) a OUTPUT
    output-inner =
        record { row = row_below q h; cell = omega arith; inside = omega (arith, output-size, ok.holds.roomy.outputs q a (in_table q h) ha) }

    pub next_below : (standing g W base n).next q a < n
    next_below = omega (arith, ok.sound.next_below q a (in_table q h) ha, length_at g W base n)

    pub next_at-below : at g W (base + q) a NEXT < n
    next_at-below = omega (arith, next_is, next_below)

  -- writing elsewhere leaves the transducer
  module _ (P : ℕ → ℕ → ℕ → Type 0) (X : List ℕ) (kept : Kept g W X P) (miss : (q a e : ℕ) → a < g.tags → P (base + q) a e → ⊥)
      (miss-final : (q e : ℕ) → FINAL ≤ e → P (base + q) g.tags e → ⊥) where
    still : Holds g X base (table_at g W base n)
    still =
        holds_kept g P W X kept base (table_at g W base n) ok.holds (λ q a e hq ha. miss q a e ha) (λ q e hq he. miss-final q e he)

    pub same_by : table_at g X base n ≡ table_at g W base n
    same_by = table-at g X base n (table_at g W base n) still (length_at g W base n)

    pub ready_by : Ready g X base n
    ready_by =
        record {
          sized = sized-kept g W X ok.sized kept.long;
          inside = ok.inside;
          small = ok.small;
          holds = rw same_by still;
          sound = rw same_by ok.sound;
          most = ok.most;
          held = rw same_by ok.held;
          room = ok.room;
        }

  -- notes do
  module _ (X : List ℕ) (lo hi : ℕ) (spare : hi ≤ FINAL) (kept : Kept g W X (Spare g base (base + n) lo hi)) where
    pub same-table : table_at g X base n ≡ table_at g W base n
    same-table = same_by (Spare g base (base + n) lo hi) X kept (λ q a e ha i. omega (arith, i.2)) (λ q e he i. omega (arith, i.4, spare))

    pub ready-kept : Ready g X base n
    ready-kept = ready_by (Spare g base (base + n) lo hi) X kept (λ q a e ha i. omega (arith, i.2)) (λ q e he i. omega (arith, i.4, spare))
