-- Regions outside of which nothing was written, one after the other.
use Prim.Native.Nat.{ℕ, ◌+◌, ◌≤◌, ◌<◌}
use native.Mathlib.Omega.{arith}
use mathlib.Core.Path.{◌≡◌, refl, ◌∙◌}
use mathlib.Core.List.{List}
use lib.ListN.{length}
use Rattle.workspace.specs.declared.Grid.{Grid}
use Rattle.workspace.specs.Cells.{Sized, Kept, Entry, Cell, Spare, Put}

module _ (g : Grid) (P : ℕ → ℕ → ℕ → Type 0) where
  pub kept-none : (W : List ℕ) → Kept g W W P
  kept-none W = record { long = refl; same = λ r c e hc he out. refl }

  pub kept_then : (W X Y : List ℕ) → Kept g W X P → Kept g X Y P → Kept g W Y P
  kept_then W X Y a b =
      record { long = b.long ∙ a.long; same = λ r c e hc he out. b.same r c e hc he out ∙ a.same r c e hc he out }

  pub kept_wider : (Q : ℕ → ℕ → ℕ → Type 0) (W X : List ℕ) → Kept g W X Q → ((r c e : ℕ) → Q r c e → P r c e) → Kept g W X P
  kept_wider Q W X a more = record { long = a.long; same = λ r c e hc he out. a.same r c e hc he (λ p. out (more r c e p)) }

-- an entry is written in a cell from s on
pub kept_cell : (g : Grid) (r c s e : ℕ) (W X : List ℕ) → s ≤ e → Kept g W X (Entry r c e) → Kept g W X (Cell r c s)
kept_cell g r c s e W X h k = kept_wider g (Cell r c s) (Entry r c e) W X k (λ r' c' e' i. (i.0, i.1, omega (arith, i.2)))

-- a note is written among those of some rows
pub spare_put : (g : Grid) (base n lo hi : ℕ) (W X : List ℕ) (q e v : ℕ) → q < n → lo ≤ e → e < hi → Put g W X (base + q) g.tags e v
    → Kept g W X (Spare g base (base + n) lo hi)
spare_put g base n lo hi W X q e v h from to p =
    kept_wider g (Spare g base (base + n) lo hi) (Entry (base + q) g.tags e) W X p.kept
    (λ r' c' e' i. (omega (arith, i.0), omega (arith, i.0), i.1, omega (arith, i.2), omega (arith, i.2)))

pub sized-kept : (g : Grid) (W X : List ℕ) → Sized g W → length X ≡ length W → Sized g X
sized-kept g W X s e = record { room = omega (arith, s.room); rows_small = s.rows_small; tags_small = s.tags_small; depth_small = s.depth_small }
