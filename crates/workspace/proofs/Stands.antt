-- Rows that hold what a phase made.
use Prim.Native.Nat.{ℕ, ◌+◌, ◌≤◌, ◌<◌}
use native.Mathlib.Omega.{arith}
use mathlib.Core.Path.{◌≡◌, sym, subst}
use mathlib.Core.List.{List}
use Rattle.transducers.specs.Table.{Table}
use Rattle.transducers.specs.Tabulate.{Doing}
use Rattle.workspace.specs.declared.Grid.{Grid}
use Rattle.workspace.specs.Entries.{FINAL}
use Rattle.workspace.specs.Cells.{Sized, Kept, Fits}
use Rattle.workspace.specs.Holds.{Holds, Stands, Ready, table_at}
use Rattle.workspace.proofs.Holds.{holds_kept, table-at}

module _ (g : Grid) (W : List ℕ) (base n d : ℕ) (f : List ℕ → List ℕ) (P : Table → Type 0) (s : Stands g W base n d f P) where
  stands_at : table_at g W base n ≡ s.made.table
  stands_at = table-at g W base n s.made.table s.holds s.made.long

  pub stands-holds : Holds g W base (table_at g W base n)
  stands-holds = rw stands_at s.holds

  pub stands-doing : Doing g.tags d f (table_at g W base n)
  stands-doing = rw stands_at s.made.doing

  pub stands-so : P (table_at g W base n)
  stands-so = subst P (sym stands_at) s.made.so

  -- the next phase can begin
  pub stands-ready : Sized g W → n < 0x10000 → Fits g FINAL d → Ready g W base n
  stands-ready sized small deep =
      record {
        sized = sized;
        inside = omega (arith, s.holds.room, s.made.long);
        small = small;
        holds = stands-holds;
        sound = stands-doing.sound;
        most = d;
        held = stands-doing.held;
        room = deep;
      }

  -- writing to other rows leaves it
  pub stands-kept : (X : List ℕ) (Q : ℕ → ℕ → ℕ → Type 0) → Kept g W X Q → ((r c e : ℕ) → base ≤ r → r < base + n → Q r c e → ⊥) → Stands g X base n d f P
  stands-kept X Q kept miss =
      record {
        made = s.made;
        holds =
            holds_kept g Q W X kept base s.made.table s.holds
            (λ q a e hq ha. miss (base + q) a e (omega arith) (omega (arith, s.made.long)))
            (λ q e hq he. miss (base + q) g.tags e (omega arith) (omega (arith, s.made.long)));
      }
