-- A transducer in the work slice runs over a word in a cell, and what it puts out goes to another cell.
use Rattle.std.specs.Prelude.{ℕ, ◌+◌, ◌<◌, ◌≡◌, List, ◌++◌, length}
use Rattle.words.specs.Word.{Below}
use Rattle.transducers.specs.Run.{walk, outputs}
use Rattle.workspace.specs.declared.Grid.{Grid}
use Rattle.workspace.specs.Cells.{word, Sized, Inner, Written}
use Rattle.workspace.specs.Holds.{Holds, table_at, standing}

-- from its state q over the word at (r, c, s), to the cell (r2, c2), where there is room after so many entries
pub record Runs (g : Grid) (W : List ℕ) (base m q r c s r2 c2 after : ℕ) : Type 0 where
  pub sized : Sized g W
  pub holds : Holds g W base (table_at g W base m)
  pub state : q < m
  pub from : Inner g W r c s
  pub from_below : Below g.tags (word g W r c s)
  pub row : r2 < g.rows
  pub cell : c2 < g.tags + 1
  pub other : (r ≡ r2) → (c ≡ c2) → ⊥
  pub before : r2 < base
  pub room : after + length (outputs (standing g W base m) q (word g W r c s)) < g.depth

-- the state that it comes to, and the word that the cell has then
pub record Arrived (g : Grid) (W X : List ℕ) (base m q r c s r2 c2 s2 : ℕ) (front : List ℕ) (to : ℕ) : Type 0 where
  pub ends : to ≡ walk (standing g W base m) q (word g W r c s)
  pub wrote : Written g W X r2 c2 s2 (front ++ outputs (standing g W base m) q (word g W r c s))
