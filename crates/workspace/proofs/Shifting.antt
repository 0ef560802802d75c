-- A word without its first tags, which are moved over one by one.
use Prim.Native.Nat.{ℕ, ◌+◌, ◌-◌, ◌≤◌, ◌<◌}
use native.Mathlib.Omega.{arith}
use mathlib.Core.Path.{◌≡◌, sym, ap, ◌∙◌}
use mathlib.Core.List.{List}
use lib.ListN.{length, get_or, drop, length-drop}
use lib.Seq.{ext_get_or, get_or-drop}
use Rattle.workspace.specs.declared.Grid.{Grid}
use Rattle.workspace.specs.Cells.{at, word, Inner, Kept, Cell, Put, Written}
use Rattle.workspace.proofs.Regions.{kept_then, kept_cell}
use Rattle.workspace.proofs.Words.{word-length, word_at, written_same}

-- a word without its first n tags, moved as far as the tag i
pub record Shifting (g : Grid) (W X : List ℕ) (r c s n i : ℕ) : Type 0 where
  pub low : n ≤ i
  pub high : i ≤ at g W r c s
  pub kept : Kept g W X (Cell r c s)
  pub size : at g X r c s ≡ at g W r c s
  pub moved : (k : ℕ) → k + n < i → at g X r c (s + k + 1) ≡ at g W r c (s + (k + n) + 1)
  pub rest : (k : ℕ) → i ≤ k + n → k < at g W r c s → at g X r c (s + k + 1) ≡ at g W r c (s + k + 1)

module _ (g : Grid) (W : List ℕ) (r c s n : ℕ) (inner : Inner g W r c s) where
  pub shifting_end : (X Y : List ℕ) (i : ℕ) → Shifting g W X r c s n i → at g W r c s ≤ i → Put g X Y r c s (at g W r c s - n)
      → Written g W Y r c s (drop n (word g W r c s))
  shifting_end X Y i sh le p =
      record {
        kept =
            kept_then g (Cell r c s) W X Y sh.kept
            (kept_cell g r c s s X Y (omega arith) p.kept);
        here = ext_get_or 0 (word g Y r c s) (drop n (word g W r c s)) long tags;
        size = p.here ∙ (omega (arith, length-drop n (word g W r c s), word-length g W r c s));
      }
    where
      long : length (word g Y r c s) ≡ length (drop n (word g W r c s))
      long = omega (arith, word-length g Y r c s, p.here, length-drop n (word g W r c s), word-length g W r c s)

      tags : (k : ℕ) → k < length (word g Y r c s) → get_or (word g Y r c s) k 0 ≡ get_or (drop n (word g W r c s)) k 0
      tags k h =
          let lt : k < at g Y r c s = omega (arith, word-length g Y r c s) in
          let lo : k + n < at g W r c s = omega (arith, p.here) in
          let to : s + (k + n) + 1 ≡ s + (n + k) + 1 = omega arith in
          word_at g Y r c s k lt
          ∙ p.kept.same r c (s + k + 1) inner.cell (omega (arith, inner.inside)) (λ q. omega (arith, q.2))
          ∙ sh.moved k (omega arith)
          ∙ ap (at g W r c) to
          ∙ sym (get_or-drop n (word g W r c s) k 0 ∙ word_at g W r c s (n + k) (omega arith))

pub dropped_none : (g : Grid) (W : List ℕ) (r c s n : ℕ) → n ≡ 0 → Written g W W r c s (drop n (word g W r c s))
dropped_none g W r c s n e = rw e (written_same g W r c s)
