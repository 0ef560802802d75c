-- Words in cells: they stay where their entries do, and grow by a tag or by a word.
use Prim.Native.Nat.{ℕ, zero, suc, ◌+◌, ◌≤◌, ◌<◌}
use native.Mathlib.Omega.{arith}
use native.Mathlib.Numerals.{add-one}
use mathlib.Core.Path.{◌≡◌, refl, sym, ap, ap₂, ◌∙◌}
use mathlib.Core.List.{List, [], ◌∷◌, ◌++◌}
use lib.ListN.{length, get_or, length-append}
use lib.Seq.{ext_get_or}
use Rattle.transducers.specs.Tabulate.{tabulate}
use Rattle.transducers.proofs.Tabulate.{length-tabulate, get_or-tabulate}
use Rattle.workspace.specs.declared.Grid.{Grid}
use Rattle.workspace.specs.Cells.{at, word, Inner, Kept, Cell, Got, Put, Written}
use Rattle.workspace.proofs.Regions.{kept-none, kept_then, kept_cell}

pub tabulate-same : (n i : ℕ) (f h : ℕ → ℕ) → ((e : ℕ) → i ≤ e → e < i + n → f e ≡ h e) → tabulate n i f ≡ tabulate n i h
tabulate-same n i f h all =
    ext_get_or 0 (tabulate n i f) (tabulate n i h) (length-tabulate n i f ∙ sym (length-tabulate n i h))
    (λ j lt.
    let b : j < n = omega (arith, length-tabulate n i f) in
    get_or-tabulate n i j f 0 b ∙ all (i + j) (omega arith) (omega arith) ∙ sym (get_or-tabulate n i j h 0 b))

pub tabulate_snoc : (n i : ℕ) (f : ℕ → ℕ) → tabulate (suc n) i f ≡ tabulate n i f ++ (f (i + n) ∷ [])
tabulate_snoc zero i f = let e : i ≡ i + 0 = omega arith in ap {B = List ℕ} (λ (j : ℕ). f j ∷ []) e
tabulate_snoc (suc n) i f =
    let e : suc i + n ≡ i + suc n = omega arith in
    ap {B = List ℕ} (λ l. f i ∷ l) (tabulate_snoc n (suc i) f ∙ ap {B = List ℕ} (λ (j : ℕ). tabulate n (suc i) f ++ (f j ∷ [])) e)

module _ (g : Grid) where
  pub word-length : (W : List ℕ) (r c s : ℕ) → length (word g W r c s) ≡ at g W r c s
  unfolding word
  word-length W r c s = length-tabulate (at g W r c s) (suc s) (at g W r c)

  pub word_at : (W : List ℕ) (r c s i : ℕ) → i < at g W r c s → get_or (word g W r c s) i 0 ≡ at g W r c (s + i + 1)
  unfolding word
  word_at W r c s i h =
      let e : suc s + i ≡ s + i + 1 = omega arith in
      get_or-tabulate (at g W r c s) (suc s) i (at g W r c) 0 h ∙ ap (at g W r c) e

  -- a word whose entries stay stays
  pub word_kept : (P : ℕ → ℕ → ℕ → Type 0) (W X : List ℕ) → Kept g W X P → (r c s : ℕ) → c < g.tags + 1 → s + at g W r c s < g.depth
      → ((e : ℕ) → s ≤ e → P r c e → ⊥) → word g X r c s ≡ word g W r c s
  unfolding word
  word_kept P W X k r c s hc room out =
      let n = k.same r c s hc (omega arith) (out s (omega arith)) in
      ap (λ (m : ℕ). tabulate m (suc s) (at g X r c)) n
      ∙ tabulate-same (at g W r c s) (suc s) (at g X r c) (at g W r c) (λ e lo hi. k.same r c e hc (omega arith) (out e (omega arith)))

  -- no tag
  pub word_clear : (W X : List ℕ) (r c s : ℕ) → Put g W X r c s 0 → Written g W X r c s []
  unfolding word
  word_clear W X r c s a =
      record {
        kept = kept_cell g r c s s W X (omega arith) a.kept;
        here = ap (λ (m : ℕ). tabulate m (suc s) (at g X r c)) a.here;
        size = a.here;
      }

  -- one more tag
  pub word_push : (W X Y : List ℕ) (r c s n tag : ℕ) → n ≡ at g W r c s → c < g.tags + 1 → s + n + 1 < g.depth
      → Put g W X r c (s + n + 1) tag → Put g X Y r c s (n + 1) → Written g W Y r c s (word g W r c s ++ (tag ∷ []))
  unfolding word
  word_push W X Y r c s n tag is hc room a b =
      record {
        kept =
            kept_then g (Cell r c s) W X Y
            (kept_cell g r c s (s + n + 1) W X (omega arith) a.kept)
            (kept_cell g r c s s X Y (omega arith) b.kept);
        here =
            ap (λ (m : ℕ). tabulate m (suc s) (at g Y r c)) (b.here ∙ add-one n)
            ∙ tabulate_snoc n (suc s) (at g Y r c)
            ∙ ap₂ (λ (l : List ℕ) (t : ℕ). l ++ (t ∷ [])) (olds ∙ ap (λ (m : ℕ). tabulate m (suc s) (at g W r c)) is) last;
        size = omega (arith, b.here, is, length-append (tabulate (at g W r c s) (suc s) (at g W r c)) (tag ∷ []), length-tabulate (at g W r c s) (suc s) (at g W r c));
      }
    where
      olds : tabulate n (suc s) (at g Y r c) ≡ tabulate n (suc s) (at g W r c)
      olds =
          tabulate-same n (suc s) (at g Y r c) (at g W r c)
          (λ e lo hi. b.kept.same r c e hc (omega arith) (λ p. omega (arith, p.2)) ∙ a.kept.same r c e hc (omega arith) (λ p. omega (arith, p.2)))

      last : at g Y r c (suc s + n) ≡ tag
      last =
          let e : suc s + n ≡ s + n + 1 = omega arith in
          ap (at g Y r c) e ∙ b.kept.same r c (s + n + 1) hc room (λ p. omega (arith, p.2)) ∙ a.here

-- a cell keeps its word
pub written_same : (g : Grid) (W : List ℕ) (r c s : ℕ) → Written g W W r c s (word g W r c s)
written_same g W r c s = record { kept = kept-none g (Cell r c s) W; here = refl; size = sym (word-length g W r c s) }

-- one word after another
module _ (g : Grid) (W X : List ℕ) (r c s : ℕ) where
  pub written-more : (Y w v : List ℕ) → Written g W X r c s w → Written g X Y r c s (word g X r c s ++ v) → Written g W Y r c s (w ++ v)
  written-more Y w v a b =
      record {
        kept = kept_then g (Cell r c s) W X Y a.kept b.kept;
        here = b.here ∙ ap (λ (l : List ℕ). l ++ v) a.here;
        size = b.size ∙ ap (λ (l : List ℕ). length (l ++ v)) a.here;
      }

  pub written_is : (w v : List ℕ) → w ≡ v → Written g W X r c s w → Written g W X r c s v
  written_is w v e a = rw (← e) a

-- the tag read from a cell that stays is its word's
pub tag-kept : (g : Grid) (P : ℕ → ℕ → ℕ → Type 0) (W X : List ℕ) → Kept g W X P → (r c s i tag : ℕ) → Inner g W r c s → i < at g W r c s
    → ((e : ℕ) → P r c e → ⊥) → Got g X r c (s + i + 1) tag → tag ≡ get_or (word g W r c s) i 0
tag-kept g P W X k r c s i tag inner h out got =
    got.is ∙ k.same r c (s + i + 1) inner.cell (omega (arith, inner.inside)) (out (s + i + 1)) ∙ sym (word_at g W r c s i h)
