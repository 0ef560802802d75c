-- A part of a word goes after another word, tag by tag.
use Prim.Native.Nat.{ℕ, ◌+◌, ◌-◌, ◌≤◌, ◌<◌}
use native.Mathlib.Omega.{arith}
use native.Mathlib.Numerals.{add-one}
use mathlib.Core.Path.{◌≡◌, sym, ap, ap₂, ◌∙◌}
use mathlib.Core.List.{List, [], ◌∷◌, ◌++◌, append_assoc, append-nil}
use lib.ListN.{length, get_or, take, drop, length-append, length-drop, drop_of_length-le}
use lib.Seq.{get_or-take, drop-cons, length-take-le, take_all}
use Rattle.workspace.specs.declared.Grid.{Grid}
use Rattle.workspace.specs.Cells.{at, word, Kept, Cell, Written, part}
use Rattle.workspace.proofs.Regions.{kept_then}
use Rattle.workspace.proofs.Words.{word-length}

-- the part of a word from i on, one tag further
pub part-next : (w : List ℕ) (i to : ℕ) → i < to → to ≤ length w → part i to w ≡ get_or w i 0 ∷ part (i + 1) to w
part-next w i to h le =
    let lt : i < length (take to w) = omega (arith, length-take-le to w le) in
    drop-cons (take to w) i 0 lt ∙ ap₂ {C = List ℕ} (λ (t j : ℕ). t ∷ drop j (take to w)) (get_or-take to w i 0 h) (sym (add-one i))

-- a word w that is being appended to another: its tags from `from` to i are
pub record Appending (g : Grid) (W X w : List ℕ) (from to r c s i : ℕ) : Type 0 where
  pub low : from ≤ i
  pub high : i ≤ to
  pub kept : Kept g W X (Cell r c s)
  pub grown : at g X r c s + from ≡ at g W r c s + i
  pub is : word g X r c s ++ part i to w ≡ word g W r c s ++ part from to w

module _ (g : Grid) (W w : List ℕ) (from to r c s : ℕ) (room : to ≤ length w) where
  pub appending_next : (X Y : List ℕ) (i tag : ℕ) → Appending g W X w from to r c s i → i < to → tag ≡ get_or w i 0
      → Written g X Y r c s (word g X r c s ++ (tag ∷ [])) → Appending g W Y w from to r c s (i + 1)
  appending_next X Y i tag a h same new =
      record {
        low = omega (arith, a.low);
        high = omega arith;
        kept = kept_then g (Cell r c s) W X Y a.kept new.kept;
        grown = omega (arith, a.grown, word-length g Y r c s, ap length new.here, word-length g X r c s, length-append (word g X r c s) (tag ∷ []));
        is =
            ap (λ (l : List ℕ). l ++ part (i + 1) to w) new.here
            ∙ append_assoc (word g X r c s) (tag ∷ []) (part (i + 1) to w)
            ∙ ap {B = List ℕ} (λ (t : ℕ). word g X r c s ++ (t ∷ part (i + 1) to w)) same
            ∙ ap (λ (l : List ℕ). word g X r c s ++ l) (sym (part-next w i to h room))
            ∙ a.is;
      }

  pub appending_end : (X : List ℕ) (i : ℕ) → Appending g W X w from to r c s i → to ≤ i → Written g W X r c s (word g W r c s ++ part from to w)
  appending_end X i a h = record { kept = a.kept; here = here; size = sym (word-length g X r c s) ∙ ap length here }
    where
      here : word g X r c s ≡ word g W r c s ++ part from to w
      here =
          sym (append-nil (word g X r c s))
          ∙ ap (λ (l : List ℕ). word g X r c s ++ l) (sym (drop_of_length-le (take to w) {i = i} (omega (arith, length-take-le to w room))))
          ∙ a.is

pub part_length : (w : List ℕ) (from to : ℕ) → to ≤ length w → length (part from to w) ≡ to - from
part_length w from to h = omega (arith, length-drop from (take to w), length-take-le to w h)

-- the whole of a word
pub part-whole : (g : Grid) (W : List ℕ) (r c s n : ℕ) → n ≡ at g W r c s → part 0 n (word g W r c s) ≡ word g W r c s
part-whole g W r c s n e = take_all n (word g W r c s) (omega (arith, word-length g W r c s))
