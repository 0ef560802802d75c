-- Keys: equivalences that notes beside the classes leave.
use Prim.Native.Nat.{ℕ, ◌+◌, ◌≤◌, ◌<◌}
use native.Mathlib.Omega.{arith}
use mathlib.Core.Path.{◌≡◌, refl, sym, ap, ◌∙◌, subst}
use mathlib.Core.Bool.{Bool, true, false}
use mathlib.Core.List.{List}
use Rattle.words.specs.Decides.{Decides}
use Rattle.words.proofs.Decides.{decides_no}
use Rattle.words.proofs.Word.{below_suc}
use mathlib.Core.Logic.{◌⊎◌, inl, inr}
use Rattle.workspace.specs.declared.Grid.{Grid}
use Rattle.workspace.specs.Entries.{FINAL, CLASS}
use Rattle.workspace.specs.Cells.{Kept, Spare}
use Rattle.workspace.specs.Holds.{Ready, standing}
use Rattle.workspace.proofs.Views.{same-table, ready-kept}
use Rattle.merge.specs.Classes.{class_of, Words, Nexts, Key, Partition}

module _ (g : Grid) (W : List ℕ) (base n : ℕ) where
  pub words_sym : (p q : ℕ) → Words g W base n p q → Words g W base n q p
  words_sym p q k = (sym k.0, λ a ha. sym (k.1 a ha))

  pub words_trans : (p q r : ℕ) → Words g W base n p q → Words g W base n q r → Words g W base n p r
  words_trans p q r k l = (k.0 ∙ l.0, λ a ha. k.1 a ha ∙ l.1 a ha)

  pub key_refl : (first : Bool) (p : ℕ) → Key g W base n first p p
  key_refl true p = (refl, λ a ha. refl)
  key_refl false p = λ a ha. refl

  pub key_sym : (first : Bool) (p q : ℕ) → Key g W base n first p q → Key g W base n first q p
  key_sym true p q k = words_sym p q k
  key_sym false p q k = λ a ha. sym (k a ha)

  pub key_trans : (first : Bool) (p q r : ℕ) → Key g W base n first p q → Key g W base n first q r → Key g W base n first p r
  key_trans true p q r k l = words_trans p q r k l
  key_trans false p q r k l = λ a ha. k a ha ∙ l a ha

-- notes in the entries from lo to hi, after the class, leave keys
module _ (g : Grid) (W : List ℕ) (base n : ℕ) (ok : Ready g W base n) (X : List ℕ) (lo hi : ℕ) (from : 1 < lo) (to : hi ≤ FINAL) (kept : Kept g W X (Spare g base (base + n) lo hi)) where
  pub class_same : (q : ℕ) → class_of g X base q ≡ class_of g W base q
  class_same q = kept.same (base + q) g.tags CLASS (omega arith) (omega (arith, ok.room)) (λ i. omega (arith, i.3, from))

  pub key_on : (first : Bool) (p q : ℕ) → Key g W base n first p q → Key g X base n first p q
  key_on true p q k = rw (same-table g W base n ok X lo hi to kept) k
  key_on false p q k = rw (same-table g W base n ok X lo hi to kept) (λ a ha. class_same ((standing g W base n).next p a) ∙ k a ha ∙ sym (class_same ((standing g W base n).next q a)))

  pub key_back : (first : Bool) (p q : ℕ) → Key g X base n first p q → Key g W base n first p q
  key_back true p q k = rw (same-table g W base n ok X lo hi to kept) at k
  key_back false p q k = λ a ha. sym (class_same ((standing g W base n).next p a)) ∙ (rw (same-table g W base n ok X lo hi to kept) at k) a ha ∙ class_same ((standing g W base n).next q a)

  pub part_on : Partition g W base n → Partition g X base n
  part_on s =
      record {
        ready = ready-kept g W base n ok X lo hi to kept;
        early = rw (same-table g W base n ok X lo hi to kept) s.early;
        low = λ q h. omega (arith, class_same q, s.low q h);
        own = λ q h. class_same (class_of g X base q) ∙ ap (class_of g W base) (class_same q) ∙ s.own q h ∙ sym (class_same q);
        coarse = rw (same-table g W base n ok X lo hi to kept) (λ p q hp hq e. class_same p ∙ s.coarse p q hp hq e ∙ sym (class_same q));
      }

-- a test for all tags, tag by tag
pub all-next : (P : ℕ → Type 0) (i : ℕ) → ((b : ℕ) → b < i → P b) → P i → (b : ℕ) → b < i + 1 → P b
all-next P i all here b h = go (below_suc b i (omega arith))
  where
    go : (b < i) ⊎ (b ≡ i) → P b
    go (inl lt) = all b lt
    go (inr e) = subst P (sym e) here

-- the two kinds of key
module _ (g : Grid) (W : List ℕ) (base n p q : ℕ) where
  pub key_nexts : (first b : Bool) → first ≡ false → Decides b (Nexts g W base n p q) → Decides b (Key g W base n first p q)
  key_nexts first b e d = rw e d

  pub key_other : (first : Bool) → first ≡ true → ((standing g W base n).final p ≡ (standing g W base n).final q → ⊥) → Decides false (Key g W base n first p q)
  key_other first e never = rw e (decides_no (Words g W base n p q) (λ k. never k.0))

  pub key_words : (first b : Bool) → first ≡ true → (standing g W base n).final p ≡ (standing g W base n).final q
      → Decides b ((a : ℕ) → a < g.tags → (standing g W base n).output p a ≡ (standing g W base n).output q a) → Decides b (Key g W base n first p q)
  key_words first b e f d = rw e (record { so = λ t. (f, d.so t); not = λ t k. d.not t k.1 })
