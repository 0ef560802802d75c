-- Laws of prefixes and of the longest common one.
use Prim.Native.Nat.{ℕ, ◌≤◌}
use native.Mathlib.Omega.{arith}
use mathlib.Core.Path.{◌≡◌, refl, sym, ap, ◌∙◌}
use mathlib.Core.Logic.{◌⊎◌, inl, inr}
use mathlib.Core.List.{List, [], ◌∷◌, ◌++◌, append_assoc, append-nil, append_cancel_left}
use mathlib.Core.Bool.{Bool, true, false, false≢true}
use lib.ListN.{length, drop, length-append}
use lib.Seq.{drop-append_seam}
use lib.Dec.{eqb}
use borrow.Author.Tests.{eqb-true, eq-eqb}
use Rattle.words.specs.Front.{meet, same_all}
use Rattle.words.specs.Word.{Prefix, equal, same}

pub begins_nil : (z : List ℕ) → Prefix [] z
begins_nil z = record { rest = z; split = refl }

pub begins_refl : (z : List ℕ) → Prefix z z
begins_refl z = record { rest = []; split = sym (append-nil z) }

pub begins_trans : {u v w : List ℕ} → Prefix u v → Prefix v w → Prefix u w
begins_trans {u} h g = record { rest = h.rest ++ g.rest; split = g.split ∙ ap (λ (l : List ℕ). l ++ g.rest) h.split ∙ append_assoc u h.rest g.rest }

pub begins_cons : {a : ℕ} {u v : List ℕ} → Prefix u v → Prefix (a ∷ u) (a ∷ v)
begins_cons {a} h = record { rest = h.rest; split = ap {B = List ℕ} (λ l. a ∷ l) h.split }

pub begins_uncons : {a b : ℕ} {u v : List ℕ} → Prefix (a ∷ u) (b ∷ v) → (b ≡ a) × Prefix u v
begins_uncons h = let e = h.split in (cc, record { rest = h.rest; split = cc })

pub begins_under : (o : List ℕ) {u v : List ℕ} → Prefix u v → Prefix (o ++ u) (o ++ v)
begins_under o {u} h = record { rest = h.rest; split = ap (λ (l : List ℕ). o ++ l) h.split ∙ sym (append_assoc o u h.rest) }

pub begins_length : {u v : List ℕ} → Prefix u v → length u ≤ length v
begins_length {u} h = omega (arith, simp length-append at (ap length h.split))

-- a prefix as long as the word is the word
pub begins_whole : {u v : List ℕ} → Prefix u v → length v ≤ length u → u ≡ v
begins_whole {u = []} {v = []} h le = refl
begins_whole {u = []} {v = b ∷ v} h le = absurd (omega arith)
begins_whole {u = a ∷ u} {v = []} h le = let e = h.split in let z : ◌≡◌ {A = ℕ} 0 1 = cc in absurd (omega arith)
begins_whole {u = a ∷ u} {v = b ∷ v} h le = let g = begins_uncons h in cc (g.0, begins_whole g.1 (omega arith))

pub begins_drop : {u v : List ℕ} → Prefix u v → u ++ drop (length u) v ≡ v
begins_drop {u} h = rw (h.split, drop-append_seam)

-- a prefix of o and w is one of o, or o and a prefix of w
pub begins_either : (o z w : List ℕ) → Prefix z (o ++ w) → Prefix z o ⊎ ((y : List ℕ) × (z ≡ o ++ y))
begins_either [] z w h = inr (z, refl)
begins_either (a ∷ o) [] w h = inl (begins_nil (a ∷ o))
begins_either (a ∷ o) (b ∷ z) w h = go (begins_uncons h).0 (begins_either o z w (begins_uncons h).1)
  where
    go : a ≡ b → Prefix z o ⊎ ((y : List ℕ) × (z ≡ o ++ y)) → Prefix (b ∷ z) (a ∷ o) ⊎ ((y : List ℕ) × (b ∷ z ≡ a ∷ (o ++ y)))
    go g (inl p) = inl (rw g (begins_cons p))
    go g (inr p) = inr (p.0, cc (g, p.1))

pub begins_cancel : (o u v : List ℕ) → Prefix (o ++ u) (o ++ v) → Prefix u v
begins_cancel o u v h = record { rest = h.rest; split = append_cancel_left o v (u ++ h.rest) (h.split ∙ append_assoc o u h.rest) }

pub meet_left : (u v : List ℕ) → Prefix (meet u v) u
meet_left [] v = begins_nil []
meet_left (a ∷ u) [] = begins_nil (a ∷ u)
meet_left (a ∷ u) (b ∷ v) = go (eqb a b) (meet_left u v)
  where
    go : (t : Bool) → Prefix (meet u v) u → Prefix (elim t [ true ↦ a ∷ meet u v | false ↦ [] ]) (a ∷ u)
    go true h = begins_cons h
    go false h = begins_nil (a ∷ u)

pub meet_right : (u v : List ℕ) → Prefix (meet u v) v
meet_right [] v = begins_nil v
meet_right (a ∷ u) [] = begins_nil []
meet_right (a ∷ u) (b ∷ v) = go (eqb a b) refl (meet_right u v)
  where
    go : (t : Bool) → eqb a b ≡ t → Prefix (meet u v) v → Prefix (elim t [ true ↦ a ∷ meet u v | false ↦ [] ]) (b ∷ v)
    go true e h = rw (eqb-true a b e) (begins_cons h)
    go false e h = begins_nil (b ∷ v)

pub meet_greatest : (z u v : List ℕ) → Prefix z u → Prefix z v → Prefix z (meet u v)
meet_greatest [] u v hu hv = begins_nil (meet u v)
meet_greatest (c ∷ z) [] v hu hv = hu
meet_greatest (c ∷ z) (a ∷ u) [] hu hv = hv
meet_greatest (c ∷ z) (a ∷ u) (b ∷ v) hu hv = rw (eq-eqb a b (hu'.0 ∙ sym hv'.0), meet, hu'.0) (begins_cons (meet_greatest z u v hu'.1 hv'.1))
  where
    hu' : (a ≡ c) × Prefix z u
    hu' = begins_uncons hu

    hv' : (b ≡ c) × Prefix z v
    hv' = begins_uncons hv

module _ {A : Type 0} (test : A → A → Bool) where
  equal_refl : ((a : A) → test a a ≡ true) → (u : List A) → equal test u u ≡ true
  equal_refl h [] = refl
  equal_refl h (a ∷ u) = rw (h a, equal) (equal_refl h u)

  equal_true : ((a b : A) → test a b ≡ true → a ≡ b) → (u v : List A) → equal test u v ≡ true → u ≡ v
  equal_true h [] [] e = refl
  equal_true h [] (b ∷ v) e = absurd (false≢true e)
  equal_true h (a ∷ u) [] e = absurd (false≢true e)
  equal_true h (a ∷ u) (b ∷ v) e = go (test a b) refl e (equal_true h u v)
    where
      go : (t : Bool) → test a b ≡ t → elim t [ true ↦ equal test u v | false ↦ false ] ≡ true → (equal test u v ≡ true → u ≡ v) → a ∷ u ≡ b ∷ v
      go true d e rest = cc (h a b d, rest e)
      go false d e rest = absurd (false≢true e)

pub same_all_refl : (l : List (List ℕ)) → same_all l l ≡ true
same_all_refl = equal_refl same (equal_refl eqb (λ a. eq-eqb a a refl))

pub same_all_true : (l m : List (List ℕ)) → same_all l m ≡ true → l ≡ m
same_all_true = equal_true same (equal_true eqb eqb-true)
