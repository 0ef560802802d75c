-- Words whose tags are all below k; what is left of a list; the test for a prefix; equality as a test.
use Prim.Native.Nat.{ℕ, zero, suc, ◌+◌, ◌≤◌, ◌<◌}
use native.Mathlib.Omega.{arith}
use native.Mathlib.Decide.{dec_lt}
use native.Mathlib.Numerals.{add-one}
use mathlib.Core.Logic.{◌⊎◌, inl, inr}
use mathlib.Core.Path.{◌≡◌, refl, sym, ap, ◌∙◌}
use mathlib.Core.List.{List, [], ◌∷◌, ◌++◌}
use mathlib.Core.Bool.{Bool, true, false, false≢true}
use lib.ListN.{length, take, drop, get_or, set, take-append-drop, length-append}
use lib.Dec.{eqb}
use lib.Seq.{drop-cons, take-append_seam}
use borrow.Author.Tests.{eqb-true, eq-eqb, ne_eqb}
use Rattle.words.specs.Word.{Below, prefix}

-- a number below n + 1 is below n or is n
pub below_suc : (i n : ℕ) → i < suc n → (i < n) ⊎ (i ≡ n)
below_suc i n h = by (dec_lt i n)
  where
    by : Dec (i < n) → (i < n) ⊎ (i ≡ n)
    by (yes lt) = inl lt
    by (no nlt) = inr (omega arith)

-- the first of what is left of a list, and the rest
pub drop-step : {A : Type 0} (l : List A) (i : ℕ) (d : A) → i < length l → drop i l ≡ get_or l i d ∷ drop (i + 1) l
drop-step l i d h = drop-cons l i d h ∙ ap (λ (j : ℕ). get_or l i d ∷ drop j l) (sym (add-one i))

-- below k, and so below every greater number
pub below_mono : (k m : ℕ) (w : List ℕ) → k ≤ m → Below k w → Below m w
below_mono k m [] h b = tt
below_mono k m (a ∷ w) h b = (omega (arith, b.0), below_mono k m w h b.1)

pub below-append : (k : ℕ) (u v : List ℕ) → Below k u → Below k v → Below k (u ++ v)
below-append k [] v hu hv = hv
below-append k (a ∷ u) v hu hv = (hu.0, below-append k u v hu.1 hv)

pub below_left : (k : ℕ) (u v : List ℕ) → Below k (u ++ v) → Below k u
below_left k [] v h = tt
below_left k (a ∷ u) v h = (h.0, below_left k u v h.1)

pub below_right : (k : ℕ) (u v : List ℕ) → Below k (u ++ v) → Below k v
below_right k [] v h = h
below_right k (a ∷ u) v h = below_right k u v h.1

pub below-take : (k n : ℕ) (u : List ℕ) → Below k u → Below k (take n u)
below-take k n u h = below_left k (take n u) (drop n u) (rw take-append-drop h)

pub below-drop : (k n : ℕ) (u : List ℕ) → Below k u → Below k (drop n u)
below-drop k n u h = below_right k (take n u) (drop n u) (rw take-append-drop h)

pub below_set : (k : ℕ) (u : List ℕ) (i a : ℕ) → a < k → Below k u → Below k (set u i a)
below_set k [] i a h b = tt
below_set k (c ∷ u) zero a h b = (h, b.1)
below_set k (c ∷ u) (suc i) a h b = (b.0, below_set k u i a h b.1)

pub below_at : (k : ℕ) (u : List ℕ) (i : ℕ) → i < length u → Below k u → get_or u i 0 < k
below_at k [] i h b = absurd (omega arith)
below_at k (a ∷ u) zero h b = b.0
below_at k (a ∷ u) (suc i) h b = below_at k u i (omega arith) b.1

-- a word is a prefix of itself and what follows
pub prefix-append : (u y : List ℕ) → prefix u (u ++ y) ≡ true
prefix-append [] y = refl
prefix-append (a ∷ u) y = rw (eq-eqb a a refl, prefix) (prefix-append u y)

-- a front of a word is a prefix of it
pub prefix-front : (n : ℕ) (u : List ℕ) → prefix (take n u) u ≡ true
prefix-front n u = ap (prefix (take n u)) (sym (take-append-drop n u)) ∙ prefix-append (take n u) (drop n u)

-- one tag more of a prefix
same_tag : (a b : ℕ) (u w : List ℕ) → a ≡ b → prefix (a ∷ u) (b ∷ w) ≡ prefix u w
same_tag a b u w e = cc (eq-eqb a b e)

other_tag : (a b : ℕ) (u w : List ℕ) → (a ≡ b → ⊥) → prefix (a ∷ u) (b ∷ w) ≡ false
other_tag a b u w e = cc (ne_eqb a b e)

module _ (t u : List ℕ) (i j : ℕ) (hi : i < length t) (hj : j < length u) where
  pub prefix-next : get_or t i 0 ≡ get_or u j 0 → prefix (drop i t) (drop j u) ≡ prefix (drop (i + 1) t) (drop (j + 1) u)
  prefix-next e =
      rw (add-one i, add-one j, drop-cons t i 0 hi, drop-cons u j 0 hj) (same_tag (get_or t i 0) (get_or u j 0) (drop (suc i) t) (drop (suc j) u) e)

  pub prefix-stops : (get_or t i 0 ≡ get_or u j 0 → ⊥) → prefix (drop i t) (drop j u) ≡ false
  prefix-stops e = rw (drop-cons t i 0 hi, drop-cons u j 0 hj) (other_tag (get_or t i 0) (get_or u j 0) (drop (suc i) t) (drop (suc j) u) e)

-- a prefix stands at the front
pub prefix-split : (u w : List ℕ) → prefix u w ≡ true → w ≡ u ++ drop (length u) w
prefix-split [] w h = refl
prefix-split (a ∷ u) [] h = absurd (false≢true h)
prefix-split (a ∷ u) (b ∷ w) h = go (eqb a b) refl h (prefix-split u w)
  where
    go : (t : Bool) → eqb a b ≡ t → elim t [ true ↦ prefix u w | false ↦ false ] ≡ true → (prefix u w ≡ true → w ≡ u ++ drop (length u) w)
        → b ∷ w ≡ a ∷ (u ++ drop (length u) w)
    go true e h rest = cc (eqb-true a b e, rest h)
    go false e h rest = absurd (false≢true h)

-- a front of a prefix is one
pub prefix-left : (z w u : List ℕ) → prefix (z ++ w) u ≡ true → prefix z u ≡ true
prefix-left [] w u e = refl
prefix-left (a ∷ z) w [] e = e
prefix-left (a ∷ z) w (b ∷ u) e = by (eqb a b) (prefix-left z w u) e
  where
    by : (c : Bool) → (prefix (z ++ w) u ≡ true → prefix z u ≡ true) → elim c [ true ↦ prefix (z ++ w) u | false ↦ false ] ≡ true → elim c [ true ↦ prefix z u | false ↦ false ] ≡ true
    by true f e = f e
    by false f e = e

-- a prefix is a front
pub prefix-take : (z u : List ℕ) → prefix z u ≡ true → z ≡ take (length z) u
prefix-take z u e = sym (ap (take (length z)) (prefix-split z u e) ∙ take-append_seam z (drop (length z) u))

pub prefix-length : (u w : List ℕ) → prefix u w ≡ true → length u ≤ length w
prefix-length u w h = omega (arith, simp length-append at (ap length (prefix-split u w h)))
