-- The search, place by place and many places at once.
use Prim.Native.Nat.{ℕ, ◌+◌, ◌-◌, ◌≤◌, ◌<◌, min}
use native.Mathlib.Omega.{arith}
use native.Mathlib.Decide.{dec_lt}
use mathlib.Core.Path.{◌≡◌, refl, sym, ap, ◌∙◌, subst}
use mathlib.Core.Bool.{Bool, true, false, false≢true, ◌&&◌, ◌||◌}
use mathlib.Core.List.{List, [], ◌∷◌}
use lib.ListN.{length, drop, get_or, get_or-append}
use lib.Dec.{eqb}
use lib.Seq.{get_or-drop}
use native.Mathlib.Nat.{add-zero}
use borrow.Author.Tests.{eq-eqb}
use Rattle.words.specs.Word.{prefix}
use Rattle.words.proofs.Word.{prefix-split}
use Rattle.places.specs.Places.{All, Free}

-- ---- the test at a place

pub prefix-short : (u w : List ℕ) → length w < length u → prefix u w ≡ false
prefix-short [] w h = absurd (omega arith)
prefix-short (a ∷ u) [] h = refl
prefix-short (a ∷ u) (b ∷ w) h = test (eqb a b) (prefix-short u w (omega arith))
  where
    test : (t : Bool) → prefix u w ≡ false → elim t [ true ↦ prefix u w | false ↦ false ] ≡ false
    test true e = e
    test false e = refl

-- ---- places one by one

module _ (P : ℕ → Type 0) where
  pub all_none : (a b : ℕ) → b ≤ a → All P a b
  all_none a b h i k l = absurd (omega arith)

  pub all_then : (a b c : ℕ) → All P a b → All P b c → All P a c
  all_then a b c f g i x y = by (dec_lt i b)
    where
      by : Dec (i < b) → P i
      by (yes l) = f i x l
      by (no l) = g i (omega arith) y

  pub all_one : (a : ℕ) → P a → All P a (a + 1)
  all_one a p i k l = let e : a ≡ i = omega arith in subst P e p

  pub all_more : (a i : ℕ) → All P a i → P i → All P a (i + 1)
  all_more a i f p = all_then a i (i + 1) f (all_one i p)

  -- a block of n places that begins at i, or that ends at b
  pub all_block : (a i b f n : ℕ) → n ≤ b → f ≡ min i (b - n) → All P a (min i b) → All P f (f + n) → All P a (min (i + n) b)
  all_block a i b f n h e p q k x y = by (dec_lt k i)
    where
      by : Dec (k < i) → P k
      by (yes d) = p k x (omega arith)
      by (no d) = q k (omega arith) (omega arith)

-- ---- the places at which u does not begin

module _ (u s : List ℕ) where
  -- where u begins, each of its tags stands
  tag-there : (i j : ℕ) → j < length u → prefix u (drop i s) ≡ true → get_or s (i + j) 0 ≡ get_or u j 0
  tag-there i j h e =
      sym (get_or-drop i s j 0) ∙ ap (λ (l : List ℕ). get_or l j 0) (prefix-split u (drop i s) e) ∙ get_or-append u (drop (length u) (drop i s)) 0 j h

  -- one of its tags does not stand there
  pub tag-other : (i j : ℕ) → j < length u → (get_or s (i + j) 0 ≡ get_or u j 0 → ⊥) → prefix u (drop i s) ≡ false
  tag-other i j h d = by (prefix u (drop i s)) refl
    where
      by : (b : Bool) → prefix u (drop i s) ≡ b → prefix u (drop i s) ≡ false
      by true e = absurd (d (tag-there i j h e))
      by false e = e

  -- the first one
  pub first-other : (i : ℕ) → 0 < length u → (get_or s i 0 ≡ get_or u 0 0 → ⊥) → prefix u (drop i s) ≡ false
  first-other i h d = tag-other i 0 h (λ e. d (rw add-zero at e))

  -- one place more of those that are looked at at once: not all of its first, its last and, where they look closer, its second tag stand there
  module _ (a j w v : ℕ) (hw : w < length u) (hv : v < length u) (wide : Bool) where
    abbrev Seen : Bool
    Seen =
        eqb (get_or s (a + j) 0) (get_or u 0 0) && eqb (get_or s (a + j + w) 0) (get_or u w 0) && (wide || eqb (get_or s (a + j + v) 0) (get_or u v 0))

    -- where u begins, they do
    seen : prefix u (drop (a + j) s) ≡ true → Seen ≡ true
    seen e =
        all (eq-eqb _ _ (rw add-zero at (tag-there (a + j) 0 (omega arith) e)))
        (eq-eqb _ _ (tag-there (a + j) w hw e)) (eq-eqb _ _ (tag-there (a + j) v hv e)) wide
      where
        all : {x y z : Bool} → x ≡ true → y ≡ true → z ≡ true → (b : Bool) → (x && y && (b || z)) ≡ true
        all f g h true = cc
        all f g h false = cc

    pub may_more : (may : Bool) → (may ≡ false → Free u s a (a + j)) → (may || Seen) ≡ false → Free u s a (a + (j + 1))
    may_more true f e = absurd (false≢true (sym e))
    may_more false f e = let n : a + j + 1 ≡ a + (j + 1) = omega arith in subst (Free u s a) n (all_more _ a (a + j) (f refl) (by (prefix u (drop (a + j) s)) refl))
      where
        by : (b : Bool) → prefix u (drop (a + j) s) ≡ b → prefix u (drop (a + j) s) ≡ false
        by true h = absurd (false≢true (sym e ∙ seen h))
        by false h = h
