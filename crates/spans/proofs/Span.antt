-- `first_difference` and `last_difference` are the first and the last differing place, and how loops find them.
use Prim.Native.Nat.{ℕ, zero, suc, ◌+◌, ◌-◌, ◌≤◌, ◌<◌}
use native.Mathlib.Omega.{arith}
use native.Mathlib.Numerals.{add-one}
use mathlib.Core.Path.{◌≡◌, refl, sym, ap, ◌∙◌, subst}
use mathlib.Core.Bool.{Bool, true, false}
use mathlib.Core.List.{List, [], ◌∷◌, ◌++◌}
use borrow.Author.Tests.{eq-eqb, ne_eqb, eqb-true, eqb-false}
use lib.Dec.{eqb}
use lib.ListN.{length, take, drop, get_or}
use lib.Seq.{take-suc, length-take-le}
use denote.Ref.{Bor}
use Rattle.spans.specs.Span.{first_difference, last_difference, Span, part, span, IsSpan}

-- ---- what they are

-- the words differ at i
abbrev pub Differ : List ℕ → List ℕ → ℕ → Type 0
Differ v w i = get_or v i 0 ≡ get_or w i 0 → ⊥

-- no place from i on at which they differ
abbrev pub SameFrom : List ℕ → List ℕ → ℕ → Type 0
SameFrom v w i = (j : ℕ) → i ≤ j → get_or v j 0 ≡ get_or w j 0

-- nor one before i
abbrev pub SameTo : List ℕ → List ℕ → ℕ → Type 0
SameTo v w i = (j : ℕ) → j < i → get_or v j 0 ≡ get_or w j 0

-- nothing differs: the words are the same
pub last_none : (v w : List ℕ) → length v ≡ length w → last_difference v w ≡ 0 → v ≡ w
last_none [] [] l e = refl
last_none [] (b ∷ w) l e = absurd (omega arith)
last_none (a ∷ v) [] l e = absurd (omega arith)
last_none (a ∷ v) (b ∷ w) l e = by (last_difference v w) refl (eqb a b) refl e (last_none v w (omega arith))
  where
    by : (n : ℕ) → last_difference v w ≡ n → (t : Bool) → eqb a b ≡ t
        → ◌≡◌ {A = ℕ} (elim n [ zero ↦ elim t [ true ↦ 0 | false ↦ 1 ] | suc m ↦ suc (suc m) ]) 0
        → (last_difference v w ≡ 0 → v ≡ w) → a ∷ v ≡ b ∷ w
    by zero f true g e h = cc (eqb-true a b g, h f)
    by zero f false g e h = absurd (omega arith)
    by (suc n) f t g e h = absurd (omega arith)

pub last-same : (w : List ℕ) → last_difference w w ≡ 0
last-same [] = refl
last-same (a ∷ w) = cc (last-same w, eq-eqb a a refl)

-- the last differing place: they differ there, and nowhere after it; the first one is not after it
pub record Ends (v w : List ℕ) (n : ℕ) : Type 0 where
  pub inside : n < length w
  pub differs : Differ v w n
  pub behind : SameFrom v w (suc n)
  pub reached : first_difference v w ≤ n

pub last-ends : (v w : List ℕ) (n : ℕ) → length v ≡ length w → last_difference v w ≡ suc n → Ends v w n
last-ends [] w n l e = absurd (omega arith)
last-ends (a ∷ v) [] n l e = absurd (omega arith)
last-ends (a ∷ v) (b ∷ w) n l e = by (last_difference v w) refl (eqb a b) refl e (last-ends v w)
  where
    shift : (m : ℕ) → Ends v w m → Ends (a ∷ v) (b ∷ w) (suc m)
    shift m h =
        record {
          inside = omega (arith, h.inside);
          differs = h.differs;
          behind = elim [ zero ↦ λ p. absurd (omega arith) | suc j ↦ λ p. h.behind j (omega arith) ];
          reached = earlier (eqb a b);
        }
      where
        earlier : (t : Bool) → elim t [ true ↦ suc (first_difference v w) | false ↦ 0 ] ≤ suc m
        earlier true = omega (arith, h.reached)
        earlier false = omega arith

    here : (eqb a b ≡ false) → last_difference v w ≡ 0 → Ends (a ∷ v) (b ∷ w) 0
    here g f =
        record {
          inside = omega arith;
          differs = eqb-false a b g;
          behind =
              elim [
                | zero ↦ λ p. absurd (omega arith)
                | suc j ↦ λ p. ap (λ (x : List ℕ). get_or x j 0) (last_none v w (omega arith) f)
              ];
          reached = let z : first_difference (a ∷ v) (b ∷ w) ≡ 0 = cc in omega arith;
        }

    by : (m : ℕ) → last_difference v w ≡ m → (t : Bool) → eqb a b ≡ t
        → ◌≡◌ {A = ℕ} (elim m [ zero ↦ elim t [ true ↦ 0 | false ↦ 1 ] | suc k ↦ suc (suc k) ]) (suc n)
        → ((m : ℕ) → length v ≡ length w → last_difference v w ≡ suc m → Ends v w m) → Ends (a ∷ v) (b ∷ w) n
    by zero f true g e h = absurd (omega arith)
    by zero f false g e h = let z : 0 ≡ n = omega arith in subst (Ends (a ∷ v) (b ∷ w)) z (here g f)
    by (suc m) f t g e h = let z : suc m ≡ n = omega arith in subst (Ends (a ∷ v) (b ∷ w)) z (shift m (h m (omega arith) f))

-- nothing differs before the first differing place
pub first-before : (v w : List ℕ) → SameTo v w (first_difference v w)
first-before [] w j h = absurd (omega arith)
first-before (a ∷ v) [] j h = absurd (omega arith)
first-before (a ∷ v) (b ∷ w) j h = by (eqb a b) refl j h (first-before v w)
  where
    by : (t : Bool) → eqb a b ≡ t → (j : ℕ) → j < elim t [ true ↦ suc (first_difference v w) | false ↦ 0 ]
        → ((j : ℕ) → j < first_difference v w → get_or v j 0 ≡ get_or w j 0) → get_or (a ∷ v) j 0 ≡ get_or (b ∷ w) j 0
    by true g zero h f = eqb-true a b g
    by true g (suc j) h f = f j (omega arith)
    by false g j h f = absurd (omega arith)

-- and they differ there, where they differ at all
pub first-differs : (v w : List ℕ) → length v ≡ length w → first_difference v w < length v → Differ v w (first_difference v w)
first-differs [] w l h = absurd (omega arith)
first-differs (a ∷ v) [] l h = absurd (omega arith)
first-differs (a ∷ v) (b ∷ w) l h = by (eqb a b) refl h (first-differs v w (omega arith))
  where
    by : (t : Bool) → eqb a b ≡ t → elim t [ true ↦ suc (first_difference v w) | false ↦ 0 ] < suc (length v)
        → (first_difference v w < length v → Differ v w (first_difference v w)) → Differ (a ∷ v) (b ∷ w) (elim t [ true ↦ suc (first_difference v w) | false ↦ 0 ])
    by true g h f = f (omega arith)
    by false g h f = eqb-false a b g

-- ---- how loops find them

snoc_same : (x y : List ℕ) (a b : ℕ) → length x ≡ length y → a ≡ b → last_difference (x ++ (a ∷ [])) (y ++ (b ∷ [])) ≡ last_difference x y
snoc_same [] [] a b l e = cc (eq-eqb a b e)
snoc_same [] (d ∷ y) a b l e = absurd (omega arith)
snoc_same (c ∷ x) [] a b l e = absurd (omega arith)
snoc_same (c ∷ x) (d ∷ y) a b l e = cc (snoc_same x y a b (omega arith) e)

snoc_other : (x y : List ℕ) (a b : ℕ) → length x ≡ length y → (a ≡ b → ⊥) → last_difference (x ++ (a ∷ [])) (y ++ (b ∷ [])) ≡ suc (length x)
snoc_other [] [] a b l d = cc (ne_eqb a b d)
snoc_other [] (c ∷ y) a b l d = absurd (omega arith)
snoc_other (c ∷ x) [] a b l d = absurd (omega arith)
snoc_other (c ∷ x) (e ∷ y) a b l d = cc (snoc_other x y a b (omega arith) d)

module _ (v w : List ℕ) (i : ℕ) (h : i < length v) (k : i < length w) where
  both_long : length (take i v) ≡ length (take i w)
  both_long = length-take-le i v (omega arith) ∙ sym (length-take-le i w (omega arith))

  pub last-here : Differ v w i → last_difference (take (i + 1) v) (take (i + 1) w) ≡ i + 1
  last-here d =
      cc (
        add-one i,
        take-suc v i 0 h,
        take-suc w i 0 k,
        snoc_other (take i v) (take i w) (get_or v i 0) (get_or w i 0) both_long d,
        length-take-le i v (omega arith),
      )

  pub last_on : get_or v i 0 ≡ get_or w i 0 → last_difference (take (i + 1) v) (take (i + 1) w) ≡ last_difference (take i v) (take i w)
  last_on e =
      cc (
        add-one i,
        take-suc v i 0 h,
        take-suc w i 0 k,
        snoc_same (take i v) (take i w) (get_or v i 0) (get_or w i 0) both_long e,
      )

-- the same for a loop that goes down from i
module _ (v w : List ℕ) (i : ℕ) (l : length v ≡ length w) (some : 0 < i) (h : i ≤ length v) where
  above : i - 1 + 1 ≡ i
  above = omega arith

  pub last_stop : Differ v w (i - 1) → last_difference (take i v) (take i w) ≡ i
  last_stop d = subst (λ (n : ℕ). last_difference (take n v) (take n w) ≡ n) above (last-here v w (i - 1) (omega arith) (omega arith) d)

  pub last-down : get_or v (i - 1) 0 ≡ get_or w (i - 1) 0 → last_difference (take i v) (take i w) ≡ last_difference (take (i - 1) v) (take (i - 1) w)
  last-down e =
      subst (λ (n : ℕ). last_difference (take n v) (take n w) ≡ last_difference (take (i - 1) v) (take (i - 1) w)) above
      (last_on v w (i - 1) (omega arith) (omega arith) e)

-- where they differ, the part lies within the result
pub span_inside : (v w : List ℕ) → length v ≡ length w → (last_difference v w ≡ 0 → ⊥) → (first_difference v w ≤ last_difference v w) × (last_difference v w ≤ length w)
span_inside v w l d = by (last_difference v w) refl
  where
    by : (n : ℕ) → last_difference v w ≡ n → (first_difference v w ≤ last_difference v w) × (last_difference v w ≤ length w)
    by zero e = absurd (d e)
    by (suc n) e = let h = last-ends v w n l e in (omega (arith, h.reached), omega (arith, h.inside))

-- ---- the cases of `span`

module _ (v w : List ℕ) where
  pub span_unequal : (length v ≡ length w → ⊥) → span v w ≡ part 0 0
  span_unequal d = cc (ne_eqb (length v) (length w) d)

-- ---- references to them

module _ (s m r : Bor (List ℕ)) where
  pub is-part : (from to i j : ℕ) → span s.now m.now ≡ part from to → i ≡ from → j ≡ to → r.ref_ptr.0 ≡ m.ref_ptr.0 → r.ref_ptr.1 ≡ i + m.ref_ptr.1
      → r.now ≡ take (j - i) (drop i m.now) → IsSpan s m (span s.now m.now) r
  is-part from to i j e f g p q h = subst (λ (x : Span). IsSpan s m x r) (sym e) (p, omega arith, cc)
