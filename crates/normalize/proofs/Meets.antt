-- The common front of a front and an output with another front, from the words' parts.
use Prim.Native.Nat.{ℕ, zero, suc, ◌+◌, ◌-◌, ◌≤◌, ◌<◌, min}
use native.Mathlib.Omega.{arith}
use native.Mathlib.Decide.{dec_le}
use mathlib.Core.Path.{◌≡◌, refl, sym, ap, ◌∙◌}
use mathlib.Core.Bool.{Bool, true, false}
use mathlib.Core.List.{List, [], ◌∷◌, ◌++◌}
use lib.Dec.{eqb}
use lib.ListN.{length, take, drop, length-take, take-append-drop}
use lib.Seq.{take-length, take-append-le, take-append-add, take-append_seam, take-take, take_all}
use Rattle.words.specs.Front.{meet}
use Rattle.words.specs.Word.{Prefix}

meet_nil : (u : List ℕ) → meet u [] ≡ []
meet_nil [] = refl
meet_nil (a ∷ u) = refl

meet-take : (f : ℕ) (u v : List ℕ) → meet (take f u) v ≡ meet u (take f v)
meet-take zero u v = sym (meet_nil u)
meet-take (suc f) [] v = refl
meet-take (suc f) (a ∷ u) [] = refl
meet-take (suc f) (a ∷ u) (b ∷ v) = by (eqb a b) (meet-take f u v)
  where
    by : (c : Bool) → meet (take f u) v ≡ meet u (take f v)
        → ◌≡◌ {A = List ℕ} (elim c [ true ↦ a ∷ meet (take f u) v | false ↦ [] ]) (elim c [ true ↦ a ∷ meet u (take f v) | false ↦ [] ])
    by true on = ap {B = List ℕ} (λ l. a ∷ l) on
    by false on = refl

-- a mismatch within o
meet_stop : (x o y : List ℕ) → length (meet x o) < length o → meet x (o ++ y) ≡ meet x o
meet_stop x [] y h = absurd (omega arith)
meet_stop [] (b ∷ o) y h = refl
meet_stop (a ∷ x) (b ∷ o) y h = by (eqb a b) (meet_stop x o y) h
  where
    by : (c : Bool) → (length (meet x o) < length o → meet x (o ++ y) ≡ meet x o) → length {A = ℕ} (elim c [ true ↦ a ∷ meet x o | false ↦ [] ]) < suc (length o)
        → ◌≡◌ {A = List ℕ} (elim c [ true ↦ a ∷ meet x (o ++ y) | false ↦ [] ]) (elim c [ true ↦ a ∷ meet x o | false ↦ [] ])
    by true on lt = ap {B = List ℕ} (λ l. a ∷ l) (on (omega arith))
    by false on lt = refl

-- none within o
meet_through : (x o y : List ℕ) → length o ≤ length (meet x o) → length (meet x (o ++ y)) ≡ length o + length (meet (drop (length o) x) y)
meet_through x [] y h = omega arith
meet_through [] (b ∷ o) y h = absurd (omega arith)
meet_through (a ∷ x) (b ∷ o) y h = by (eqb a b) (meet_through x o y) h
  where
    by : (c : Bool) → (length o ≤ length (meet x o) → length (meet x (o ++ y)) ≡ length o + length (meet (drop (length o) x) y)) → suc (length o) ≤ length {A = ℕ} (elim c [ true ↦ a ∷ meet x o | false ↦ [] ])
        → length {A = ℕ} (elim c [ true ↦ a ∷ meet x (o ++ y) | false ↦ [] ]) ≡ suc (length o) + length (meet (drop (length o) x) y)
    by true on le = omega (arith, on (omega arith))
    by false on le = absurd (omega arith)

take_lesser : (a b : ℕ) (x : List ℕ) → take a (take b x) ≡ take (min a b) x
take_lesser a b x = by (dec_le a b)
  where
    by : Dec (a ≤ b) → take a (take b x) ≡ take (min a b) x
    by (yes h) = let e : a ≡ min a b = omega arith in take-take a b x h ∙ ap (λ (i : ℕ). take i x) e
    by (no h) = let e : b ≡ min a b = omega arith in take_all a (take b x) (omega (arith, length-take b x)) ∙ ap (λ (i : ℕ). take i x) e

module _ (f : ℕ) (x o z : List ℕ) where
  pub meet-short : f ≤ length o → length (meet (drop 0 x) (take f o)) ≡ length (meet (take f x) (o ++ z))
  meet-short h = ap length (sym (meet-take f x (o ++ z) ∙ ap (meet x) (take-append-le f o z h)))

  long : length o ≤ f → meet (take f x) (o ++ z) ≡ meet x (o ++ take (f - length o) z)
  long h =
      let e : f ≡ length o + (f - length o) = omega arith in
      meet-take f x (o ++ z) ∙ ap (meet x) (ap (λ (i : ℕ). take i (o ++ z)) e ∙ take-append-add o z (f - length o))

  pub meet-stops : length o ≤ f → length (meet (drop 0 x) (take (length o) o)) < length o
      → length (meet (drop 0 x) (take (length o) o)) ≡ length (meet (take f x) (o ++ z))
  meet-stops h lt =
      let whole = ap (meet x) (take-length o) in
      ap length (whole ∙ sym (long h ∙ meet_stop x o (take (f - length o) z) (omega (arith, ap length whole))))

pub meet-goes : (f m : ℕ) (x o y : List ℕ) → length o ≤ f → length o ≤ length (meet (drop 0 x) (take (length o) o))
    → length o + length (meet (drop (length o) x) (take (min (f - length o) m) y)) ≡ length (meet (take f x) (o ++ take m y))
meet-goes f m x o y h le =
    let whole = ap (meet x) (take-length o) in
    sym (ap length (long f x o (take m y) h) ∙ meet_through x o (take (f - length o) (take m y)) (omega (arith, ap length whole))
    ∙ ap (λ (l : List ℕ). length o + length (meet (drop (length o) x) l)) (take_lesser (f - length o) m y))

-- a prefix is the front of its length
pub prefix-take : {p x : List ℕ} → Prefix p x → take (length p) x ≡ p
prefix-take {p} {x} h = ap (take (length p)) h.split ∙ take-append_seam p h.rest

pub take-prefix : (f : ℕ) (x : List ℕ) → Prefix (take f x) x
take-prefix f x = record { rest = drop f x; split = sym (take-append-drop f x) }
