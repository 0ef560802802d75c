-- Sets of tags: their six bytes, and patterns with sets, as lists and in rows.
use Prim.Native.Nat.{ℕ, zero, suc, ◌+◌, ◌*◌, ◌/◌, ◌%◌, ◌^◌, ◌<◌}
use native.Mathlib.Omega.{arith}
use native.Mathlib.Nat.{pow-suc, pow-succ', div-one, div-add-mod', div-div-eq-div-mul, div-eq_of_lt}
use mathlib.Core.Path.{◌≡◌, refl, sym, ap, ap₂, ◌∙◌}
use mathlib.Core.Bool.{Bool, true, false, false≢true}
use mathlib.Core.List.{List, [], ◌∷◌, ◌++◌}
use lib.Arith.{digits_div, digits_mod}
use lib.Dec.{eqb}
use lib.ListN.{length, take}
use lib.Seq.{take-nil}
use Rattle.cascades.specs.Pattern.{Class, one, any, some_set, word, plain}
use Rattle.cascades.specs.Rule.{SetsBelow}
use Rattle.cascades.specs.Value.{class_of, places, last_set}
use Rattle.cascades.proofs.Pattern.{last_none}
use Rattle.books.specs.Book.{bytes_of}

-- ---- the bytes of a number

-- one more byte
pub bytes_snoc : (n s b : ℕ) → b < 0x100 → bytes_of (suc n) (s * 0x100 + b) ≡ bytes_of n s ++ (b ∷ [])
bytes_snoc zero s b h = ap (λ (x : ℕ). x ∷ []) (ap (λ (x : ℕ). x % 0x100) (div-one (s * 0x100 + b)) ∙ digits_mod s h)
bytes_snoc (suc n) s b h = ap₂ (λ (x : ℕ) (l : List ℕ). x % 0x100 ∷ l) high (bytes_snoc n s b h)
  where
    high : (s * 0x100 + b) / 0x100 ^ suc n ≡ s / 0x100 ^ n
    high =
        ap (λ (x : ℕ). (s * 0x100 + b) / x) (pow-succ' 0x100 n)
        ∙ sym (div-div-eq-div-mul (s * 0x100 + b) 0x100 (0x100 ^ n))
        ∙ ap (λ (x : ℕ). x / 0x100 ^ n) (digits_div s h)

-- the bytes before a byte, and that byte
pub byte_next : (s n : ℕ) → s / 0x100 ^ suc n * 0x100 + s / 0x100 ^ n % 0x100 ≡ s / 0x100 ^ n
byte_next s n =
    ap (λ (x : ℕ). x * 0x100 + s / 0x100 ^ n % 0x100) (ap (λ (x : ℕ). s / x) (pow-suc 0x100 n) ∙ sym (div-div-eq-div-mul s (0x100 ^ n) 0x100))
    ∙ div-add-mod' (s / 0x100 ^ n) 0x100

-- n bytes make a number below 256 ^ n
pub byte_more : (n s b : ℕ) → s < 0x100 ^ n → b < 0x100 → s * 0x100 + b < 0x100 ^ suc n
byte_more n s b h small = omega (arith, pow-suc 0x100 n)

-- nothing is before a set's six
pub six_enough : (s : ℕ) → s < 2 ^ 48 → s / 0x100 ^ 6 ≡ 0
six_enough s h = div-eq_of_lt (omega arith)

-- ---- patterns

pub word-append : (u v : List Class) → word (u ++ v) ≡ word u ++ word v
word-append [] v = refl
word-append (one a ∷ u) v = ap (λ (x : List ℕ). a ∷ x) (word-append u v)
word-append (any s ∷ u) v = ap (λ (x : List ℕ). 0 ∷ x) (word-append u v)

pub sets-append : (k : ℕ) (u v : List Class) → SetsBelow k u → SetsBelow k v → SetsBelow k (u ++ v)
sets-append k [] v h g = g
sets-append k (one a ∷ u) v h g = sets-append k u v h g
sets-append k (any s ∷ u) v h g = (h.0, h.1, h.2, sets-append k u v h.3 g)

pub plain-append : (u v : List ℕ) → plain (u ++ v) ≡ plain u ++ plain v
plain-append [] v = refl
plain-append (a ∷ u) v = ap (λ (x : List Class). one a ∷ x) (plain-append u v)

-- where the last set is, with one more place
some-tag : (u : List Class) (a : ℕ) → some_set (u ++ (one a ∷ [])) ≡ some_set u
some-tag [] a = refl
some-tag (one b ∷ u) a = some-tag u a
some-tag (any s ∷ u) a = refl

some-set : (u : List Class) (s : ℕ) → some_set (u ++ (any s ∷ [])) ≡ true
some-set [] s = refl
some-set (one b ∷ u) s = some-set u s
some-set (any t ∷ u) s = refl

abbrev last_by : Bool → ℕ → ℕ
last_by b n = elim b [ true ↦ suc n | false ↦ 0 ]

pub last-tag : (u : List Class) (a : ℕ) → last_set (u ++ (one a ∷ [])) ≡ last_set u
last-tag [] a = refl
last-tag (c ∷ u) a = ap₂ last_by (some-tag (c ∷ u) a) (last-tag u a)

pub last_set_lem : (u : List Class) (s : ℕ) → last_set (u ++ (any s ∷ [])) ≡ suc (length u)
last_set_lem [] s = refl
last_set_lem (c ∷ u) s = ap₂ last_by (some-set (c ∷ u) s) (last_set_lem u s)

-- ---- patterns in rows

pub places_snoc : (u ss : List ℕ) (a s : ℕ) → length u ≡ length ss → places (u ++ (a ∷ [])) (ss ++ (s ∷ [])) ≡ places u ss ++ (class_of a s ∷ [])
places_snoc [] [] a s h = refl
places_snoc [] (t ∷ ss) a s h = absurd (omega arith)
places_snoc (b ∷ u) [] a s h = absurd (omega arith)
places_snoc (b ∷ u) (t ∷ ss) a s h = ap (λ (x : List Class). class_of b t ∷ x) (places_snoc u ss a s (omega arith))

-- no set is needed behind the last one
pub places-cut : (u ss : List ℕ) → places u (take (last_set (places u ss)) ss) ≡ places u ss
places-cut [] ss = refl
places-cut (a ∷ u) [] = ap (places (a ∷ u)) (take-nil (last_set (places (a ∷ u) [])))
places-cut (a ∷ u) (s ∷ ss) = by (some_set (class_of a s ∷ places u ss)) refl (places-cut u ss)
  where
    none : (z : Bool) → some_set (elim z as (λ x. Class) [ true ↦ one a | false ↦ any s ] ∷ places u ss) ≡ false → places u (take (last_set (places u ss)) ss) ≡ places u ss
        → ◌≡◌ {A = List Class} (one a ∷ places u []) (elim z as (λ x. Class) [ true ↦ one a | false ↦ any s ] ∷ places u ss)
    none true e rest = ap (λ (x : List Class). one a ∷ x) (ap (λ (n : ℕ). places u (take n ss)) (sym (last_none (places u ss) e)) ∙ rest)
    none false e rest = absurd (false≢true (sym e))

    by : (t : Bool) → some_set (class_of a s ∷ places u ss) ≡ t → places u (take (last_set (places u ss)) ss) ≡ places u ss
        → places (a ∷ u) (take (last_by t (last_set (places u ss))) (s ∷ ss)) ≡ class_of a s ∷ places u ss
    by true e rest = ap (λ (x : List Class). class_of a s ∷ x) rest
    by false e rest = none (eqb s 0) e rest
