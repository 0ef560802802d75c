-- A word's number gives the word.
use Prim.Native.Nat.{ℕ, ◌+◌, ◌*◌, ◌/◌, ◌%◌, ◌≤◌, ◌<◌}
use native.Mathlib.Omega.{arith}
use mathlib.Core.Path.{◌≡◌, refl, ap, ap₂, subst}
use mathlib.Core.Bool.{Bool, true, false}
use mathlib.Core.List.{List, [], ◌∷◌, map}
use borrow.Author.Tests.{le-leb, lt-leb}
use lib.ListN.{length, take, drop}
use Rattle.words.specs.Word.{Below}
use Rattle.answers.specs.Outcome.{result}
use Rattle.loaded.specs.Numbers.{entry, behind}
use Rattle.loaded.specs.Run.{byte_of, word_of}

bytes_same : (w : List ℕ) → Below 0x100 w → map byte_of w ≡ w
bytes_same [] b = refl
bytes_same (a ∷ w) b = ap₂ {C = List ℕ} (λ (x : ℕ) (l : List ℕ). x ∷ l) (let e : a % 0x100 ≡ a = omega (arith, b.0) in e) (bytes_same w b.1)

-- a short word, by the bytes of its number
word-short : (ns : List ℕ) (e n a b c : ℕ) → byte_of e ≡ n → n ≤ 3 → byte_of (e / 0x100) ≡ a → byte_of (e / 0x10000) ≡ b → byte_of (e / 0x1000000) ≡ c
    → word_of ns e ≡ result (take n (a ∷ b ∷ c ∷ []))
word-short ns e n a b c hn le ha hb hc = cc (hn, ha, hb, hc, le-leb n 3 le)

-- a longer one, by the numbers at its place
word-long : (ns : List ℕ) (e n p : ℕ) (w : List ℕ) → byte_of e ≡ n → 3 < n → e / 0x100 ≡ p → p + n ≤ length ns → take n (drop p ns) ≡ w
    → Below 0x100 w → word_of ns e ≡ result w
word-long ns e n p w hn lt hp room is small = cc (hn, hp, lt-leb n 3 lt, le-leb (p + n) (length ns) room, is, bytes_same w small)

-- the tags that stand behind the rows stand at the place
pub record At (ns : List ℕ) (p : ℕ) (w : List ℕ) : Type 0 where
  pub inside : p + length w ≤ length ns
  pub is : take (length w) (drop p ns) ≡ w

pub word-entry : (ns : List ℕ) (p : ℕ) (w : List ℕ) → Below 0x100 w → length w < 0x100 → At ns p (behind w) → word_of ns (entry p w) ≡ result w
word-entry ns p [] b l h = refl
word-entry ns p (x ∷ []) b l h = word-short ns (1 + 0x100 * x) 1 x 0 0 (omega arith) (omega arith) (omega (arith, b.0)) (omega (arith, b.0)) (omega (arith, b.0))
word-entry ns p (x ∷ y ∷ []) b l h =
    word-short ns (2 + 0x100 * x + 0x10000 * y) 2 x y 0 (omega arith) (omega arith) (omega (arith, b.0, b.1.0)) (omega (arith, b.0, b.1.0)) (omega (arith, b.0, b.1.0))
word-entry ns p (x ∷ y ∷ z ∷ []) b l h =
    word-short ns (3 + 0x100 * x + 0x10000 * y + 0x1000000 * z) 3 x y z (omega arith) (omega arith) (omega (arith, b.0, b.1.0, b.1.1.0))
    (omega (arith, b.0, b.1.0, b.1.1.0)) (omega (arith, b.0, b.1.0, b.1.1.0))
word-entry ns p (x ∷ y ∷ z ∷ u ∷ w) b l h =
    let v : List ℕ = x ∷ y ∷ z ∷ u ∷ w in
    let e : behind v ≡ v = ap (λ (t : Bool). elim t as (λ s. List ℕ) [ true ↦ [] | false ↦ v ]) (lt-leb (length v) 3 (omega arith)) in
    let there : At ns p v = subst (At ns p) e h in
    word-long ns (length v + 0x100 * p) (length v) p v (omega (arith, l)) (omega arith) (omega (arith, l)) there.inside there.is b
