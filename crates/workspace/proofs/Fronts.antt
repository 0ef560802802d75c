-- The common front of two words, tag by tag; words are equal if they are as long as it.
use Prim.Native.Nat.{ℕ, suc, ◌+◌, ◌≤◌, ◌<◌}
use native.Mathlib.Omega.{arith}
use native.Mathlib.Numerals.{add-one}
use borrow.Author.Tests.{eq-eqb, ne_eqb, eqb-true, eqb-false}
use lib.Dec.{eqb}
use mathlib.Core.Bool.{false}
use Rattle.words.proofs.Front.{begins_refl, begins_length, begins_whole, meet_left, meet_right, meet_greatest}
use mathlib.Core.Path.{◌≡◌, refl, sym, ap, ap₂, ◌∙◌}
use mathlib.Core.List.{List, [], ◌∷◌}
use lib.ListN.{length, get_or, take, drop, drop_of_length-le}
use lib.Seq.{drop-cons, take_all, get_or-take, length-take-le}
use Rattle.words.specs.Front.{meet}
use Rattle.workspace.specs.declared.Grid.{Grid}
use Rattle.words.specs.Decides.{Decides}
use Rattle.workspace.specs.Cells.{at, word, Got}
use Rattle.workspace.proofs.Words.{word-length, word_at}

meet_nil : (u : List ℕ) → meet u [] ≡ []
meet_nil [] = refl
meet_nil (a ∷ u) = refl

meet_cons : (a b : ℕ) (u v : List ℕ) → a ≡ b → meet (a ∷ u) (b ∷ v) ≡ a ∷ meet u v
meet_cons a b u v e = cc (eq-eqb a b e)

meet-apart : (a b : ℕ) (u v : List ℕ) → (a ≡ b → ⊥) → meet (a ∷ u) (b ∷ v) ≡ []
meet-apart a b u v e = cc (ne_eqb a b e)

module _ (u v : List ℕ) (from i n : ℕ) (hu : from + i < length u) (hv : i < length v) (sofar : n ≡ i + length (meet (drop (from + i) u) (drop i v))) where
  meet-next : get_or u (from + i) 0 ≡ get_or v i 0 → n ≡ (i + 1) + length (meet (drop (from + (i + 1)) u) (drop (i + 1) v))
  meet-next e =
      let j : from + (i + 1) ≡ suc (from + i) = omega arith in
      omega (
        arith,
        sofar,
        ap₂ (λ (a b : List ℕ). length (meet a b)) (drop-cons u (from + i) 0 hu) (drop-cons v i 0 hv),
        ap length (meet_cons (get_or u (from + i) 0) (get_or v i 0) (drop (suc (from + i)) u) (drop (suc i) v) e),
        ap₂ (λ (a b : ℕ). length (meet (drop a u) (drop b v))) j (add-one i),
      )

  meet-ends : (get_or u (from + i) 0 ≡ get_or v i 0 → ⊥) → i ≡ n
  meet-ends e =
      omega (
        arith,
        sofar,
        ap₂ (λ (a b : List ℕ). length (meet a b)) (drop-cons u (from + i) 0 hu) (drop-cons v i 0 hv),
        ap length (meet-apart (get_or u (from + i) 0) (get_or v i 0) (drop (suc (from + i)) u) (drop (suc i) v) e),
      )

meet-whole : (u v : List ℕ) (from i n : ℕ) → length v ≤ i → n ≡ i + length (meet (drop (from + i) u) (drop i v)) → i ≡ n
meet-whole u v from i n h e =
    omega (arith, e, ap length (ap (meet (drop (from + i) u)) (drop_of_length-le v h) ∙ meet_nil (drop (from + i) u)))

-- a word from a place on and the first `limit` of another, read tag by tag
module _ (g : Grid) (W : List ℕ) (r c s from r2 c2 s2 limit : ℕ) (in_first : from + limit ≤ at g W r c s) (in_second : limit ≤ at g W r2 c2 s2) where
  abbrev u : List ℕ
  u = word g W r c s

  abbrev v : List ℕ
  v = take limit (word g W r2 c2 s2)

  long : length v ≡ limit
  long = length-take-le limit (word g W r2 c2 s2) (omega (arith, word-length g W r2 c2 s2))

  module _ (i n tag other : ℕ) (h : i < limit) (got : Got g W r c (s + (from + i) + 1) tag) (got2 : Got g W r2 c2 (s2 + i + 1) other)
      (sofar : n ≡ i + length (meet (drop (from + i) u) (drop i v))) where
    tag_is : tag ≡ get_or u (from + i) 0
    tag_is = got.is ∙ sym (word_at g W r c s (from + i) (omega arith))

    other_is : other ≡ get_or v i 0
    other_is = got2.is ∙ sym (get_or-take limit (word g W r2 c2 s2) i 0 h ∙ word_at g W r2 c2 s2 i (omega arith))

    pub front_next : tag ≡ other → n ≡ (i + 1) + length (meet (drop (from + (i + 1)) u) (drop (i + 1) v))
    front_next e = meet-next u v from i n (omega (arith, word-length g W r c s)) (omega (arith, long)) sofar (sym tag_is ∙ e ∙ other_is)

    pub front_ends : (tag ≡ other → ⊥) → i ≡ n
    front_ends d = meet-ends u v from i n (omega (arith, word-length g W r c s)) (omega (arith, long)) sofar (λ e. d (tag_is ∙ e ∙ sym other_is))

  pub front_whole : (i n : ℕ) → limit ≡ i → n ≡ i + length (meet (drop (from + i) u) (drop i v)) → limit ≡ n
  front_whole i n e sofar = e ∙ meet-whole u v from i n (omega (arith, long)) sofar

-- words are equal if they are as long as their common front
pub words_decided : (g : Grid) (W : List ℕ) (r c s r2 c2 s2 n m : ℕ) → n ≡ at g W r c s → n ≡ at g W r2 c2 s2
    → m ≡ length (meet (drop 0 (word g W r c s)) (take n (word g W r2 c2 s2))) → Decides (eqb m n) (word g W r c s ≡ word g W r2 c2 s2)
words_decided g W r c s r2 c2 s2 n m long long2 is =
    record { so = λ e. same (eqb-true m n e); not = λ e d. eqb-false m n e (whole d) }
  where
    u : List ℕ
    u = word g W r c s

    v : List ℕ
    v = word g W r2 c2 s2

    all : take n v ≡ v
    all = take_all n v (omega (arith, word-length g W r2 c2 s2))

    same : m ≡ n → u ≡ v
    same e =
        let size = is ∙ ap (λ (l : List ℕ). length (meet u l)) all in
        sym (begins_whole (meet_left u v) (omega (arith, word-length g W r c s)))
        ∙ begins_whole (meet_right u v) (omega (arith, word-length g W r2 c2 s2))

    meet_self : (w : List ℕ) → meet w w ≡ w
    meet_self w = begins_whole (meet_left w w) (begins_length (meet_greatest w w w (begins_refl w) (begins_refl w)))

    whole : u ≡ v → m ≡ n
    whole d = is ∙ ap (λ (l : List ℕ). length (meet u l)) (all ∙ sym d) ∙ ap length (meet_self u) ∙ word-length g W r c s ∙ sym long

pub words-other : (g : Grid) (W : List ℕ) (r c s r2 c2 s2 n m : ℕ) → n ≡ at g W r c s → m ≡ at g W r2 c2 s2 → (n ≡ m → ⊥)
    → Decides false (word g W r c s ≡ word g W r2 c2 s2)
words-other g W r c s r2 c2 s2 n m long long2 other =
    record {
      so = λ e. let z : ◌≡◌ {A = ℕ} 0 1 = cc in absurd (omega arith);
      not = λ e d. other (long ∙ sym (word-length g W r c s) ∙ ap length d ∙ word-length g W r2 c2 s2 ∙ sym long2);
    }
