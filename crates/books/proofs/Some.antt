-- Whether some rule of the arrays is of a kind, rule by rule.
use Prim.Native.Nat.{ℕ, zero, suc, ◌+◌, ◌<◌}
use native.Mathlib.Omega.{arith}
use native.Mathlib.Decide.{ℕ_discrete}
use native.Mathlib.Numerals.{add-one}
use mathlib.Core.Path.{◌≡◌, refl, sym, ap, ◌∙◌}
use mathlib.Core.Bool.{Bool, true, false, ◌||◌, false≢true}
use mathlib.Core.List.{List, [], ◌∷◌, ◌++◌, reverse-cons}
use Rattle.cascades.specs.Rule.{Rule}
use Rattle.books.specs.Arrays.{Arrays, rule_at, rules_down, rules_of}

module _ (is : Rule → Bool) (some : List Rule → Bool) (nil : some [] ≡ false) (cons : (r : Rule) (rs : List Rule) → some (r ∷ rs) ≡ (is r || some rs)) where
  some-append : (rs : List Rule) (r : Rule) → some (rs ++ (r ∷ [])) ≡ (some rs || is r)
  some-append [] r = cons r [] ∙ ap (λ (b : Bool). is r || b) nil ∙ by (is r) ∙ ap (λ (b : Bool). b || is r) (sym nil)
    where
      by : (b : Bool) → (b || false) ≡ (false || b)
      by true = refl
      by false = refl
  some-append (q ∷ rs) r =
      cons q (rs ++ (r ∷ [])) ∙ ap (λ (b : Bool). is q || b) (some-append rs r) ∙ sym (or_assoc (is q) (some rs) (is r)) ∙ ap (λ (b : Bool). b || is r) (sym (cons q rs))
    where
      or_assoc : (a b c : Bool) → ((a || b) || c) ≡ (a || (b || c))
      or_assoc true b c = refl
      or_assoc false b c = refl

  module _ (a : Arrays) where
    pub one_more : (i : ℕ) → some (rules_of a (suc i)) ≡ (some (rules_of a i) || is (rule_at a i))
    one_more i = ap some (reverse-cons (rule_at a i) (rules_down a i)) ∙ some-append (rules_of a i) (rule_at a i)

    -- none so far, and not this one
    pub none_more : (i : ℕ) → some (rules_of a i) ≡ false → is (rule_at a i) ≡ false → some (rules_of a (i + 1)) ≡ false
    none_more i h g = ap (λ (n : ℕ). some (rules_of a n)) (add-one i) ∙ one_more i ∙ by (some (rules_of a i)) (is (rule_at a i)) h g
      where
        by : (x y : Bool) → x ≡ false → y ≡ false → (x || y) ≡ false
        by x y p q = rw (p, q) refl

    -- none of m
    pub none_of : (m : ℕ) → ((i : ℕ) → i < m → is (rule_at a i) ≡ false) → some (rules_of a m) ≡ false
    none_of zero h = nil
    none_of (suc m) h = ap (λ (n : ℕ). some (rules_of a n)) (sym (add-one m)) ∙ none_more m (none_of m (λ i l. h i (omega arith))) (h m (omega arith))

    -- this one, among m
    pub one_of : (m i : ℕ) → is (rule_at a i) ≡ true → i < m → some (rules_of a m) ≡ true
    one_of zero i g h = absurd (omega arith)
    one_of (suc m) i g h = one_more m ∙ by (ℕ_discrete i m) (one_of m i g)
      where
        right : (x y : Bool) → y ≡ true → (x || y) ≡ true
        right true y p = refl
        right false y p = p

        left : (x y : Bool) → x ≡ true → (x || y) ≡ true
        left x y p = rw p refl

        by : Dec (i ≡ m) → (i < m → some (rules_of a m) ≡ true) → (some (rules_of a m) || is (rule_at a m)) ≡ true
        by (yes p) rec = right (some (rules_of a m)) (is (rule_at a m)) (ap (λ (n : ℕ). is (rule_at a n)) (sym p) ∙ g)
        by (no p) rec = left (some (rules_of a m)) (is (rule_at a m)) (rec (omega arith))

    -- none of m, and so not this one
    pub not-one : (m i : ℕ) → some (rules_of a m) ≡ false → i < m → is (rule_at a i) ≡ false
    not-one m i h l = by (is (rule_at a i)) refl
      where
        by : (b : Bool) → is (rule_at a i) ≡ b → b ≡ false
        by true f = absurd (false≢true (sym h ∙ one_of m i f l))
        by false f = refl
