-- Laws of behaviors that differ in front only.
use Prim.Native.Nat.{ℕ, ◌≤◌}
use native.Mathlib.Omega.{arith}
use mathlib.Core.Logic.{◌⊎◌, inl, inr}
use mathlib.Core.Path.{◌≡◌, refl, sym, ap, ◌∙◌}
use mathlib.Core.List.{List, [], ◌++◌, append_assoc, append_cancel_left, append_cancel_right}
use lib.ListN.{length}
use Rattle.words.specs.Word.{Below, Prefix}
use Rattle.words.proofs.Front.{begins_either}
use Rattle.agreement.specs.Beside.{Beside}

-- a word that begins with v, behind u
behind : (u v r : List ℕ) {l : List ℕ} → l ≡ v ++ r → u ++ l ≡ u ++ v ++ r
behind u v r e = ap (λ (l : List ℕ). u ++ l) e ∙ sym (append_assoc u v r)

module _ (k n : ℕ) where
  pub beside_refl : (P : List ℕ → List ℕ) → Beside k n P P
  beside_refl P = record { left = []; right = []; rest = P; left_is = λ x hx le. refl; right_is = λ x hx le. refl }

  pub beside_sym : {P Q : List ℕ → List ℕ} → Beside k n P Q → Beside k n Q P
  beside_sym b = record { left = b.right; right = b.left; rest = b.rest; left_is = b.right_is; right_is = b.left_is }

  -- of two fronts of one word one begins the other, and is taken away
  pub beside-fronts : {P Q : List ℕ → List ℕ} (o m : List ℕ)
      → ((x : List ℕ) → Below k x → length x ≤ n → o ++ P x ≡ m ++ Q x)
      → Beside k n P Q
  beside-fronts {P} {Q} o m level = go (begins_either m o (Q []) (record { rest = P []; split = sym (level [] tt (omega arith)) }))
    where
      go : Prefix o m ⊎ ((y : List ℕ) × (o ≡ m ++ y)) → Beside k n P Q
      go (inl p) =
          record {
            left = p.rest;
            right = [];
            rest = Q;
            left_is = λ x hx le.
                append_cancel_left o (P x) (p.rest ++ Q x)
                (level x hx le ∙ ap (λ (l : List ℕ). l ++ Q x) p.split ∙ append_assoc o p.rest (Q x));
            right_is = λ x hx le. refl;
          }
      go (inr p) =
          record {
            left = [];
            right = p.0;
            rest = P;
            left_is = λ x hx le. refl;
            right_is = λ x hx le.
                append_cancel_left m (Q x) (p.0 ++ P x)
                (sym (level x hx le) ∙ ap (λ (l : List ℕ). l ++ P x) p.1 ∙ append_assoc m p.0 (P x));
          }

  -- what is left of the behavior in the middle is left twice, and these two are beside one another
  pub beside_trans : {P Q R : List ℕ → List ℕ} → Beside k n P Q → Beside k n Q R → Beside k n P R
  beside_trans b c =
      record {
        left = b.left ++ middle.left;
        right = c.right ++ middle.right;
        rest = middle.rest;
        left_is = λ x hx le. b.left_is x hx le ∙ behind b.left middle.left (middle.rest x) (middle.left_is x hx le);
        right_is = λ x hx le. c.right_is x hx le ∙ behind c.right middle.right (middle.rest x) (middle.right_is x hx le);
      }
    where
      middle : Beside k n b.rest c.rest
      middle = beside-fronts b.right c.left (λ x hx le. sym (b.right_is x hx le) ∙ c.left_is x hx le)

  -- fronts that level the answers to the empty word level all
  pub beside_back : {P Q : List ℕ → List ℕ} → Beside k n P Q → (o m : List ℕ) → o ++ P [] ≡ m ++ Q []
      → (x : List ℕ) → Below k x → length x ≤ n → o ++ P x ≡ m ++ Q x
  beside_back b o m e x hx le =
      behind o b.left (b.rest x) (b.left_is x hx le)
      ∙ ap (λ (l : List ℕ). l ++ b.rest x) fronts
      ∙ sym (behind m b.right (b.rest x) (b.right_is x hx le))
    where
      fronts : o ++ b.left ≡ m ++ b.right
      fronts =
          append_cancel_right (o ++ b.left) (m ++ b.right) (b.rest [])
          (sym (behind o b.left (b.rest []) (b.left_is [] tt (omega arith))) ∙ e
          ∙ behind m b.right (b.rest []) (b.right_is [] tt (omega arith)))
