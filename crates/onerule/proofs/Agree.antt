-- What is written is the rule's transducer: without sets by borders, with sets by bits.
use Prim.Native.Nat.{ℕ, ◌≤◌, ◌<◌}
use native.Mathlib.Omega.{arith}
use native.Mathlib.Decide.{ℕ_discrete}
use mathlib.Core.Path.{◌≡◌, refl, sym, ap, ◌∙◌, subst}
use mathlib.Core.Bool.{true, false}
use mathlib.Core.List.{List, [], ◌∷◌, ◌++◌}
use lib.Dec.{eqb}
use lib.ListN.{length, take}
use Rattle.words.specs.Overlap.{overlap}
use Rattle.cascades.specs.Pattern.{Class, word}
use Rattle.cascades.specs.Rule.{Kind, Rule, has_set}
use Rattle.cascades.proofs.Pattern.{word-length}
use Rattle.transducers.specs.Transducer.{Shape}
use Rattle.minimal.specs.Matcher.{said, matching}
use Rattle.minimal.specs.Bits.{width, alive_fired, bits}
use Rattle.minimal.specs.OneRule.{states, borders, one_rule}
use Rattle.minimal.proofs.Matcher.{said-after}
use Rattle.minimal.proofs.OneRule.{states-few, matcher_is, rule-borders}
use Rattle.matcher.specs.Next.{goes}
use Rattle.matcher.proofs.Next.{goes-is, turns-moves}
use Rattle.alive.specs.Alive.{Masks, stepped, by_masks}
use Rattle.onerule.specs.Rule.{by_lengths, by_bits}

-- the same states over k tags
pub record Agree (k : ℕ) (S T : Shape) : Type 0 where
  pub count_is : S.count ≡ T.count
  pub next_is : (q a : ℕ) → q < S.count → a < k → S.next q a ≡ T.next q a
  pub output_is : (q a : ℕ) → q < S.count → a < k → S.output q a ≡ T.output q a
  pub final_is : (q : ℕ) → S.final q ≡ T.final q

module _ (k : ℕ) (kind : Kind) (p t : ℕ) where
  agree_borders : (u : List ℕ) → Agree k (by_lengths (states kind (length u)) u p t) (matching u p t (borders kind u))
  agree_borders u =
      record {
        count_is = refl;
        next_is = λ j a h ha. turns-moves u kind j a h;
        output_is = λ j a h ha. by j a (omega (arith, states-few kind (length u))) (ℕ_discrete j (length u));
        final_is = λ j. refl;
      }
    where
      by : (j a : ℕ) → j ≤ length u → Dec (j ≡ length u) → said u p t j a (goes u j a) ≡ said u p t j a (overlap u (take j u ++ (a ∷ [])))
      by j a h (yes e) = said-after u p t j a (goes u j a) e ∙ sym (said-after u p t j a (overlap u (take j u ++ (a ∷ []))) e)
      by j a h (no d) = ap (said u p t j a) (goes-is u j a (omega arith))

  agree_bits : (u : List Class) (masks : List ℕ) → Masks u k masks → (n : ℕ) → n ≡ length u
      → Agree k (matching (word u) p t (by_masks kind n masks)) (matching (word u) p t (bits kind u))
  agree_bits u masks m n long =
      subst (λ (i : ℕ). Agree k (matching (word u) p t (by_masks kind i masks)) (matching (word u) p t (bits kind u))) (sym long)
      record {
        count_is = refl;
        next_is = λ s a h ha.
            ap
            (λ (x : ℕ).
            elim (eqb (width (length u) s) (length (word u))) as (λ y. ℕ) [
              | true ↦ s
              | false ↦ elim (eqb (width (length u) (stepped s x)) (length (word u))) as (λ y. ℕ) [ true ↦ alive_fired kind (length u) | false ↦ stepped s x ]
            ])
            (m.entry a ha);
        output_is = λ s a h ha. ap (λ (x : ℕ). said (word u) p t (width (length u) s) a (width (length u) (stepped s x))) (m.entry a ha);
        final_is = λ s. refl;
      }

module _ (k : ℕ) (r : Rule) (u : List ℕ) (is : word r.pattern ≡ u) where
  pub rule-lengths : has_set r ≡ false → (count : ℕ) → count ≡ states r.kind (length u) → Agree k (by_lengths count u r.place r.tag) (one_rule r)
  rule-lengths none count few =
      subst (λ (c : ℕ). Agree k (by_lengths c u r.place r.tag) (one_rule r)) (sym few)
      (subst (λ (v : List ℕ). Agree k (by_lengths (states r.kind (length v)) v r.place r.tag) (one_rule r)) is
      (subst (Agree k (by_lengths (states r.kind (length (word r.pattern))) (word r.pattern) r.place r.tag)) (sym (rule-borders r none))
      (agree_borders k r.kind r.place r.tag (word r.pattern))))

  pub rule-bits : has_set r ≡ true → (masks : List ℕ) → Masks r.pattern k masks → Agree k (by_bits r.kind masks u r.place r.tag) (one_rule r)
  rule-bits some masks m =
      subst (λ (v : List ℕ). Agree k (by_bits r.kind masks v r.place r.tag) (one_rule r)) is
      (subst (Agree k (by_bits r.kind masks (word r.pattern) r.place r.tag)) (sym (ap (matching (word r.pattern) r.place r.tag) (matcher_is r true some)))
      (agree_bits k r.kind r.place r.tag r.pattern masks m (length (word r.pattern)) (word-length r.pattern)))
