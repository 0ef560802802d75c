-- The words of a rule's transducer are within their cells, in both ways to keep what is matched.
use Prim.Native.Nat.{ℕ, suc, ◌+◌, ◌-◌, ◌≤◌, ◌<◌}
use native.Mathlib.Omega.{arith}
use mathlib.Core.Path.{◌≡◌, refl, subst}
use mathlib.Core.Bool.{Bool, true, false}
use mathlib.Core.List.{List, [], ◌∷◌, ◌++◌}
use borrow.Author.Tests.{eqb-false}
use lib.Dec.{eqb}
use lib.ListN.{length, set, take, drop, get_or, length-append, length-drop, length-take, length-set}
use Rattle.cascades.specs.Rule.{Kind}
use Rattle.minimal.specs.Matcher.{held, said}
use Rattle.minimal.proofs.Bits.{width_le, state-below}
use Rattle.workspace.specs.declared.Grid.{Grid}
use Rattle.workspace.specs.Holds.{Stepped, Roomy}
use Rattle.matcher.specs.Next.{goes, restarts}
use Rattle.matcher.proofs.Next.{goes-few}
use Rattle.alive.specs.Alive.{stepped}
use Rattle.alive.proofs.Alive.{stepped-longest}
use Rattle.outputs.specs.Words.{Room}
use Rattle.onerule.specs.declared.Pattern.{Pattern}
use Rattle.onerule.specs.States.{Numbered, speaking, Within, in_lengths, in_bits}

module _ (u : List ℕ) (p t : ℕ) (inside : p < length u) where
  held_le : (j : ℕ) → j ≤ length u → length (held u p j) + 1 ≤ length u
  held_le j h = by (eqb j (length u)) refl
    where
      by : (c : Bool) → eqb j (length u) ≡ c → length {A = ℕ} (elim c [ true ↦ [] | false ↦ drop p (take j u) ]) + 1 ≤ length u
      by true e = omega (arith, inside)
      by false e = omega (arith, inside, length-drop p (take j u), length-take j u, eqb-false j (length u) e)

  pub said_le : (j a i : ℕ) → j ≤ length u → length (said u p t j a i) ≤ length u
  said_le j a i h = by (eqb j (length u)) (eqb i (length u))
    where
      by : (c d : Bool)
          → length {A = ℕ} (elim c [
            | true ↦ a ∷ []
            | false ↦ elim d [
              | true ↦ drop p (set u p t)
              | false ↦ take (suc (length (held u p j)) - length (held u p i)) (held u p j ++ (a ∷ []))
            ]
          ])
          ≤ length u
      by true d = omega arith
      by false true = omega (arith, length-drop p (set u p t), length-set u p t)
      by false false =
          omega (
            arith,
            length-take (suc (length (held u p j)) - length (held u p i)) (held u p j ++ (a ∷ [])),
            length-append (held u p j) (a ∷ []),
            held_le j h,
          )

pub roomy-words : (p : Pattern) (g : Grid) {W : List ℕ} → Room g W p.tags.now p.place → (N : Numbered) → Within (length p.tags.now) N → Roomy g (speaking N p)
roomy-words p g room N within =
    let u = p.tags.now in
    record {
      outputs = λ q a hq ha. omega (arith, said_le u p.place p.tag room.place_inside (N.matched q) a (N.grown q a) (within.matched_few q hq), room.deep);
      finals = λ q hq. omega (arith, held_le u p.place p.tag room.place_inside (N.matched q) (within.matched_few q hq), room.deep);
    }

pub lengths_within : (count : ℕ) (u : List ℕ) (e : ℕ) → count ≤ length u + 1 → Within (length u) (in_lengths count u e)
lengths_within count u e few =
    record {
      matched_few = λ j h. omega arith;
      grown_few = λ j a h. (goes-few u j a (omega arith)).1;
      grown_next = λ j a h. (goes-few u j a (omega arith)).0;
    }

pub bits_within : (k : Kind) (masks u : List ℕ) (e : ℕ) → 0 < length u → Within (length u) (in_bits k masks u e)
bits_within k masks u e some =
    record {
      matched_few = λ s h. width_le (length u) s;
      grown_few = λ s a h. width_le (length u) (stepped s (get_or masks a 0));
      grown_next = λ s a h. stepped-longest (length u) s (get_or masks a 0) (state-below k (length u) s some h);
    }

pub restarts-below : (u : List ℕ) (count e j a : ℕ) → j ≤ length u → restarts count e a (goes u j a) ≤ length u
restarts-below u count e j a h = by (eqb a e) (eqb (goes u j a) count)
  where
    by : (c d : Bool) → elim c as (λ x. ℕ) [ true ↦ 0 | false ↦ elim d as (λ x. ℕ) [ true ↦ 0 | false ↦ goes u j a ] ] ≤ length u
    by true d = omega arith
    by false true = omega arith
    by false false = (goes-few u j a h).1

-- the same step, said otherwise
pub stepped_as : {g : Grid} {W X : List ℕ} {r a n m : ℕ} {v w : List ℕ} → n ≡ m → v ≡ w → Stepped g W X r a n v → Stepped g W X r a m w
stepped_as {g} {W} {X} {r} {a} {n} {m} {v} {w} e f h = subst (λ (q : ℕ). Stepped g W X r a q w) e (subst (λ (l : List ℕ). Stepped g W X r a n l) f h)
