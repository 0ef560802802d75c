-- Where a step leads: one tag of the pattern more, or where the row of the longest border says.
use Prim.Native.Nat.{ℕ, suc, ◌+◌, ◌≤◌, ◌<◌}
use native.Mathlib.Omega.{arith}
use native.Mathlib.Decide.{ℕ_discrete}
use native.Mathlib.Numerals.{add-one}
use mathlib.Core.Path.{◌≡◌, sym, ap, ◌∙◌}
use mathlib.Core.Bool.{false}
use mathlib.Core.List.{List, [], ◌∷◌, ◌++◌}
use borrow.Author.Tests.{eq-eqb, ne_eqb}
use lib.ListN.{length, get_or, take}
use lib.Seq.{length-take-le}
use Rattle.words.specs.Overlap.{overlap}
use Rattle.words.proofs.Word.{prefix-front}
use Rattle.words.proofs.Overlap.{overlap-prefix}
use Rattle.borders.specs.Border.{border}
use Rattle.borders.proofs.Border.{overlap-grown, border-below, grown_shorter, grown-longer, grown}
use Rattle.cascades.specs.Pattern.{plain}
use Rattle.cascades.specs.Rule.{Kind, once, everywhere}
use Rattle.cascades.specs.Ending.{before}
use Rattle.minimal.specs.Matcher.{moves}
use Rattle.minimal.specs.OneRule.{states, borders}
use Rattle.minimal.proofs.Matcher.{moves-after, moves-match, moves_on}
use Rattle.minimal.proofs.OneRule.{borders_move, overlap-step}
use Rattle.minimal.proofs.Ending.{none_matched}
use Rattle.matcher.specs.Next.{goes, turns, restarts}

module _ (count e a next : ℕ) where
  pub restarts-end : a ≡ e → 0 ≡ restarts count e a next
  restarts-end f = cc (eq-eqb a e f)

  module _ (other : a ≡ e → ⊥) where
    pub restarts-next : (next ≡ count → ⊥) → next ≡ restarts count e a next
    restarts-next f = cc (ne_eqb a e other, ne_eqb next count f)

module _ (u : List ℕ) where
  pub goes-is : (j a : ℕ) → j < length u → goes u j a ≡ overlap u (take j u ++ (a ∷ []))
  goes-is j a h = borders_move u once j a h (omega (arith, (overlap-step u j a h).1))

  pub goes_end : (j a : ℕ) → j ≡ length u → j ≡ goes u j a
  goes_end j a e = sym (moves-after u 0 0 (borders once u) j a e)

  -- at most one tag more, and no more than all
  pub goes-few : (j a : ℕ) → j ≤ length u → (goes u j a ≤ j + 1) × (goes u j a ≤ length u)
  goes-few j a h = by (ℕ_discrete j (length u))
    where
      by : Dec (j ≡ length u) → (goes u j a ≤ j + 1) × (goes u j a ≤ length u)
      by (yes e) = (omega (arith, goes_end j a e), omega (arith, goes_end j a e))
      by (no g) =
          let l : j < length u = omega arith in
          let o = overlap-step u j a l in
          (omega (arith, goes-is j a l, o.0), omega (arith, goes-is j a l, o.1))

  -- a state's step is one tag more, or that of its longest border
  goes-grown : (j a : ℕ) → j < length u → goes u j a ≡ grown u a j
  goes-grown j a h =
      let all : overlap u (take j u) ≡ j = overlap-prefix u (take j u) (prefix-front j u) ∙ length-take-le j u (omega arith) in
      goes-is j a h ∙ overlap-grown u a (take j u) (omega (arith, all)) ∙ ap (grown u a) all

  pub goes_on : (j a : ℕ) → j < length u → get_or u j 0 ≡ a → j + 1 ≡ goes u j a
  goes_on j a h same = add-one j ∙ sym (goes-grown j a h ∙ grown-longer u a j same)

  pub goes_back : (j a : ℕ) → j < length u → (get_or u j 0 ≡ a → ⊥) → 0 < j → goes u (border u j) a ≡ goes u j a
  goes_back j a h other some =
      goes-grown (border u j) a (omega (arith, border-below u j some (omega arith))) ∙ sym (goes-grown j a h ∙ grown_shorter u a j h other some)

  -- an end tag leads to the start anyway where it is not the pattern's last tag that is due
  pub restarts-back : (count e : ℕ) → length u ≤ count → before e (plain u) ≡ false → (j a : ℕ) → j + 1 < length u → restarts count e a (goes u j a) ≡ goes u j a
  restarts-back count e most free j a h =
      let low : overlap u (take j u ++ (a ∷ [])) < length u = omega (arith, (overlap-step u j a (omega arith)).0) in
      let is = goes-is j a (omega arith) in
      by low is (ℕ_discrete a e)
    where
      by : overlap u (take j u ++ (a ∷ [])) < length u → goes u j a ≡ overlap u (take j u ++ (a ∷ [])) → Dec (a ≡ e) → restarts count e a (goes u j a) ≡ goes u j a
      by low is (yes f) =
          sym (restarts-end count e a (goes u j a) f)
          ∙ sym (is ∙ none_matched e u free j (overlap u (take j u ++ (a ∷ []))) (ap (λ (x : ℕ). overlap u (take j u ++ (x ∷ []))) (sym f)) low)
      by low is (no d) = sym (restarts-next count e a (goes u j a) d (λ f. omega (arith, f)))

  -- where the rule's transducer goes, by its kind
  pub turns-moves : (k : Kind) (j a : ℕ) → j < states k (length u) → turns (states k (length u)) (goes u j a) ≡ moves (length u) (borders k u) j a
  turns-moves once j a l = cc (ne_eqb (goes u j a) (suc (length u)) (λ f. omega (arith, f, (goes-few j a (omega arith)).1)))
  turns-moves everywhere j a l = at (ℕ_discrete (overlap u (take j u ++ (a ∷ []))) (length u))
    where
      at : Dec (overlap u (take j u ++ (a ∷ [])) ≡ length u) → turns (length u) (goes u j a) ≡ moves (length u) (borders everywhere u) j a
      at (yes e) = cc (eq-eqb (goes u j a) (length u) (goes-is j a l ∙ e), moves-match u 0 0 (borders everywhere u) j a l e)
      at (no d) =
          let low : overlap u (take j u ++ (a ∷ [])) < length u = omega (arith, (overlap-step u j a l).1) in
          cc (ne_eqb (goes u j a) (length u) (λ f. omega (arith, f, goes-is j a l)), goes-is j a l, moves_on u 0 0 (borders everywhere u) j a l low)
