-- A rule as one value of the code: its pattern's tags and their number, and the transducers that are written for it.
use Prim.Native.Nat.{ℕ, ◌+◌, ◌≤◌, ◌<◌}
use native.Mathlib.Omega.{arith}
use mathlib.Core.Path.{◌≡◌, sym, ap, ◌∙◌, subst}
use mathlib.Core.Bool.{false}
use mathlib.Core.List.{List}
use lib.ListN.{length, take}
use lib.Seq.{length-take-le}
use Rattle.cascades.specs.Pattern.{plain, word}
use Rattle.cascades.specs.Rule.{Rule, has_set}
use Rattle.cascades.specs.Value.{rule_of, Formed}
use Rattle.cascades.specs.declared.Rule.{Rule as Value}
use Rattle.cascades.specs.Ending.{before}
use Rattle.cascades.proofs.Pattern.{places-length, plain_word, last-zero, some-from}
use Rattle.transducers.specs.Transducer.{Shape}
use Rattle.minimal.specs.OneRule.{states, one_rule}
use Rattle.workspace.specs.declared.Grid.{Grid}
use Rattle.workspace.specs.Holds.{Filling}
use Rattle.outputs.specs.Words.{Room}
use Rattle.alive.specs.Alive.{Masks, Narrow}
use Rattle.alive.proofs.Alive.{masks_narrow}
use Rattle.limits.specs.Limits.{most_tags}
use Rattle.onerule.specs.Rule.{by_lengths, by_bits, afresh, Ruled}
use Rattle.onerule.proofs.Agree.{Agree, rule-lengths, rule-bits}
use Rattle.onerule.proofs.Ruled.{ruled}

module _ (v : Value) (ss : List ℕ) (formed : Formed v ss) where
  abbrev r : Rule
  r = rule_of v ss

  abbrev u : List ℕ
  u = take v.length v.row

  pub formed_long : length u ≡ v.length
  formed_long = length-take-le v.length v.row (omega (arith, formed.row_long, formed.length_short))

  pub formed_room : (g : Grid) (W : List ℕ) → Room g W (word r.pattern) v.place → Room g W u v.place
  formed_room g W room = subst (λ (w : List ℕ). Room g W w v.place) formed.word_is room

  pub formed_narrow : (k : ℕ) (masks : List ℕ) → k ≤ most_tags → Masks r.pattern k masks → Narrow (length u) k masks
  formed_narrow k masks few m = masks_narrow r.pattern (length u) k masks (places-length u (take v.sets ss)) few m

  module _ (none : v.sets ≡ 0) where
    no_set : has_set r ≡ false
    no_set = last-zero r.pattern (formed.last_is ∙ none)

    pub formed-plain : (e : ℕ) → before e (plain u) ≡ before e r.pattern
    formed-plain e = ap (before e) (ap plain (sym formed.word_is) ∙ plain_word r.pattern no_set)

    pub formed_lengths : (k count : ℕ) → count ≡ states r.kind v.length → Agree k (by_lengths count u v.place v.tag) (one_rule r)
    formed_lengths k count is = rule-lengths k r u formed.word_is no_set count (is ∙ ap (states r.kind) (sym formed_long))

  pub formed_bits : 0 < v.sets → (k : ℕ) (masks : List ℕ) → Masks r.pattern k masks → Agree k (by_bits r.kind masks u v.place v.tag) (one_rule r)
  formed_bits some k masks m = rule-bits k r u formed.word_is (some-from r.pattern 0 (omega (arith, formed.last_is, some))) masks m

  -- rows that are filled by states that agree with the rule's are its transducer
  pub formed_ruled : (g : Grid) (W X : List ℕ) (base count e : ℕ) (S : Shape) → Agree g.tags S (one_rule r) → before e r.pattern ≡ false → count ≡ S.count
      → base + (one_rule r).count ≤ g.rows → Room g W (word r.pattern) v.place → Filling g W X base count (afresh e S) count → Ruled g W X base count e r
  formed_ruled g W X base count e S same free is inside room f =
      let long : length r.pattern ≡ length u = places-length u (take v.sets ss) in
      let fits = formed_room g W room in
      ruled g W X base count e r S same free is (omega (arith, is, same.count_is)) (omega (arith, fits.place_inside, long)) (omega (arith, fits.deep, long)) f
