-- The rows that are written hold the rule's transducer, which begins afresh after an end tag.
use Prim.Native.Nat.{ℕ, ◌+◌, ◌-◌, ◌≤◌, ◌<◌}
use native.Mathlib.Omega.{arith}
use mathlib.Core.Path.{◌≡◌, refl, sym, ap, ◌∙◌}
use mathlib.Core.Bool.{Bool, true, false}
use mathlib.Core.List.{List, ◌++◌, append-nil}
use borrow.Author.Tests.{eqb-true}
use lib.Dec.{eqb}
use lib.ListN.{length}
use Rattle.words.specs.Pieces.{piecewise}
use Rattle.cascades.specs.Rule.{Rule, ValidRule}
use Rattle.cascades.specs.Rewrite.{apply}
use Rattle.cascades.specs.Ending.{before}
use Rattle.transducers.specs.Transducer.{Shape}
use Rattle.transducers.specs.Ended.{ended}
use Rattle.transducers.proofs.Tabulate.{length-table}
use Rattle.minimal.specs.OneRule.{one_rule, rule_table}
use Rattle.minimal.proofs.Ending.{quiet_rule}
use Rattle.minimal.proofs.TableOf.{doing-rule}
use Rattle.workspace.specs.declared.Grid.{Grid}
use Rattle.workspace.specs.Entries.{FINAL}
use Rattle.workspace.specs.Holds.{RowAt, Filling}
use Rattle.workspace.proofs.Holds.{holds-doing}
use Rattle.onerule.specs.Rule.{afresh, Ruled}
use Rattle.onerule.proofs.Agree.{Agree}

-- a rule is valid for the length of its own pattern
own-valid : (l k : ℕ) (r : Rule) → ValidRule l k r → ValidRule (length r.pattern) k r
own-valid l k r v =
    record {
      short = omega arith;
      pattern_below = v.pattern_below;
      sets_below = v.sets_below;
      place_inside = v.place_inside;
      tag_below = v.tag_below;
      sets_before = v.sets_before;
      tag_new = v.tag_new;
    }

module _ (g : Grid) (W X : List ℕ) (base count e : ℕ) (r : Rule) (S : Shape) (same : Agree g.tags S (one_rule r)) (free : before e r.pattern ≡ false) where
  -- after an end tag nothing is held, so that it puts out no more
  row-ended : (l : ℕ) → ValidRule l g.tags r → (row q : ℕ) → q < S.count → RowAt g X row (afresh e S) q → RowAt g X row (ended e (one_rule r)) q
  row-ended l v row q h at =
      record {
        steps = λ a ha.
            record {
              next_is = (at.steps a ha).next_is ∙ ap (λ (n : ℕ). elim (eqb a e) as (λ x. ℕ) [ true ↦ 0 | false ↦ n ]) (same.next_is q a h ha);
              output_is = (at.steps a ha).output_is ∙ same.output_is q a h ha ∙ by a (eqb a e) refl;
            };
        final_is = at.final_is ∙ same.final_is q;
      }
    where
      by : (a : ℕ) (t : Bool) → eqb a e ≡ t
          → (one_rule r).output q a
          ≡ elim t as (λ x. List ℕ) [ true ↦ (one_rule r).output q a ++ (one_rule r).final ((one_rule r).next q a) | false ↦ (one_rule r).output q a ]
      by a true f =
          let none = quiet_rule l g.tags e r v free q (omega (arith, same.count_is)) in
          sym (ap (λ (w : List ℕ). (one_rule r).output q a ++ w) (ap (λ (x : ℕ). (one_rule r).final ((one_rule r).next q x)) (eqb-true a e f) ∙ none)
          ∙ append-nil ((one_rule r).output q a))
      by a false f = refl

  pub ruled : count ≡ S.count → base + count ≤ g.rows → r.place < length r.pattern → length r.pattern + FINAL ≤ g.depth
      → Filling g W X base count (afresh e S) count → Ruled g W X base count e r
  ruled is room inside deep f =
      let O = one_rule r in
      let all : count ≡ O.count = is ∙ same.count_is in
      record {
        count_is = all;
        kept = f.kept;
        stands = λ l v.
            record {
              made = record { table = rule_table g.tags e r; long = length-table g.tags (ended e O) ∙ sym all; doing = doing-rule l g.tags e r v; so = tt };
              holds =
                  holds-doing g X base (ended e O) (length r.pattern - 1) (piecewise e (apply r))
                  (doing-rule (length r.pattern) g.tags e r (own-valid l g.tags r v)) (omega arith) (omega arith)
                  (λ q h. row-ended l v (base + q) q (omega (arith, same.count_is)) (f.states q (omega arith)));
            };
      }
