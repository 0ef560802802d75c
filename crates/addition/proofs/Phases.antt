-- The phases one after the other: what stands in the rows after each is what the next one needs.
use Prim.Native.Nat.{ℕ, ◌+◌, ◌-◌, ◌*◌, ◌≤◌}
use native.Mathlib.Omega.{arith}
use mathlib.Core.Path.{◌≡◌, sym, ap, ◌∙◌}
use mathlib.Core.Logic.{inl, inr}
use mathlib.Core.List.{List}
use lib.ListN.{length}
use Rattle.limits.specs.Work.{rule_rows}
use Rattle.limits.proofs.Work.{composition_fits}
use Rattle.words.specs.Pieces.{piecewise}
use Rattle.cascades.specs.Pattern.{word}
use Rattle.cascades.specs.Rule.{Rule}
use Rattle.cascades.specs.Rewrite.{apply}
use Rattle.cascades.proofs.Pattern.{word-length}
use Rattle.transducers.specs.Table.{shape}
use Rattle.transducers.specs.Canonical.{Early, Canonical}
use Rattle.transducers.specs.Tabulate.{Doing, Made, Any}
use Rattle.minimal.specs.OneRule.{one_rule, rule_table}
use Rattle.minimal.proofs.TableOf.{Good, good_add, good_only, doing-rule}
use Rattle.workspace.specs.declared.Grid.{Grid}
use Rattle.workspace.specs.Entries.{CLASS, LINK}
use Rattle.workspace.specs.Cells.{Sized, Kept, InRows, Spare}
use Rattle.workspace.specs.Holds.{Ready, Stands, table_at}
use Rattle.workspace.proofs.Regions.{kept_then, kept_wider, sized-kept}
use Rattle.workspace.proofs.Stands.{stands-holds, stands-doing, stands-so, stands-ready, stands-kept}
use Rattle.workspace.proofs.Views.{same-table, ready-kept}
use Rattle.outputs.specs.Words.{Room}
use Rattle.onerule.specs.Rule.{Ruled}
use Rattle.compose.specs.Composed.{Composable, Composed}
use Rattle.normalize.specs.Strip.{Normalized}
use Rattle.merge.specs.Classes.{Merged}
use Rattle.number.specs.Order.{Classed}
use Rattle.number.specs.Numbering.{RowsNotes, Numbered}
use Rattle.addition.specs.Addition.{Addable, more, Added}

module _ (g : Grid) (W : List ℕ) (n ceiling s end : ℕ) (r : Rule) (ok : Addable g W n ceiling s end r) where
  abbrev k : ℕ
  k = g.tags

  abbrev base : ℕ
  base = rule_rows s ceiling

  -- the most tags that the rule holds
  abbrev holds : ℕ
  holds = ok.longest - 1

  abbrev most : ℕ
  most = ok.most + holds

  abbrev makes : List ℕ → List ℕ
  makes = λ w. piecewise end (apply r) (ok.makes w)

  pub room : Room g W (word r.pattern) r.place
  room =
      record {
        sized = ok.sized;
        place_inside = omega (arith, ok.valid.place_inside, word-length r.pattern);
        deep = omega (arith, ok.valid.place_inside, ok.valid.short, word-length r.pattern, ok.deep);
      }

  pub rule_fits : base + (one_rule r).count ≤ g.rows
  rule_fits = omega (arith, ok.states, ok.rows)

  -- the rule's table has been written to its rows
  module _ (X : List ℕ) (m : ℕ) (ruled : Ruled g W X (base) m end r) where
    first-stands : Stands g X 0 n ok.most ok.makes (λ t. Canonical k (shape t))
    first-stands =
        stands-kept g W 0 n ok.most ok.makes _ ok.stands X _ ruled.kept (λ r' c' e' lo hi p. omega (arith, p.0, ok.few, ok.some))

    second_stands : Stands g X (base) m holds (piecewise end (apply r)) Any
    second_stands = ruled.stands ok.longest ok.valid

    first-doing : Doing k ok.most ok.makes (table_at g X 0 n)
    first-doing = stands-doing g X 0 n _ _ _ first-stands

    second_doing : Doing k holds (piecewise end (apply r)) (table_at g X (base) m)
    second_doing = stands-doing g X (base) m _ _ _ second_stands

    product-fits : ceiling + n * m ≤ base
    product-fits = composition_fits s ceiling n m ok.few (omega (arith, ok.states, ruled.count_is))

    pub composable : Composable g X 0 n (base) m ceiling
    composable =
        record {
          sized = sized-kept g W X ok.sized ruled.kept.long;
          first_holds = stands-holds g X 0 n _ _ _ first-stands;
          second_holds = stands-holds g X (base) m _ _ _ second_stands;
          first_sound = first-doing.sound;
          second_sound = second_doing.sound;
          first_most = ok.most;
          second_most = holds;
          first_held = first-doing.held;
          second_held = second_doing.held;
          room = ok.deep;
          below = omega (arith, ok.few);
          above = product-fits;
          small = omega (arith, product-fits, ok.some, ok.small);
        }

    -- the composition stands in the rows from the ceiling
    module _ (Y : List ℕ) (count : ℕ) (composed : Composed g X Y 0 n (base) m ceiling count) where
      composed_stands : Stands g Y ceiling count most makes Any
      composed_stands = composed.stands ok.most holds ok.makes (piecewise end (apply r)) first-doing second_doing

      count-rows : ceiling + count ≤ base
      count-rows = omega (arith, composed.few, product-fits)

      sized_2 : Sized g Y
      sized_2 = sized-kept g W Y ok.sized (composed.kept.long ∙ ruled.kept.long)

      pub ready_composed : Ready g Y ceiling count
      ready_composed = stands-ready g Y ceiling count most makes Any composed_stands sized_2 (omega (arith, count-rows, ok.small)) ok.deep

      -- the normalized table stands there
      module _ (Z : List ℕ) (normalized : Normalized g Y Z ceiling count) where
        early-stands : Stands g Z ceiling count most makes (λ t. Early k (shape t))
        early-stands = normalized.stands most makes (stands-doing g Y ceiling count most makes Any composed_stands)

        pub ready_normalized : Ready g Z ceiling count
        ready_normalized =
            stands-ready g Z ceiling count most makes _ early-stands (sized-kept g Y Z sized_2 normalized.kept.long) (omega (arith, count-rows, ok.small)) ok.deep

        pub early_normalized : Early k (shape (table_at g Z ceiling count))
        early_normalized = stands-so g Z ceiling count most makes _ early-stands

        -- the classes have been noted
        module _ (T : List ℕ) (classed : Merged g Z T ceiling count) where
          still : table_at g T ceiling count ≡ table_at g Z ceiling count
          still = same-table g Z ceiling count ready_normalized T CLASS (LINK + 1) (omega arith) classed.kept

          classed-doing : Doing k most makes (table_at g T ceiling count)
          classed-doing = rw still (stands-doing g Z ceiling count most makes _ early-stands)

          pub is-classed : Classed g T ceiling count
          is-classed =
              record {
                ready = ready-kept g Z ceiling count ready_normalized T CLASS (LINK + 1) (omega arith) classed.kept;
                early = rw still early_normalized;
                classes_are = λ q h. rw still (classed.named q h);
              }

          -- the numbered table is the one with the rule added, by the uniqueness of canonical tables
          module _ (U : List ℕ) (total : ℕ) (numbered : Numbered g T U ceiling count 0 ceiling total) where
            abbrev last : Made k total most makes (λ t. Canonical k (shape t))
            last = numbered.made most makes classed-doing

            good : Good k ok.most ok.makes (table_at g W 0 n)
            good = record { doing = stands-doing g W 0 n _ _ _ ok.stands; canonical = stands-so g W 0 n _ _ _ ok.stands }

            last_is : last.table ≡ more g W n end r
            last_is =
                good_only k most makes (more g W n end r)
                (good_add k ok.most holds ok.makes (piecewise end (apply r)) (table_at g W 0 n) (rule_table k end r) good (doing-rule ok.longest k end r ok.valid))
                last.table last.doing.rows last.so last.doing.does

            all-rows : Kept g W U (InRows 0 g.rows)
            all-rows =
                kept_then g (InRows 0 g.rows) W X U
                (kept_wider g (InRows 0 g.rows) (InRows (base) (base + m)) W X ruled.kept (λ r' c' e' p. (omega arith, omega (arith, p.1, rule_fits, ruled.count_is))))
                (kept_then g (InRows 0 g.rows) X Y U
                (kept_wider g (InRows 0 g.rows) (InRows ceiling (ceiling + n * m)) X Y composed.kept (λ r' c' e' p. (omega arith, omega (arith, p.1, product-fits, ok.rows, ok.some))))
                (kept_then g (InRows 0 g.rows) Y Z U
                (kept_wider g (InRows 0 g.rows) (InRows ceiling (ceiling + count)) Y Z normalized.kept (λ r' c' e' p. (omega arith, omega (arith, p.1, count-rows, ok.rows, ok.some))))
                (kept_then g (InRows 0 g.rows) Z T U
                (kept_wider g (InRows 0 g.rows) (Spare g ceiling (ceiling + count) CLASS (LINK + 1)) Z T classed.kept (λ r' c' e' p. (omega arith, omega (arith, p.1, count-rows, ok.rows, ok.some))))
                (kept_wider g (InRows 0 g.rows) _ T U numbered.kept inside))))
              where
                inside : (r' c' e' : ℕ) → RowsNotes g 0 ceiling ceiling count r' c' e' → InRows 0 g.rows r' c' e'
                inside r' c' e' (inl p) = (omega arith, omega (arith, p.1, ok.rows, ok.some))
                inside r' c' e' (inr p) = (omega arith, omega (arith, p.1, count-rows, ok.rows, ok.some))

            pub added : Added g W U n ceiling end r total
            added =
                record {
                  count_is = sym last.long ∙ ap length last_is;
                  kept = all-rows;
                  holds = λ h. rw (← last_is) (numbered.holds most makes classed-doing h);
                }
