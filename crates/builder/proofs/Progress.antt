-- Compiling rule by rule: where it begins, goes on and ends.
use Prim.Native.Nat.{ℕ, zero, suc, ◌+◌, ◌-◌, ◌*◌, ◌^◌, ◌≤◌, ◌<◌}
use native.Mathlib.Omega.{arith}
use native.Mathlib.Nat.{mul-le-mul_left}
use native.Mathlib.Numerals.{add-one}
use mathlib.Core.Path.{◌≡◌, refl, sym, ap, ◌∙◌, subst}
use mathlib.Core.List.{List, [], ◌∷◌, ◌++◌, reverse-cons, append_assoc, append-nil}
use mathlib.Core.Bool.{Bool, true, false}
use borrow.Author.Tests.{le-leb, lt-leb}
use lib.ListN.{length}
use Rattle.limits.specs.Work.{rule_states, rule_holds}
use Rattle.limits.specs.declared.Limits.{Limits}
use Rattle.limits.proofs.Work.{rule_fits, deep_enough, states_most, few_states}
use Rattle.answers.specs.Outcome.{result, refused, rule}
use Rattle.cascades.specs.Rule.{Rule, has_set, ValidRule, ValidRules, Cascade, having, ending, some_has_set}
use Rattle.cascades.specs.Ending.{misused}
use Rattle.cascades.specs.Spares.{Spares, Spare}
use Rattle.cascades.proofs.Ending.{free_used, spares_used}
use Rattle.cascades.specs.Rewrite.{behavior}
use Rattle.books.specs.Arrays.{Arrays, rule_at, rules_down, rules_of, cascade_of}
use Rattle.books.proofs.Held.{rules-long}
use Rattle.books.proofs.Some.{not-one}
use Rattle.endings.proofs.Ending.{rule_used}
use Rattle.transducers.specs.Transducer.{puts}
use Rattle.transducers.specs.Table.{Table, shape}
use Rattle.transducers.specs.Canonical.{Same}
use Rattle.transducers.specs.Tabulate.{table}
use Rattle.minimal.specs.OneRule.{one_rule}
use Rattle.minimal.specs.TableOf.{identity, add_rule, table_of}
use Rattle.minimal.proofs.OneRule.{rule-few}
use Rattle.minimal.proofs.TableOf.{Good, good, table_of-append}
use Rattle.compilation.specs.Compile.{with_rules, compile_cascade}
use Rattle.workspace.specs.declared.Grid.{Grid}
use Rattle.workspace.specs.Cells.{Sized, Kept, InRows}
use Rattle.workspace.specs.Holds.{Holds, Ready, table_at}
use Rattle.workspace.proofs.Regions.{kept-none, kept_then, kept_wider, sized-kept}
use Rattle.workspace.proofs.Holds.{table-at, holds_at}
use Rattle.addition.specs.Addition.{Addable, more, Added}
use Rattle.builder.specs.Rules.{Compilable}
use Rattle.builder.specs.Rows.{TableInRows}

-- the most tags that i rules hold back
abbrev held_by : Limits → ℕ → ℕ
held_by lim i = rule_holds lim * i

-- the first i rules of the arrays, with the end tag
abbrev pub cut : ℕ → ℕ → Arrays → ℕ → Cascade
cut end k a i = ending end (cascade_of k a i)

-- n rules of the arrays from the i-th on
abbrev pub from : Arrays → ℕ → ℕ → List Rule
from a i zero = []
from a i (suc n) = rule_at a i ∷ from a (suc i) n

-- the first i rules are done: the rows from 0 hold their table of n states, and compiling goes on from there
pub record Progress (g : Grid) (W X : List ℕ) (ceiling end m : ℕ) (a : Arrays) (i n : ℕ) : Type 0 where
  pub kept : Kept g W X (InRows 0 g.rows)
  pub inside : i ≤ m
  pub few : n ≤ ceiling
  pub long : length (table_of (cut end g.tags a i)) ≡ n
  pub holds : Holds g X 0 (table_of (cut end g.tags a i))
  pub goes_on : compile_cascade ceiling (cut end g.tags a m) ≡ with_rules g.tags end ceiling i (table_of (cut end g.tags a i)) (from a i (m - i))

rules-next : (a : Arrays) (i : ℕ) → rules_of a (suc i) ≡ rules_of a i ++ (rule_at a i ∷ [])
rules-next a i = reverse-cons (rule_at a i) (rules_down a i)

rules-from : (a : Arrays) (n i : ℕ) → rules_of a i ++ from a i n ≡ rules_of a (i + n)
rules-from a zero i = let e : i + 0 ≡ i = omega arith in append-nil (rules_of a i) ∙ ap (rules_of a) (sym e)
rules-from a (suc n) i =
    let e : suc i + n ≡ i + suc n = omega arith in
    sym (append_assoc (rules_of a i) (rule_at a i ∷ []) (from a (suc i) n)) ∙ ap (λ (l : List Rule). l ++ from a (suc i) n) (sym (rules-next a i))
    ∙ rules-from a n (suc i) ∙ ap (rules_of a) e

valid-append : (l k : ℕ) (rs : List Rule) (r : Rule) → ValidRules l k rs → ValidRule l k r → ValidRules l k (rs ++ (r ∷ []))
valid-append l k [] r v h = (h, tt)
valid-append l k (s ∷ rs) r v h = (v.0, valid-append l k rs r v.1 h)

spare_append : (e : ℕ) (rs : List Rule) (r : Rule) → Spare e rs → Spares e r → Spare e (rs ++ (r ∷ []))
spare_append e [] r v h = (h, tt)
spare_append e (s ∷ rs) r v h = (v.0, spare_append e rs r v.1 h)

-- 14 is given for no rule
pub used : {lim : Limits} {states : ℕ} (g : Grid) (W : List ℕ) (ceiling end m : ℕ) (a : Arrays) → Compilable lim g W ceiling states end m a → (i : ℕ) → i < m → misused end (rule_at a i) ≡ false
used g W ceiling end m a ok = rule_used g.tags m end a (omega (arith, ok.readable.tags, ok.readable.ranged.few_tags)) ok.readable.held ok.fits

-- one more rule in the definition
module _ (k end c i : ℕ) (t u : Table) (r : Rule) (rs more : List Rule) (e : more ≡ r ∷ rs) (f : add_rule k end t r ≡ u) where
  with_next : length u ≤ c → with_rules k end c i t more ≡ with_rules k end c (i + 1) u rs
  with_next h = cc (e, f, le-leb (length u) c h, add-one i)

  with_over : c < length u → with_rules k end c i t more ≡ refused 10 (rule (i + 1))
  with_over h = cc (e, f, lt-leb (length u) c h, add-one i)

-- the identity's row, then all rows
pub all-kept : (g : Grid) (W X Y : List ℕ) → 1 ≤ g.rows → Kept g W X (InRows 0 1) → Kept g X Y (InRows 0 g.rows) → Kept g W Y (InRows 0 g.rows)
all-kept g W X Y some first rest =
    kept_then g (InRows 0 g.rows) W X Y
    (kept_wider g (InRows 0 g.rows) (InRows 0 1) W X first (λ r c e p. (omega arith, omega (arith, p.1)))) rest

-- after the identity's row
pub begun : {lim : Limits} {states : ℕ} (g : Grid) (W X : List ℕ) (ceiling end m : ℕ) (a : Arrays) → Compilable lim g W ceiling states end m a → length X ≡ length W → Compilable lim g X ceiling states end m a
begun g W X ceiling end m a ok long = record { sized = sized-kept g W X ok.sized long; states_are = ok.states_are; rows = ok.rows; depth = ok.depth; readable = ok.readable; fits = ok.fits }

module _ {lim : Limits} {states : ℕ} (g : Grid) (W : List ℕ) (ceiling end m : ℕ) (a : Arrays) (ok : Compilable lim g W ceiling states end m a) where
  abbrev k : ℕ
  k = g.tags

  abbrev l : ℕ
  l = lim.pattern

  valid_upto : (i : ℕ) → i ≤ m → ValidRules l k (rules_of a i)
  valid_upto zero h = tt
  valid_upto (suc i) h =
      subst (ValidRules l k) (sym (rules-next a i)) (valid-append l k (rules_of a i) (rule_at a i) (valid_upto i (omega arith)) (ok.readable.held.valid i (omega arith)))

  spare_upto : (i : ℕ) → i ≤ m → Spare end (rules_of a i)
  spare_upto zero h = tt
  spare_upto (suc i) h =
      subst (Spare end) (sym (rules-next a i)) (spare_append end (rules_of a i) (rule_at a i) (spare_upto i (omega arith)) (spares_used l k end (rule_at a i) (ok.readable.held.valid i (omega arith)) (used g W ceiling end m a ok i (omega arith))))

  good_upto : (i : ℕ) → i ≤ m → Good k (held_by lim i) (behavior (cut end k a i)) (table_of (cut end k a i))
  good_upto i h = let e : held_by lim (length (rules_of a i)) ≡ held_by lim i = ap (held_by lim) (rules-long a i) in rw (← e) (good l (cut end k a i) (valid_upto i h) (spare_upto i h))

  -- each rule's transducer has no more states than there is room for
  pub states_fit : (i : ℕ) → i < m → (one_rule (rule_at a i)).count ≤ states
  states_fit i h = by (some_has_set (rules_of a m)) refl
    where
      few : (has_set (rule_at a i) ≡ false → (one_rule (rule_at a i)).count ≤ suc (length (rule_at a i).pattern)) × ((one_rule (rule_at a i)).count ≤ suc (2 ^ (l - 1)))
      few = rule-few l k (rule_at a i) (ok.readable.held.valid i h)

      by : (b : Bool) → some_has_set (rules_of a m) ≡ b → (one_rule (rule_at a i)).count ≤ states
      by true e = omega (arith, few.1, ok.states_are ∙ ap (rule_states lim) e)
      by false e =
          omega (arith, few.0 (not-one has_set some_has_set refl (λ r rs. refl) a m i e h), (ok.readable.held.valid i h).short, ok.states_are ∙ ap (rule_states lim) e)

  -- no rule is done
  pub progress_start : Holds g W 0 (table k identity) → Progress g W W ceiling end m a 0 1
  progress_start holds =
      record {
        kept = kept-none g (InRows 0 g.rows) W;
        inside = omega arith;
        few = ok.readable.some;
        long = refl;
        holds = holds;
        goes_on =
            let e : 0 + m ≡ m = omega arith in
            let z : m - 0 ≡ m = omega arith in
            ap (with_rules k end ceiling 0 (table k identity)) (sym (rules-from a m 0 ∙ ap (rules_of a) e) ∙ ap (from a 0) (sym z));
      }

  module _ (X : List ℕ) (i n : ℕ) (p : Progress g W X ceiling end m a i n) where
    at-is : table_at g X 0 n ≡ table_of (cut end k a i)
    at-is = table-at g X 0 n (table_of (cut end k a i)) p.holds p.long

    sized_now : Sized g X
    sized_now = sized-kept g W X ok.sized p.kept.long

    -- any valid rule can be added next
    pub addable : i < m → (r : Rule) → ValidRule l k r → misused end r ≡ false → (one_rule r).count ≤ states → Addable g X n ceiling states end r
    addable h r v used room =
        let t = good_upto i (omega arith) in
        record {
          sized = sized_now;
          rows = omega (arith, ok.rows, rule_fits states ceiling ok.readable.some);
          some = ok.readable.some;
          small = omega (arith, few_states states ceiling (omega (arith, ok.states_are, states_most lim (some_has_set (rules_of a m)) ok.readable.ranged)) ok.readable.most);
          few = p.few;
          most = held_by lim i;
          makes = behavior (cut end k a i);
          stands = record { made = record { table = table_of (cut end k a i); long = p.long; doing = t.doing; so = t.canonical }; holds = p.holds };
          longest = l;
          states = room;
          deep = omega (arith, ok.depth, deep_enough (rule_holds lim) i m h);
          valid = v;
          free = free_used end r used;
        }

    module _ (h : i < m) (Y : List ℕ) (count : ℕ) (added : Added g X Y n ceiling end (rule_at a i) count) where
      more-is : more g X n end (rule_at a i) ≡ table_of (cut end k a (i + 1))
      more-is =
          ap (λ (t : Table). add_rule k end t (rule_at a i)) at-is ∙ sym (table_of-append (cut end k a i) (rules_of a i) (rule_at a i))
          ∙ ap (λ (rs : List Rule). table_of (having (cut end k a i) rs)) (sym (rules-next a i)) ∙ ap (λ (j : ℕ). table_of (cut end k a j)) (sym (add-one i))

      kept_now : Kept g W Y (InRows 0 g.rows)
      kept_now = kept_then g (InRows 0 g.rows) W X Y p.kept added.kept

      next_is : add_rule k end (table_of (cut end k a i)) (rule_at a i) ≡ table_of (cut end k a (i + 1))
      next_is = ap (λ (t : Table). add_rule k end t (rule_at a i)) (sym at-is) ∙ more-is

      rest : from a i (m - i) ≡ rule_at a i ∷ from a (i + 1) (m - (i + 1))
      rest = let e : m - i ≡ suc (m - (i + 1)) = omega arith in cc (e, add-one i)

      count_is : length (table_of (cut end k a (i + 1))) ≡ count
      count_is = ap length (sym more-is) ∙ sym added.count_is

      pub progress_next : count ≤ ceiling → Progress g W Y ceiling end m a (i + 1) count
      progress_next few =
          record {
            kept = kept_now;
            inside = omega arith;
            few = few;
            long = count_is;
            holds = rw (← more-is) (added.holds few);
            goes_on =
                p.goes_on
                ∙ with_next k end ceiling i (table_of (cut end k a i)) (table_of (cut end k a (i + 1))) (rule_at a i) (from a (i + 1) (m - (i + 1))) (from a i (m - i)) rest next_is
                (omega (arith, count_is));
          }

      pub too_many : ceiling < count → compile_cascade ceiling (cut end k a m) ≡ refused 10 (rule (i + 1))
      too_many many =
          p.goes_on
          ∙ with_over k end ceiling i (table_of (cut end k a i)) (table_of (cut end k a (i + 1))) (rule_at a i) (from a (i + 1) (m - (i + 1))) (from a i (m - i)) rest next_is
          (omega (arith, count_is))

      pub kept_too_many : Kept g W Y (InRows 0 g.rows)
      kept_too_many = kept_now

    ready : Ready g X 0 n
    ready =
        let t = good_upto i p.inside in
        record {
          sized = sized_now;
          inside = omega (arith, p.few, ok.rows);
          small = omega (arith, p.few, ok.readable.most);
          holds = holds_at g X 0 n (table_of (cut end k a i)) p.holds p.long;
          sound = rw at-is t.doing.sound;
          most = held_by lim i;
          held = rw at-is t.doing.held;
          room = omega (arith, ok.depth, mul-le-mul_left (rule_holds lim) p.inside);
        }

    -- all rules are done
    pub all_done : m ≤ i → TableInRows g X ceiling (cut end k a m) n
    all_done h =
        let e : m - i ≡ 0 = omega arith in
        let all : i ≡ m = omega (arith, p.inside) in
        record {
          ready = ready;
          few = p.few;
          is =
              p.goes_on ∙ ap (λ (j : ℕ). with_rules k end ceiling i (table_of (cut end k a i)) (from a i j)) e
              ∙ ap (λ (t : Table). result t) (sym at-is);
          does = subst (λ (j : ℕ). Same k (puts (shape (table_at g X 0 n)) 0) (behavior (cut end k a j))) all (rw at-is (good_upto i p.inside).doing.does);
        }
