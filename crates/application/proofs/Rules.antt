-- A book's rules one by one, and their numbers.
use Prim.Native.Nat.{ℕ, ◌+◌, ◌≤◌, ◌<◌, min}
use native.Mathlib.Omega.{arith}
use native.Mathlib.Numerals.{add-one}
use mathlib.Core.Path.{◌≡◌, sym, ap, ap₂, ◌∙◌, subst}
use mathlib.Core.List.{List, [], ◌∷◌, ◌++◌, reverse-cons}
use lib.ListN.{length, take, drop, replicate, length-drop, get_or-eq_default}
use lib.Seq.{length-take-le, drop-length, drop-append-le, drop_at}
use Rattle.limits.specs.Limits.{most_rules}
use Rattle.cascades.specs.Rule.{Rule}
use Rattle.cascades.specs.Pattern.{Class, word}
use Rattle.cascades.specs.Value.{rule_with, kind_of, last_set, rule_of, Formed}
use Rattle.cascades.specs.declared.Rule.{Rule as Value}
use Rattle.cascades.specs.Rewrite.{apply, apply_all}
use Rattle.cascades.specs.Spares.{Changes}
use Rattle.cascades.proofs.Pattern.{plain-pattern}
use Rattle.cascades.proofs.Rewrite.{apply_all-append}
use Rattle.books.specs.Arrays.{Arrays, Shaped, sets_at, rule_at, rules_down, rules_of}
use Rattle.books.proofs.Arrays.{pattern-long}
use Rattle.books.proofs.Held.{rules-long}
use Rattle.endings.specs.Usable.{Usable}
use Rattle.traces.specs.Trace.{Traced, beside, mark, trace_from, numbers_of}
use Rattle.traces.proofs.Theorems.{trace_from-tags, trace_snoc}

-- none of the first n rules stands from n on
pub none_from : (a : Arrays) (n : ℕ) → [] ≡ drop n (rules_of a n)
none_from a n = sym (ap (λ (j : ℕ). drop j (rules_of a n)) (sym (rules-long a n)) ∙ drop-length (rules_of a n))

-- the first n rules, of which r is the last
module _ (a : Arrays) (i n : ℕ) (next : n ≡ i + 1) (r : Rule) (is : r ≡ rule_at a i) where
  one_more : rules_of a n ≡ rules_of a i ++ (r ∷ [])
  one_more = ap (rules_of a) (next ∙ add-one i) ∙ reverse-cons (rule_at a i) (rules_down a i) ∙ ap (λ (q : Rule). rules_of a i ++ (q ∷ [])) (sym is)

  alone : drop i (rules_of a n) ≡ r ∷ []
  alone = ap (drop i) one_more ∙ drop_at (rules_of a i) (r ∷ []) i (rules-long a i)

  -- the last alone, and its number
  pub rule_alone : (w x : List ℕ) → x ≡ apply_all (drop i (rules_of a n)) w → x ≡ apply r w
  rule_alone w x e = e ∙ ap (λ (rs : List Rule). apply_all rs w) alone

  pub number_alone : (w v z : List ℕ) → z ≡ (trace_from (i + 1) (drop i (rules_of a n)) (beside w v)).numbers → z ≡ mark (length w) r n w v
  number_alone w v z e = e ∙ ap₂ (λ (j : ℕ) (rs : List Rule). (trace_from j rs (beside w v)).numbers) (sym next) alone

  module _ (from : ℕ) (h : from ≤ i) where
    more-from : drop from (rules_of a n) ≡ drop from (rules_of a i) ++ (r ∷ [])
    more-from = ap (drop from) one_more ∙ drop-append-le from (rules_of a i) (r ∷ []) (omega (arith, rules-long a i))

    -- one more rule
    pub rule-next : (w v : List ℕ) → v ≡ apply_all (drop from (rules_of a i)) w → apply r v ≡ apply_all (drop from (rules_of a n)) w
    rule-next w v e = ap (apply r) e ∙ sym (apply_all-append (drop from (rules_of a i)) (r ∷ []) w) ∙ ap (λ (rs : List Rule). apply_all rs w) (sym more-from)

    -- and its number
    pub number-next : (w x v z : List ℕ) → x ≡ apply_all (drop from (rules_of a i)) w → v ≡ (trace_from (from + 1) (drop from (rules_of a i)) (beside w z)).numbers
        → mark (length x) r n x v ≡ (trace_from (from + 1) (drop from (rules_of a n)) (beside w z)).numbers
    number-next w x v z e f =
        let rs = drop from (rules_of a i) in
        let so_far = trace_from (from + 1) rs (beside w z) in
        let tags : x ≡ so_far.tags = e ∙ sym (trace_from-tags (from + 1) rs (beside w z)) in
        let counted : n ≡ from + 1 + length rs = omega (arith, rules-long a i, length-drop from (rules_of a i)) in
        ap₂ (λ (y : List ℕ) (j : ℕ). mark (length y) r j y v) tags counted ∙ ap (mark (length so_far.tags) r (from + 1 + length rs) so_far.tags) f
        ∙ ap (λ (t : Traced). t.numbers) (sym (trace_snoc (from + 1) rs r (beside w z)))
        ∙ ap (λ (qs : List Rule). (trace_from (from + 1) qs (beside w z)).numbers) (sym more-from)

-- without rows for sets no rule has a set
pub no_sets : (m : ℕ) (a : Arrays) → Usable m a → length a.sets ≡ 0 → (i : ℕ) → i < m → sets_at a i ≡ 0
no_sets m a usable none i h =
    omega (arith, usable.few, usable.shaped.sets_few i (omega (arith, usable.few)), ap length (get_or-eq_default a.sets [] {n = i} (omega (arith, none))))

-- a rule that was read says where its last set is
pub sets-read : (a : Arrays) (i : ℕ) (v : Value) (ss : List ℕ) → Shaped a → i < most_rules → rule_of v ss ≡ rule_at a i → Formed v ss → v.sets ≡ sets_at a i
sets-read a i v ss s h e f = sym f.last_is ∙ ap (λ (r : Rule). last_set r.pattern) e ∙ s.last_is i h

-- a rule without sets needs no row of them
module _ (v : Value) (ss : List ℕ) (none : v.sets ≡ 0) where
  pub rule_without : rule_of v [] ≡ rule_of v ss
  rule_without = ap (λ (u : List Class). rule_with (kind_of v.everywhere) u v.place v.tag) (sym (plain-pattern v [] none) ∙ plain-pattern v ss none)

  pub formed_without : Formed v ss → Formed v []
  formed_without f =
      record {
        row_long = f.row_long;
        length_short = f.length_short;
        sets_long = omega (arith, none);
        last_is = ap (λ (r : Rule). last_set r.pattern) rule_without ∙ f.last_is;
        word_is = ap (λ (r : Rule). word r.pattern) rule_without ∙ f.word_is;
      }

-- a rule that can be used changes a tag
pub changes_at : (m : ℕ) (a : Arrays) → Usable m a → (i : ℕ) → i < m → (r : Rule) → r ≡ rule_at a i → Changes r
changes_at m a usable i h r is =
    subst Changes (sym is)
    (record {
      inside = omega (arith, usable.inside i h, pattern-long a usable.shaped i (omega (arith, usable.few)));
      fixed = usable.plain_from i h;
      new = usable.new i h;
    })

-- the numbers of a part of a sentence, where they have as much room as the sentence has tags
pub numbers-there : (rs : List Rule) (s v x : List ℕ) (r n : ℕ) → r ≤ length s → length s ≤ length v → n ≡ min r (length v)
    → x ≡ (trace_from 1 rs (beside (take r s) (replicate (length (take n v)) 0))).numbers → x ++ drop n v ≡ numbers_of rs (take r s) ++ drop r v
numbers-there rs s v x r n h beside-it lesser is =
    let e : n ≡ r = omega (arith, lesser, h, beside-it) in
    let long : length (take n v) ≡ length (take r s) = length-take-le n v (omega arith) ∙ e ∙ sym (length-take-le r s h) in
    ap₂ (λ (y : List ℕ) (i : ℕ). y ++ drop i v) (is ∙ ap (λ (i : ℕ). (trace_from 1 rs (beside (take r s) (replicate i 0))).numbers) long) e
