-- The rules that the reader's arrays hold: the last one, its closing, which rules have sets, and what writing a rule makes of them.
use Prim.Native.Nat.{ℕ, zero, suc, ◌-◌, ◌≤◌, ◌<◌}
use native.Mathlib.Omega.{arith}
use native.Mathlib.Decide.{ℕ_discrete, dec_lt}
use mathlib.Core.Path.{◌≡◌, refl, sym, ap, ◌∙◌, subst}
use mathlib.Core.Logic.{◌⊎◌, inl, inr}
use mathlib.Core.List.{List, [], ◌∷◌}
use mathlib.Core.Bool.{true, false}
use borrow.Author.Tests.{lt-ltb, le-ltb, eq-eqb, ne_eqb}
use lib.Dec.{eqb, ltb}
use lib.ListN.{length, get_or, set, take, drop, replicate, length-set, get_or-replicate}
use lib.Seq.{length-take-le, take-nil, get_or-take, get_or-set_same, get_or-set_other, set_out}
use Rattle.limits.specs.Limits.{most_rules, longest_pattern}
use Rattle.cascades.specs.Pattern.{Class, some_set, word, plain}
use Rattle.cascades.specs.Rule.{Kind, Rule, has_set, some_has_set}
use Rattle.cascades.specs.Value.{kind_of, rule_with, places, last_set}
use Rattle.cascades.proofs.Pattern.{word-plain, plain-none, places-length, places-plain, last_none, some-from, none_from, last-zero}
use Rattle.books.specs.Book.{opener}
use Rattle.books.specs.Read.{closing, opened}
use Rattle.books.specs.Arrays.{Arrays, holding, no_head, Shaped, place_at, tag_at, sets_at, row_at, rule_at, rules_down, rules_of, SetRows}
use Rattle.books.specs.declared.Head.{Head}
use Rattle.answers.specs.declared.Reason.TheVariants.{BadPattern, BadPlace, LateSet, SameTag}
use Rattle.std.specs.Prelude.{Ok, Err}
use Rattle.books.specs.Resume.{with_tags, Placed, faulted}
use Rattle.books.proofs.Step.{opener-kind}
use Rattle.books.proofs.Some.{none_of}

down-last : (a : Arrays) (m : ℕ) → (m ≡ 0 → ⊥) → rules_down a m ≡ rule_at a (m - 1) ∷ rules_down a (m - 1)
down-last a zero n = absurd (n refl)
down-last a (suc m) n = let e : suc m - 1 ≡ m = omega arith in rw e

pub pattern-long : (a : Arrays) (h : Shaped a) (i : ℕ) → i < most_rules → length (rule_at a i).pattern ≡ get_or a.lengths i 0
pattern-long a h i few =
    places-length (row_at a i) (take (sets_at a i) (get_or a.sets i []))
    ∙ length-take-le (get_or a.lengths i 0) (get_or a.rows i []) (omega (arith, h.length_short i, h.row_long i few))

-- ---- which rules have sets

pub sets-room : (a : Arrays) → Shaped a → (length a.sets ≡ 0 → ⊥) → length a.sets ≡ most_rules
sets-room a h some = elim h.sets_long [ inl e ↦ absurd (some e) | inr e ↦ e ]

module _ (a : Arrays) (h : Shaped a) (i : ℕ) (few : i < most_rules) where
  pub no_set : sets_at a i ≡ 0 → has_set (rule_at a i) ≡ false
  no_set e = last-zero (rule_at a i).pattern (h.last_is i few ∙ e)

  pub a_set : 0 < sets_at a i → has_set (rule_at a i) ≡ true
  a_set l = some-from (rule_at a i).pattern 0 (omega (arith, h.last_is i few))

-- without rows of sets there are none
module _ (a : Arrays) (none : length a.sets ≡ 0) where
  pub plain-rule : (i : ℕ) → (rule_at a i).pattern ≡ plain (row_at a i)
  plain-rule i = by a.sets none ∙ places-plain (row_at a i)
    where
      by : (l : List (List ℕ)) → length l ≡ 0 → places (row_at a i) (take (sets_at a i) (get_or l i [])) ≡ places (row_at a i) []
      by [] e = ap (places (row_at a i)) (take-nil (sets_at a i))
      by (x ∷ l) e = absurd (omega arith)

  pub plain-rules : (m : ℕ) → some_has_set (rules_of a m) ≡ false
  plain-rules m = none_of has_set some_has_set refl (λ r rs. refl) a m (λ i l. ap some_set (plain-rule i) ∙ plain-none (row_at a i))

-- ---- closing the last of m rules

module _ (a : Arrays) (h : Shaped a) (m : ℕ) (few : m ≤ most_rules) (some : m ≡ 0 → ⊥) where
  abbrev last : Rule
  last = rule_at a (m - 1)

  abbrev at : ℕ
  at = place_at a (m - 1)

  last-long : length last.pattern ≡ get_or a.lengths (m - 1) 0
  last-long = pattern-long a h (m - 1) (omega arith)

  pub closing-empty : get_or a.lengths (m - 1) 0 ≡ 0 → closing (rules_down a m) ≡ faulted (Err BadPattern)
  closing-empty e = cc (down-last a m some, le-ltb 0 (length last.pattern) (omega (arith, last-long)))

  module _ (long : get_or a.lengths (m - 1) 0 ≡ 0 → ⊥) where
    tagged : ltb 0 (length last.pattern) ≡ true
    tagged = lt-ltb 0 (length last.pattern) (omega (arith, last-long, long))

    pub closing_outside : get_or a.lengths (m - 1) 0 ≤ at → closing (rules_down a m) ≡ faulted (Err BadPlace)
    closing_outside p = cc (down-last a m some, tagged, le-ltb at (length last.pattern) (omega (arith, last-long)))

    module _ (inside : at < get_or a.lengths (m - 1) 0) where
      within : ltb at (length last.pattern) ≡ true
      within = lt-ltb at (length last.pattern) (omega (arith, last-long))

      pub closing-set : at < sets_at a (m - 1) → closing (rules_down a m) ≡ faulted (Err LateSet)
      closing-set l =
          cc (down-last a m some, tagged, within, some-from last.pattern at (omega (arith, h.last_is (m - 1) (omega arith))))

      module _ (before : sets_at a (m - 1) ≤ at) where
        free : some_set (drop at last.pattern) ≡ false
        free = none_from last.pattern at (omega (arith, h.last_is (m - 1) (omega arith)))

        there : get_or (word last.pattern) at 0 ≡ get_or (get_or a.rows (m - 1) []) at 0
        there =
            ap (λ (w : List ℕ). get_or w at 0) (h.word_is (m - 1) (omega arith))
            ∙ get_or-take (get_or a.lengths (m - 1) 0) (get_or a.rows (m - 1) []) at 0 inside

        pub closing_same : get_or (get_or a.rows (m - 1) []) at 0 ≡ tag_at a (m - 1) → closing (rules_down a m) ≡ faulted (Err SameTag)
        closing_same e =
            cc (down-last a m some, tagged, within, free, eq-eqb (get_or (word last.pattern) at 0) (tag_at a (m - 1)) (there ∙ e))

        pub closing-none : (get_or (get_or a.rows (m - 1) []) at 0 ≡ tag_at a (m - 1) → ⊥) → closing (rules_down a m) ≡ faulted (Ok tt)
        closing-none d =
            cc (down-last a m some, tagged, within, free, ne_eqb (get_or (word last.pattern) at 0) (tag_at a (m - 1)) (λ e. d (sym there ∙ e)))

-- ---- a rule that is written

pub down-length : (a : Arrays) (m : ℕ) → length (rules_down a m) ≡ m
down-length a zero = refl
down-length a (suc m) = ap suc (down-length a m)

down-same : (a a' : Arrays) (m : ℕ) → ((i : ℕ) → i < m → rule_at a' i ≡ rule_at a i) → rules_down a' m ≡ rules_down a m
down-same a a' zero h = refl
down-same a a' (suc m) h = cc (h m (omega arith), down-same a a' m (λ i l. h i (omega arith)))

set_same : {A : Type 0} (l : List A) (i : ℕ) (d : A) → set l i (get_or l i d) ≡ l
set_same [] zero d = refl
set_same [] (suc i) d = refl
set_same (x ∷ l) zero d = refl
set_same {A} (x ∷ l) (suc i) d = ap (λ (y : List A). x ∷ y) (set_same l i d)

set-short : (l : List ℕ) (i v n : ℕ) → v ≤ n → ((j : ℕ) → get_or l j 0 ≤ n) → (j : ℕ) → get_or (set l i v) j 0 ≤ n
set-short l i v n hv h j = at (ℕ_discrete j i) (dec_lt i (length l))
  where
    at : Dec (j ≡ i) → Dec (i < length l) → get_or (set l i v) j 0 ≤ n
    at (yes e) (yes f) = rw (e, get_or-set_same l i v 0 f) hv
    at (yes e) (no f) = rw (set_out l i v (omega arith)) (h j)
    at (no d) f = rw (get_or-set_other l i j v 0 d) (h j)

-- the arrays after the rule i has been written
abbrev pub put : Arrays → ℕ → List ℕ → ℕ → Head → List ℕ → Arrays
put a i row n head sets = holding (set a.rows i row) (set a.lengths i n) (set a.heads i head) (set a.sets i sets)

-- the pattern that it has got
abbrev put-pattern : Arrays → ℕ → List ℕ → ℕ → Head → List ℕ → List Class
put-pattern a i row n head sets = places (take n row) (take head.sets (get_or (set a.sets i sets) i []))

record Fits (a : Arrays) (i : ℕ) (row : List ℕ) (n : ℕ) (head : Head) (sets : List ℕ) : Type 0 where
  row_long : length row ≡ longest_pattern
  short : n ≤ longest_pattern
  set_long : i < length a.sets → length sets ≡ longest_pattern
  few : head.sets ≤ length (get_or (set a.sets i sets) i [])
  last_is : last_set (put-pattern a i row n head sets) ≡ head.sets
  word_is : word (put-pattern a i row n head sets) ≡ take n row

-- a rule without a set
plain_fits : (a : Arrays) (i : ℕ) (row : List ℕ) (n : ℕ) (head : Head) (sets : List ℕ) → length row ≡ longest_pattern → n ≤ longest_pattern
    → (i < length a.sets → length sets ≡ longest_pattern) → head.sets ≡ 0 → Fits a i row n head sets
plain_fits a i row n head sets long short rows none =
    record {
      row_long = long;
      short = short;
      set_long = rows;
      few = omega (arith, none);
      last_is = ap last_set plain-is ∙ last_none (plain (take n row)) (plain-none (take n row)) ∙ sym none;
      word_is = ap word plain-is ∙ word-plain (take n row);
    }
  where
    plain-is : put-pattern a i row n head sets ≡ plain (take n row)
    plain-is = ap (λ (x : ℕ). places (take n row) (take x (get_or (set a.sets i sets) i []))) none ∙ places-plain (take n row)

module _ (a : Arrays) (h : Shaped a) (i : ℕ) (few : i < most_rules) (row : List ℕ) (n : ℕ) (head : Head) (sets : List ℕ) where
  abbrev b : Arrays
  b = put a i row n head sets

  row_here : get_or b.rows i [] ≡ row
  row_here = get_or-set_same a.rows i row [] (omega (arith, h.rows_long))

  length-here : get_or b.lengths i 0 ≡ n
  length-here = get_or-set_same a.lengths i n 0 (omega (arith, h.lengths_long))

  head-here : get_or b.heads i no_head ≡ head
  head-here = get_or-set_same a.heads i head no_head (omega (arith, h.heads_long))

  put_other : (j : ℕ) → (j ≡ i → ⊥) → rule_at b j ≡ rule_at a j
  put_other j d =
      cc (
        get_or-set_other a.rows i j row [] d,
        get_or-set_other a.lengths i j n 0 d,
        get_or-set_other a.heads i j head no_head d,
        get_or-set_other a.sets i j sets [] d,
      )

  put-here : rule_at b i ≡ rule_with (kind_of (eqb head.command 0x24)) (put-pattern a i row n head sets) head.place head.tag
  put-here = cc (row_here, length-here, head-here)

  put-down : rules_down b (suc i) ≡ rule_with (kind_of (eqb head.command 0x24)) (put-pattern a i row n head sets) head.place head.tag ∷ rules_down a i
  put-down = cc (put-here, down-same a b i (λ j l. put_other j (λ e. omega arith)))

  at_each : (P : ℕ → Type 0) → P i → ((j : ℕ) → (j ≡ i → ⊥) → P j) → (j : ℕ) → P j
  at_each P here there j = by (ℕ_discrete j i)
    where
      by : Dec (j ≡ i) → P j
      by (yes e) = subst P (sym e) here
      by (no d) = there j d

  put-shaped : Fits a i row n head sets → Shaped b
  put-shaped f =
      record {
        rows_long = length-set a.rows i row ∙ h.rows_long;
        row_long = at_each (λ (j : ℕ). j < most_rules → length (get_or b.rows j []) ≡ longest_pattern)
            (λ l. ap length row_here ∙ f.row_long)
            (λ j d l. ap length (get_or-set_other a.rows i j row [] d) ∙ h.row_long j l);
        lengths_long = length-set a.lengths i n ∙ h.lengths_long;
        length_short = set-short a.lengths i n longest_pattern f.short h.length_short;
        heads_long = length-set a.heads i head ∙ h.heads_long;
        sets_long = sized h.sets_long;
        set_long = at_each (λ (j : ℕ). j < length b.sets → length (get_or b.sets j []) ≡ longest_pattern)
            (λ l. let m : i < length a.sets = omega (arith, length-set a.sets i sets) in ap length (get_or-set_same a.sets i sets [] m) ∙ f.set_long m)
            (λ j d l. ap length (get_or-set_other a.sets i j sets [] d) ∙ h.set_long j (omega (arith, length-set a.sets i sets)));
        sets_few = at_each (λ (j : ℕ). j < most_rules → sets_at b j ≤ length (get_or b.sets j []))
            (λ l. omega (arith, f.few, ap (λ (x : Head). x.sets) head-here))
            (λ j d l. omega (arith, h.sets_few j l, ap (λ (x : Head). x.sets) (get_or-set_other a.heads i j head no_head d), ap length (get_or-set_other a.sets i j sets [] d)));
        last_is = at_each (λ (j : ℕ). j < most_rules → last_set (rule_at b j).pattern ≡ sets_at b j)
            (λ l. cc (row_here, length-here, head-here, f.last_is))
            (λ j d l. cc (put_other j d, get_or-set_other a.heads i j head no_head d, h.last_is j l));
        word_is = at_each (λ (j : ℕ). j < most_rules → word (rule_at b j).pattern ≡ row_at b j)
            (λ l. cc (row_here, length-here, head-here, f.word_is))
            (λ j d l. cc (put_other j d, get_or-set_other a.rows i j row [] d, get_or-set_other a.lengths i j n 0 d, h.word_is j l));
      }
    where
      sized : (length a.sets ≡ 0) ⊎ (length a.sets ≡ most_rules) → (length (set a.sets i sets) ≡ 0) ⊎ (length (set a.sets i sets) ≡ most_rules)
      sized (inl e) = inl (length-set a.sets i sets ∙ e)
      sized (inr e) = inr (length-set a.sets i sets ∙ e)

-- ---- one more rule, with no pattern yet: at m, opened by the command c

abbrev pub opened-arrays : Arrays → ℕ → ℕ → ℕ → ℕ → Arrays
opened-arrays a m p t c = holding a.rows (set a.lengths m 0) (set a.heads m (record { place = p; tag = t; command = c; sets = 0 })) a.sets

module _ (a : Arrays) (h : Shaped a) (m : ℕ) (few : m < most_rules) (p t c : ℕ) where
  abbrev new-head : Head
  new-head = record { place = p; tag = t; command = c; sets = 0 }

  opened-put : put a m (get_or a.rows m []) 0 new-head (get_or a.sets m []) ≡ opened-arrays a m p t c
  opened-put = cc (set_same a.rows m [], set_same a.sets m [])

  pub opened-shaped : Shaped (opened-arrays a m p t c)
  opened-shaped =
      subst Shaped opened-put
      (put-shaped a h m few (get_or a.rows m []) 0 new-head (get_or a.sets m [])
      (plain_fits a m (get_or a.rows m []) 0 new-head (get_or a.sets m []) (h.row_long m few) (omega arith) (h.set_long m) refl))

  pub opened-empty : (get_or (opened-arrays a m p t c).lengths m 0 ≡ 0) × (sets_at (opened-arrays a m p t c) m ≡ 0)
  opened-empty = (
    get_or-set_same a.lengths m 0 0 (omega (arith, h.lengths_long)),
    ap (λ (x : Head). x.sets) (get_or-set_same a.heads m new-head no_head (omega (arith, h.heads_long))),
  )

  pub opened-down : (kind : Kind) → c ≡ opener kind → rules_down (opened-arrays a m p t c) (suc m) ≡ opened kind p t ∷ rules_down a m
  opened-down kind is =
      ap (λ (x : Arrays). rules_down x (suc m)) (sym opened-put)
      ∙ put-down a h m few (get_or a.rows m []) 0 new-head (get_or a.sets m [])
      ∙ cc (opener-kind kind)

-- ---- a pattern for the rule i, which has none yet

-- the arrays after it has got the first n tags of the row
abbrev pub tagged-arrays : Arrays → ℕ → List ℕ → ℕ → Arrays
tagged-arrays a i row n = holding (set a.rows i row) (set a.lengths i n) a.heads a.sets

-- the head with another place of its last set
abbrev pub with_sets : Head → ℕ → Head
with_sets head last = record { place = head.place; tag = head.tag; command = head.command; sets = last }

-- and after it has got n places, of which the last set is the one before `last`
abbrev pub placed_arrays : Arrays → ℕ → List ℕ → ℕ → List ℕ → ℕ → Arrays
placed_arrays a i row n sets last = put a i row n (with_sets (get_or a.heads i no_head) last) sets

pub untagged_down : (a : Arrays) (i : ℕ) → get_or a.lengths i 0 ≡ 0 → rules_down a (suc i) ≡ with_tags (rule_at a i) [] ∷ rules_down a i
untagged_down a i e = cc

module _ (a : Arrays) (h : Shaped a) (i : ℕ) (few : i < most_rules) (row : List ℕ) (long : length row ≡ longest_pattern) (none : sets_at a i ≡ 0) where
  abbrev head : Head
  head = get_or a.heads i no_head

  -- nothing but the rows has been written
  rows-put : (sets : List ℕ) → put a i row (get_or a.lengths i 0) head sets ≡ holding (set a.rows i row) a.lengths a.heads (set a.sets i sets)
  rows-put sets = cc (set_same a.lengths i 0, set_same a.heads i no_head)

  pub rows-shaped : (sets : List ℕ) → (i < length a.sets → length sets ≡ longest_pattern) → Shaped (holding (set a.rows i row) a.lengths a.heads (set a.sets i sets))
  rows-shaped sets rows =
      subst Shaped (rows-put sets)
      (put-shaped a h i few row (get_or a.lengths i 0) head sets (plain_fits a i row (get_or a.lengths i 0) head sets long (h.length_short i) rows none))

  pub row-shaped : Shaped (holding (set a.rows i row) a.lengths a.heads a.sets)
  row-shaped =
      subst (λ (x : List (List ℕ)). Shaped (holding (set a.rows i row) a.lengths a.heads x)) (set_same a.sets i []) (rows-shaped (get_or a.sets i []) (h.set_long i))

  tagged-put : (n : ℕ) → put a i row n head (get_or a.sets i []) ≡ tagged-arrays a i row n
  tagged-put n = cc (set_same a.heads i no_head, set_same a.sets i [])

  pub tagged-shaped : (n : ℕ) → n ≤ longest_pattern → Shaped (tagged-arrays a i row n)
  tagged-shaped n short =
      subst Shaped (tagged-put n)
      (put-shaped a h i few row n head (get_or a.sets i []) (plain_fits a i row n head (get_or a.sets i []) long short (h.set_long i) none))

  pub tagged-down : (n : ℕ) → rules_down (tagged-arrays a i row n) (suc i) ≡ with_tags (rule_at a i) (plain (take n row)) ∷ rules_down a i
  tagged-down n =
      ap (λ (x : Arrays). rules_down x (suc i)) (sym (tagged-put n))
      ∙ put-down a h i few row n head (get_or a.sets i [])
      ∙ ap (λ (u : List Class). with_tags (rule_at a i) u ∷ rules_down a i)
      (ap (λ (x : ℕ). places (take n row) (take x (get_or (set a.sets i (get_or a.sets i [])) i []))) none ∙ places-plain (take n row))

  module _ (sets : List ℕ) (wide : length sets ≡ longest_pattern) (room : i < length a.sets) (n last : ℕ) where
    sets-here : get_or (set a.sets i sets) i [] ≡ sets
    sets-here = get_or-set_same a.sets i sets [] room

    pattern-here : put-pattern a i row n (with_sets head last) sets ≡ places (take n row) (take last sets)
    pattern-here = cc sets-here

    pub placed_shaped : Placed row sets n last → Shaped (placed_arrays a i row n sets last)
    placed_shaped p =
        put-shaped a h i few row n (with_sets head last) sets
        (record {
          row_long = long;
          short = p.few;
          set_long = λ l. wide;
          few = omega (arith, ap length sets-here, wide, p.few, p.inside);
          last_is = ap last_set pattern-here ∙ p.last_is;
          word_is = ap word pattern-here ∙ p.word_is;
        })

    pub placed_down : rules_down (placed_arrays a i row n sets last) (suc i) ≡ with_tags (rule_at a i) (places (take n row) (take last sets)) ∷ rules_down a i
    placed_down =
        put-down a h i few row n (with_sets head last) sets
        ∙ cc pattern-here

-- ---- arrays of zeros, with rows of sets or without

abbrev pub fresh : List (List ℕ) → Arrays
fresh sets = holding (replicate most_rules (replicate longest_pattern 0)) (replicate most_rules 0) (replicate most_rules no_head) sets

zeros : (n i : ℕ) → ◌≡◌ {A = ℕ} (get_or (replicate n 0) i 0) 0
zeros zero i = refl
zeros (suc n) zero = refl
zeros (suc n) (suc i) = zeros n i

pub fresh_shaped : (sets : List (List ℕ)) → SetRows sets → Shaped (fresh sets)
fresh_shaped sets rows =
    record {
      rows_long = refl;
      row_long = λ i h. ap length (get_or-replicate most_rules i (replicate longest_pattern 0) [] h);
      lengths_long = refl;
      length_short = λ i. omega (arith, zeros most_rules i);
      heads_long = refl;
      sets_long = rows.sets_long;
      set_long = rows.set_long;
      sets_few = λ i h. omega (arith, ap (λ (x : Head). x.sets) (get_or-replicate most_rules i no_head no_head h));
      last_is = λ i h. ap last_set (empty i) ∙ sym (ap (λ (x : Head). x.sets) (get_or-replicate most_rules i no_head no_head h));
      word_is = λ i h. ap word (empty i) ∙ sym (no_row i);
    }
  where
    no_row : (i : ℕ) → row_at (fresh sets) i ≡ []
    no_row i = ap (λ (n : ℕ). take n (get_or (fresh sets).rows i [])) (zeros most_rules i)

    empty : (i : ℕ) → (rule_at (fresh sets) i).pattern ≡ []
    empty i = ap (λ (u : List ℕ). places u (take (sets_at (fresh sets) i) (get_or sets i []))) (no_row i)

pub no_rows : SetRows []
no_rows = record { sets_long = inl refl; set_long = λ i l. absurd (omega arith) }

pub zero-rows : SetRows (replicate most_rules (replicate longest_pattern 0))
zero-rows = record { sets_long = inr refl; set_long = λ i l. ap length (get_or-replicate most_rules i (replicate longest_pattern 0) [] l) }
