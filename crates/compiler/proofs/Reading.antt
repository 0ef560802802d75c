-- From the book's bytes to the rules, and the work slice after them.
use Prim.Native.Nat.{ℕ, zero, suc, ◌+◌, ◌-◌, ◌*◌, ◌≤◌, ◌<◌}
use native.Mathlib.Omega.{arith}
use native.Mathlib.Decide.{dec_lt}
use native.Mathlib.Nat.{mul-le-mul_left, suc-mul}
use mathlib.Core.Path.{◌≡◌, sym, ap, ap₂, ◌∙◌, subst}
use mathlib.Core.Bool.{Bool, true, false, not, ◌&&◌}
use mathlib.Core.List.{List, ◌++◌}
use borrow.Author.Tests.{le-leb, lt-leb}
use lib.Dec.{leb}
use lib.ListN.{length, drop, get_or, replicate, length-drop}
use lib.Seq.{ext_get_or, get_or-drop}
use Rattle.limits.specs.Limits.{most_tags, most_states, most_rules, InRange, in_range}
use Rattle.limits.specs.Work.{rule_states, rule_holds, work_rows, work_depth, work_entries}
use Rattle.limits.specs.declared.Limits.{Limits}
use Rattle.limits.proofs.Range.{within-is, without_is}
use Rattle.limits.proofs.Work.{states_most, few-rows, not-deep}
use Rattle.answers.specs.Outcome.{Place, Outcome, result, refused, nothing, and_then, provided}
use Rattle.answers.specs.Slice.{long_of, written}
use Rattle.answers.specs.Answer.{refusal}
use Rattle.answers.specs.declared.Refusal.{Refusal}
use Rattle.answers.specs.declared.Refusal.TheVariants.{AtByte, AtRule, Bare}
use Rattle.cascades.specs.Rule.{Cascade, ending, some_has_set}
use Rattle.cascades.specs.Ending.{bad_end}
use Rattle.books.specs.Arrays.{Arrays, rules_of, cascade_of}
use Rattle.books.specs.Read.{read}
use Rattle.books.specs.Ending.{fitted, read_ending}
use Rattle.books.specs.Resume.{ReadAs, Whole}
use Rattle.books.specs.declared.Count.{Count}
use Rattle.books.specs.declared.Unread.{Unread}
use Rattle.books.specs.declared.Unread.TheVariants.{Refused, Sets}
use Rattle.std.specs.Prelude.{Result, Ok, Err}
use Rattle.books.proofs.Encode.{reads_exactly}
use Rattle.books.proofs.Held.{rules-long, was_refused, was_read, rules-held}
use Rattle.compilation.specs.Compile.{entries, roomed, tested, built, compile_answer}
use Rattle.workspace.specs.declared.Grid.{Grid}
use Rattle.workspace.specs.Cells.{ix, at, Kept, InRows}
use Rattle.workspace.proofs.Places.{ix-below}
use Rattle.answers.specs.Answer.{outcome_of, number_of, Filled}
use Rattle.compiler.specs.Answer.{worked}
use Rattle.compiler.specs.Rows.{grid_of}
use Rattle.builder.specs.Rules.{Readable, Compilable}
use Rattle.compiler.specs.Ended.{Ended}

-- ---- the numbers

pub product_small : (a b c : ℕ) → a ≤ 66560 → b ≤ 49 → c ≤ 120 → (a * b ≤ 3261440) × (a * b * c ≤ 391372800)
product_small a b c ha hb hc =
    let one : a * b ≤ 3261440 = omega (arith, mul-le-mul_left a hb) in
    (one, omega (arith, mul-le-mul_left (a * b) hc))

-- the rows for limits in their ranges
module _ (lim : Limits) (r : InRange lim) (s n m : ℕ) (states : s ≤ 129) (most : n ≤ most_states) (few : m ≤ most_rules) where
  pub rows_few : work_rows s n ≤ 66560
  rows_few = few-rows s n states most

  pub depth-few : work_depth (rule_holds lim) m ≤ 120
  depth-few = not-deep (rule_holds lim) m (omega (arith, r.short_pattern)) few

-- g is the rows for the limits
module _ (lim : Limits) (k ceiling m : ℕ) (a : Arrays) (ok : Readable lim k ceiling m a) (s : ℕ) (is : s ≡ rule_states lim (some_has_set (rules_of a m))) (g : Grid) (e : g ≡ grid_of lim s k ceiling m) where
  states-few : s ≤ 129
  states-few = omega (arith, is, states_most lim (some_has_set (rules_of a m)) ok.ranged)

  pub grid_small : (g.rows ≤ 66560) × (g.tags ≤ most_tags) × (g.depth ≤ 120)
  grid_small =
      subst (λ (h : Grid). (h.rows ≤ 66560) × (h.tags ≤ most_tags) × (h.depth ≤ 120)) (sym e) (
        rows_few lim ok.ranged s ceiling m states-few ok.most ok.held.few,
        omega (arith, ok.tags, ok.ranged.few_tags),
        depth-few lim ok.ranged s ceiling m states-few ok.most ok.held.few,
      )

  pub compilable : (end : ℕ) (W : List ℕ) → bad_end (ending end (cascade_of k a m)) ≡ false → g.rows * (g.tags + 1) * g.depth ≤ length W
      → Compilable lim g W ceiling s end m a
  compilable end W fits room =
      let small = grid_small in
      record {
        sized =
            record {
              room = room;
              rows_small = omega (arith, small.0);
              tags_small = omega (arith, small.1);
              depth_small = omega (arith, small.2);
            };
        states_are = is;
        rows = ap (λ (h : Grid). h.rows) e;
        depth = ap (λ (h : Grid). h.depth) e;
        readable = subst (λ (h : Grid). Readable lim h.tags ceiling m a) (sym e) ok;
        fits = ap (λ (h : Grid). bad_end (ending end (cascade_of h.tags a m))) e ∙ fits;
      }

-- ---- the entries after the rows

record Split (d i : ℕ) : Type 0 where
  quotient : ℕ
  rest : ℕ
  is : quotient * d + rest ≡ i
  less : rest < d

split : (d i : ℕ) → 0 < d → Split d i
split d zero h = record { quotient = 0; rest = 0; is = omega arith; less = h }
split d (suc i) h = more (split d i h)
  where
    by : (s : Split d i) → Dec (s.rest + 1 < d) → Split d (suc i)
    by s (yes l) = record { quotient = s.quotient; rest = s.rest + 1; is = omega (arith, s.is); less = l }
    by s (no l) = record { quotient = suc s.quotient; rest = 0; is = omega (arith, s.is, s.less, suc-mul s.quotient d); less = h }

    more : Split d i → Split d (suc i)
    more s = by s (dec_lt (s.rest + 1) d)

pub beyond : (g : Grid) (W X : List ℕ) → 0 < g.depth → Kept g W X (InRows 0 g.rows)
    → drop (g.rows * (g.tags + 1) * g.depth) X ≡ drop (g.rows * (g.tags + 1) * g.depth) W
unfolding at ix
beyond g W X deep kept =
    ext_get_or 0 (drop all X) (drop all W) (length-drop all X ∙ ap (λ (n : ℕ). n - all) kept.long ∙ sym (length-drop all W))
    (λ i h. get_or-drop all X i 0 ∙ one i ∙ sym (get_or-drop all W i 0))
  where
    all : ℕ
    all = g.rows * (g.tags + 1) * g.depth

    one : (i : ℕ) → get_or X (all + i) 0 ≡ get_or W (all + i) 0
    one i =
        let s = split g.depth (all + i) deep in
        let t = split (g.tags + 1) s.quotient (omega arith) in
        let place : ix g t.quotient t.rest s.rest ≡ all + i = ap (λ (n : ℕ). n * g.depth + s.rest) t.is ∙ s.is in
        subst (λ (n : ℕ). get_or X n 0 ≡ get_or W n 0) place
        (kept.same t.quotient t.rest s.rest t.less s.less
        (λ p. let b = ix-below g t.quotient t.rest s.rest (record { row = p.1; cell = t.less; entry = s.less }) in omega (arith, place, b)))

-- ---- the stages

-- a refusal that comes before a state is built: nothing is written
pub refused-ended : (lim : Limits) (t : Outcome Cascade) (n j : ℕ) (p : Place) → t ≡ refused j p → (r : Result ℕ Refusal) → outcome_of r ≡ refused j p
    → (W out : List ℕ) → Ended lim t n W W out out r
refused-ended lim t n j p e r f W out = record { gave = record { answered = cc (e, f); wrote = cc (e) }; worked_is = cc (e) }

-- the rules that have been read, with g for their rows in code and l for the end tag
module _ (lim : Limits) (k ceiling end m : ℕ) (a : Arrays) (s : ℕ) (is : s ≡ rule_states lim (some_has_set (rules_of a m))) (g : Grid) (e : g ≡ grid_of lim s k ceiling m) where
  abbrev pub read_with : ℕ → ℕ → Cascade
  read_with n i = ending i (cascade_of n a m)

  abbrev pub all : ℕ
  all = g.rows * (g.tags + 1) * g.depth

  pub all_are : all ≡ entries lim ceiling (read_with k end)
  all_are =
      ap (λ (h : Grid). h.rows * (h.tags + 1) * h.depth) e ∙ ap (λ (x : ℕ). work_rows x ceiling * (k + 1) * work_depth (rule_holds lim) m) is
      ∙ ap (work_entries lim (some_has_set (rules_of a m)) ceiling k) (sym (rules-long a m))

  -- 14 is not given for the end tag in code
  pub with_end : bad_end (read_with k end) ≡ false → (l : ℕ) → l ≡ end → bad_end (read_with k l) ≡ false
  with_end fits l f = ap (λ (i : ℕ). bad_end (read_with k i)) f ∙ fits

  pub short : (W out : List ℕ) → length W < all → (r : Result ℕ Refusal) → outcome_of r ≡ refused 9 nothing
      → Ended lim (roomed lim ceiling (length W) (read_with k end)) ceiling W W out out r
  short W out h r f =
      let c = read_with k end in
      let less : length W < entries lim ceiling c = subst (λ (n : ℕ). length W < n) all_are h in
      let is : roomed lim ceiling (length W) c ≡ refused 9 nothing = cc (lt-leb (entries lim ceiling c) (length W) less) in
      refused-ended lim (roomed lim ceiling (length W) c) ceiling 9 nothing is r f W out

  pub ended : (l : ℕ) → l ≡ end → (W X Y out after : List ℕ) (r : Result ℕ Refusal) → all ≤ length W
      → Filled (built ceiling (length out) (read_with g.tags l)) out after r
      → Kept g W X (InRows 0 g.rows) → Y ≡ replicate all 0 ++ drop all X
      → Ended lim (roomed lim ceiling (length W) (read_with k end)) ceiling W Y out after r
  ended l f W X Y out after r h gave kept wiped =
      let c = read_with k end in
      let enough : entries lim ceiling c ≤ length W = subst (λ (n : ℕ). n ≤ length W) all_are h in
      let is : roomed lim ceiling (length W) c ≡ result c = cc (le-leb (entries lim ceiling c) (length W) enough) in
      let tags : g.tags ≡ k = ap (λ (h : Grid). h.tags) e in
      let deep : g.depth ≡ work_depth (rule_holds lim) m = ap (λ (h : Grid). h.depth) e in
      let done : Filled (built ceiling (length out) c) out after r = subst (λ (d : Cascade). Filled (built ceiling (length out) d) out after r) (ap₂ read_with tags f) gave in
      let zero-then : Y ≡ replicate (entries lim ceiling c) 0 ++ drop (entries lim ceiling c) W =
      wiped ∙ ap (λ (l : List ℕ). replicate all 0 ++ l) (beyond g W X (omega (arith, deep)) kept) ∙ ap (λ (n : ℕ). replicate n 0 ++ drop n W) all_are
      in
      record {
        gave = subst (λ (o : Outcome Cascade). Filled (and_then o (built ceiling (length out))) out after r) (sym is) done;
        worked_is = zero-then ∙ ap (λ (o : Outcome Cascade). worked lim ceiling o W) (sym is);
      }

-- ---- 14

module _ (lim : Limits) (ceiling end work : ℕ) (c : Cascade) (b : Bool) (is : b ≡ bad_end (ending end c)) where
  abbrev told : Bool → Outcome Cascade
  told x = and_then (provided 14 (not x) (result (ending end c))) (roomed lim ceiling work)

  pub bad : b ≡ true → and_then (fitted end c) (roomed lim ceiling work) ≡ refused 14 nothing
  bad h = ap told (sym is ∙ h)

  pub fitting-end : b ≡ false → bad_end (ending end c) ≡ false
  fitting-end h = sym is ∙ h

  pub fits-ended : b ≡ false → (W X before after : List ℕ) (r : Result ℕ Refusal) → Ended lim (roomed lim ceiling work (ending end c)) ceiling W X before after r
      → Ended lim (and_then (fitted end c) (roomed lim ceiling work)) ceiling W X before after r
  fits-ended h W X before after r = subst (λ (o : Outcome Cascade). Ended lim o ceiling W X before after r) (sym (ap told (sym is ∙ h)))

-- ---- the book, where the limits are in their ranges

module _ (lim : Limits) (ranged : InRange lim) (book : List ℕ) (end n work : ℕ) where
  tested-is : (b : Bool) → (leb 1 n && leb n most_states) ≡ b → tested lim book end n work ≡ provided 8 b (and_then (read_ending lim book end) (roomed lim n work))
  tested-is b e =
      within-is lim (provided 8 (leb 1 n && leb n most_states) (and_then (read_ending lim book end) (roomed lim n work))) ranged
      ∙ ap (λ (x : Bool). provided 8 x (and_then (read_ending lim book end) (roomed lim n work))) e

  -- 8
  pub too_low : n < 1 → tested lim book end n work ≡ refused 8 nothing
  too_low h = tested-is false (ap (λ (b : Bool). b && leb n most_states) (lt-leb 1 n h))

  from_one : 1 ≤ n → (b : Bool) → leb n most_states ≡ b → (leb 1 n && leb n most_states) ≡ b
  from_one h b e = ap (λ (x : Bool). x && leb n most_states) (le-leb 1 n h) ∙ e

  pub too_high : 1 ≤ n → most_states < n → tested lim book end n work ≡ refused 8 nothing
  too_high h l = tested-is false (from_one h false (lt-leb n most_states l))

  module _ (low : 1 ≤ n) (high : n ≤ most_states) where
    goes_on : tested lim book end n work ≡ and_then (and_then (read lim book) (fitted end)) (roomed lim n work)
    goes_on = tested-is true (from_one low true (le-leb n most_states high))

    module _ (a : Arrays) (r : Result Count Unread) (w : Whole lim book a r) where
      pub book_refused : (x : Refusal) → r ≡ Err (Refused x) → (q : Result ℕ Refusal) → outcome_of q ≡ refusal x
          → (W out : List ℕ) → Ended lim (tested lim book end n work) n W W out out q
      book_refused x f q g W out = by x (was_refused book a r w x f) g
        where
          stays : (j : ℕ) (p : Place) → read lim book ≡ refused j p → tested lim book end n work ≡ refused j p
          stays j p e = goes_on ∙ ap (λ (c : Outcome Cascade). and_then (and_then c (fitted end)) (roomed lim n work)) e

          by : (x : Refusal) → read lim book ≡ refusal x → outcome_of q ≡ refusal x → Ended lim (tested lim book end n work) n W W out out q
          by (AtByte j p) e g = refused-ended lim (tested lim book end n work) n (number_of j) _ (stays (number_of j) _ e) q g W out
          by (AtRule j p) e g = refused-ended lim (tested lim book end n work) n (number_of j) _ (stays (number_of j) _ e) q g W out
          by (Bare j) e g = refused-ended lim (tested lim book end n work) n (number_of j) _ (stays (number_of j) _ e) q g W out

      module _ (b : Count) (f : r ≡ Ok b) where
        pub read-readable : Readable lim b.tags n b.rules a
        read-readable =
            let v = ((reads_exactly book (cascade_of b.tags a b.rules)).0 (was_read book a r w b f)).0 in
            record { ranged = ranged; some = low; most = high; tags = v.few_tags; held = rules-held book a r w b f ranged }

        pub book_ended : (W X out after : List ℕ) (q : Result ℕ Refusal) → length W ≡ work
            → Ended lim (and_then (fitted end (cascade_of b.tags a b.rules)) (roomed lim n (length W))) n W X out after q → Ended lim (tested lim book end n work) n W X out after q
        book_ended W X out after q lw h =
            let is : and_then (fitted end (cascade_of b.tags a b.rules)) (roomed lim n (length W)) ≡ tested lim book end n work =
            ap (λ (i : ℕ). and_then (fitted end (cascade_of b.tags a b.rules)) (roomed lim n i)) lw
            ∙ ap (λ (c : Outcome Cascade). and_then (and_then c (fitted end)) (roomed lim n work)) (sym (was_read book a r w b f))
            ∙ sym goes_on
            in
            subst (λ (o : Outcome Cascade). Ended lim o n W X out after q) is h

-- a set was met that there is no room for
pub no_room : {lim : Limits} (book : List ℕ) (a : Arrays) (r : Result Count Unread) → Whole lim book a r → r ≡ Err Sets → length a.sets ≡ 0
no_room {lim} book a r w e = subst (λ (x : Result Count Unread). ReadAs x a (read lim book)) e w.outcome

-- and the call has begun again with the same slices
pub again_ended : (lim : Limits) (book : List ℕ) (end n : ℕ) (U W X out before after : List ℕ) (r : Result ℕ Refusal) → U ≡ W → out ≡ before
    → Ended lim (tested lim book end n (length U)) n U X out after r → Ended lim (tested lim book end n (length W)) n W X before after r
again_ended lim book end n U W X out before after r e f h =
    subst (λ (x : List ℕ). Ended lim (tested lim book end n (length W)) n W X x after r) f
    (subst (λ (x : List ℕ). Ended lim (tested lim book end n (length x)) n x X out after r) e h)

-- 17
pub out_of_range : (lim : Limits) (book : List ℕ) (end n work : ℕ) → in_range lim ≡ false → tested lim book end n work ≡ refused 17 nothing
out_of_range lim book end n work = without_is lim (provided 8 (leb 1 n && leb n most_states) (and_then (read_ending lim book end) (roomed lim n work)))

-- the three equations of the call
pub all_three : (lim : Limits) (book : List ℕ) (end n work : ℕ) {W X before after : List ℕ} {r : Result ℕ Refusal} → Ended lim (tested lim book end n work) n W X before after r
    → (outcome_of r ≡ long_of (compile_answer lim book end n work (length before)))
    × ((after ≡ written (compile_answer lim book end n work (length before)) before) × (X ≡ worked lim n (tested lim book end n work) W))
all_three lim book end n work h = (h.gave.answered, (h.gave.wrote, h.worked_is))
