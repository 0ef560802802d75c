-- The stages of the check, from the last to the first.
use Prim.Native.Nat.{ℕ, ◌+◌, ◌*◌, ◌≤◌, ◌<◌}
use native.Mathlib.Omega.{arith}
use mathlib.Core.Path.{◌≡◌, refl, sym, ap, ap₂, ◌∙◌, subst}
use mathlib.Core.Bool.{Bool, true, false, not}
use mathlib.Core.List.{List, ◌++◌}
use borrow.Author.Tests.{le-leb, lt-leb, eq-eqb, ne_eqb}
use lib.Dec.{eqb}
use lib.ListN.{length, drop, replicate}
use Rattle.std.specs.Prelude.{Option, Result, Ok, Err}
use Rattle.words.specs.Word.{Below}
use Rattle.limits.specs.Limits.{most_states, InRange, in_range}
use Rattle.limits.specs.Work.{rule_states, rule_holds, work_depth}
use Rattle.limits.specs.declared.Limits.{Limits}
use Rattle.limits.proofs.Range.{within-is, without_is}
use Rattle.answers.specs.Outcome.{Outcome, result, refused, nothing, and_then, provided}
use Rattle.answers.specs.Answer.{refusal}
use Rattle.answers.proofs.Outcome.{refusal_then}
use Rattle.answers.specs.declared.Reason.TheVariants.{ShortWork}
use Rattle.answers.specs.declared.Refusal.{Refusal}
use Rattle.answers.specs.declared.Refusal.TheVariants.{AtByte, AtRule, Bare}
use Rattle.cascades.specs.Rule.{Cascade, ending, some_has_set}
use Rattle.cascades.specs.Ending.{bad_end}
use Rattle.books.specs.Arrays.{Arrays, rules_of, cascade_of}
use Rattle.books.specs.Read.{read}
use Rattle.books.specs.Ending.{fitted, read_ending}
use Rattle.books.specs.Resume.{Whole}
use Rattle.books.specs.declared.Count.{Count}
use Rattle.books.specs.declared.Unread.{Unread}
use Rattle.books.specs.declared.Unread.TheVariants.{Refused}
use Rattle.books.proofs.Held.{was_refused, was_read}
use Rattle.transducers.specs.Table.{Table}
use Rattle.tables.specs.Decode.{Decoded, decode, decode_within}
use Rattle.compilation.specs.Compile.{entries}
use Rattle.workspace.specs.declared.Grid.{Grid}
use Rattle.workspace.specs.Cells.{Kept, InRows}
use Rattle.decoder.specs.Index.{Head, HeadRead, Loaded}
use Rattle.steps.specs.declared.Size.{Size}
use Rattle.decoder.proofs.Loading.{states-read}
use Rattle.steps.proofs.Places.{all-entries}
use Rattle.compiler.specs.Rows.{grid_of}
use Rattle.compiler.proofs.Reading.{all_are, beyond}
use Rattle.equivalence.specs.Tables.{table_of}
use Rattle.checking.specs.Check.{Pair, paired, roomy, checkable, checked, compared, Answers, wiped}
use Rattle.checker.specs.Ended.{pair_of, Given, Ended, after_table, after_end, after_book}

-- a refusal that comes before a state is built: nothing is written
pub refused-ended : (lim : Limits) (t : Outcome Pair) (r : Refusal) → t ≡ refusal r → (W out : List ℕ) → Ended lim t W W out out (Err r)
refused-ended lim t r e W out = by r e
  where
    by : (r : Refusal) → t ≡ refusal r → Ended lim t W W out out (Err r)
    by (AtByte j p) e = record { said = (cc (e), refl); wiped_is = cc (e) }
    by (AtRule j p) e = record { said = (cc (e), refl); wiped_is = cc (e) }
    by (Bare j) e = record { said = (cc (e), refl); wiped_is = cc (e) }

-- a refusal stays, and stays
twice_refused : {A B C : Type 0} (r : Refusal) (f : A → Outcome B) (g : B → Outcome C) → and_then (and_then (refusal r) f) g ≡ refusal r
twice_refused r f g = ap (λ (o : Outcome _). and_then o g) (refusal_then r f) ∙ refusal_then r g

-- the tests by another name
pub ended_by : {lim : Limits} {t u : Outcome Pair} {W X before after : List ℕ} {r : Result (Option ℕ) Refusal} → t ≡ u → Ended lim t W X before after r → Ended lim u W X before after r
ended_by {lim} {t} {u} {W} {X} {before} {after} {r} e h = subst (λ (o : Outcome Pair). Ended lim o W X before after r) e h

-- ---- 9

module _ (lim : Limits) (bs : List ℕ) (k end m : ℕ) (a : Arrays) (s : ℕ) (is : s ≡ rule_states lim (some_has_set (rules_of a m))) (g : Grid) (e : g ≡ grid_of lim s k most_states m) where
  abbrev c : Cascade
  c = ending end (cascade_of k a m)

  whole : g.rows * (g.tags + 1) * g.depth ≡ entries lim most_states c
  whole = all_are lim k most_states end m a s is g e

  pub too_short : (W out : List ℕ) → length W < g.rows * (g.tags + 1) * g.depth → Ended lim (after_table lim bs (length W) c) W W out out (Err (Bare ShortWork))
  too_short W out h =
      let less : length W < entries lim most_states c = omega (arith, whole) in
      refused-ended lim (after_table lim bs (length W) c) (Bare ShortWork) (cc (lt-leb (entries lim most_states c) (length W) less)) W out

  pub read-ended : (l : ℕ) → l ≡ end → (W X Y out after : List ℕ) (r : Result (Option ℕ) Refusal) → g.rows * (g.tags + 1) * g.depth ≤ length W
      → Answers (compared (length out) (pair_of lim bs (ending l (cascade_of g.tags a m)))) out after r
      → Kept g W X (InRows 0 g.rows) → Y ≡ replicate (g.rows * (g.tags + 1) * g.depth) 0 ++ drop (g.rows * (g.tags + 1) * g.depth) X
      → Ended lim (after_table lim bs (length W) c) W Y out after r
  read-ended l f W X Y out after r h said kept zero =
      let enough : entries lim most_states c ≤ length W = omega (arith, whole) in
      let goes : after_table lim bs (length W) c ≡ result (pair_of lim bs c) = cc (le-leb (entries lim most_states c) (length W) enough) in
      let tags : g.tags ≡ k = ap (λ (h : Grid). h.tags) e in
      let deep : g.depth ≡ work_depth (rule_holds lim) m = ap (λ (h : Grid). h.depth) e in
      let done : Answers (compared (length out) (pair_of lim bs c)) out after r =
      subst (λ (d : Cascade). Answers (compared (length out) (pair_of lim bs d)) out after r) (ap₂ (λ (i j : ℕ). ending j (cascade_of i a m)) tags f) said in
      let zero-then : Y ≡ replicate (entries lim most_states c) 0 ++ drop (entries lim most_states c) W =
      zero ∙ ap (λ (l : List ℕ). replicate (g.rows * (g.tags + 1) * g.depth) 0 ++ l) (beyond g W X (omega (arith, deep)) kept) ∙ ap (λ (n : ℕ). replicate n 0 ++ drop n W) whole in
      record {
        said = subst (λ (o : Outcome Pair). Answers (and_then o (compared (length out))) out after r) (sym goes) done;
        wiped_is = zero-then ∙ ap (λ (o : Outcome Pair). wiped lim o W) (sym goes);
      }

-- ---- 12 and 20

-- the table's head and its index
module _ (lim : Limits) (bs : List ℕ) where
  pub head_of : (r : Result Size Refusal) → HeadRead lim bs r → (size : Size) → r ≡ Ok size → Head lim bs size.tags size.states
  head_of r h size e = subst (HeadRead lim bs) e h

  pub head-refused : (r : Result Size Refusal) → HeadRead lim bs r → (x : Refusal) → r ≡ Err x → decode_within lim bs ≡ refusal x
  head-refused r h x e = subst (HeadRead lim bs) e h

  pub few_entries_of : (k s : ℕ) → Head lim bs k s → s * (k + 1) ≤ 12544
  few_entries_of k s h = all-entries s k h.few_states h.few_tags

  pub is-given : (t k s : ℕ) (ix : List ℕ) → Head lim bs t s → Below 0x100 bs → Loaded lim bs t ix → t ≡ k → Given lim bs k s ix
  is-given t k s ix h bytes u e =
      subst (λ (i : ℕ). Given lim bs i s ix) e
      (record { loaded = u; states = states-read bs ix t s h bytes u })

module _ (lim : Limits) (ranged : InRange lim) (bs : List ℕ) (work : ℕ) (c : Cascade) where
  abbrev decoded : Outcome Decoded → Outcome Pair
  decoded o = and_then (and_then o (λ d. provided 20 (eqb d.tags c.tags) (result (record { cascade = c; table = d.table })))) (roomy lim work)

  decoded-is : (o : Outcome Decoded) → decode_within lim bs ≡ o → after_end lim bs work c ≡ decoded o
  decoded-is o e = ap decoded (sym (within-is lim (decode lim bs) ranged) ∙ e)

  pub table-refused : (r : Refusal) → decode_within lim bs ≡ refusal r → after_end lim bs work c ≡ refusal r
  table-refused r e = decoded-is (refusal r) e ∙ twice_refused r _ (roomy lim work)

  module _ {k : ℕ} {ix : List ℕ} (u : Loaded lim bs k ix) where
    with_tags_lem : (b : Bool) → eqb k c.tags ≡ b → after_end lim bs work c ≡ and_then (provided 20 b (result (record { cascade = c; table = u.table }))) (roomy lim work)
    with_tags_lem b e = decoded-is _ u.decodes ∙ ap (λ (x : Bool). and_then (provided 20 x (result (record { cascade = c; table = u.table }))) (roomy lim work)) e

    pub other-tags : (k ≡ c.tags → ⊥) → after_end lim bs work c ≡ refused 20 nothing
    other-tags d = with_tags_lem false (ne_eqb k c.tags d)

    pub same-tags : k ≡ c.tags → after_table lim bs work c ≡ after_end lim bs work c
    same-tags e =
        ap (λ (t : Table). roomy lim work (record { cascade = c; table = t })) (ap table_of u.decodes) ∙ sym (with_tags_lem true (eq-eqb k c.tags e))

-- ---- 14

module _ (lim : Limits) (end work : ℕ) (bs : List ℕ) (c : Cascade) (b : Bool) (is : b ≡ bad_end (ending end c)) where
  abbrev told : Bool → Outcome Pair
  told x = and_then (provided 14 (not x) (result (ending end c))) (after_end lim bs work)

  pub bad : b ≡ true → after_book lim end bs work c ≡ refused 14 nothing
  bad h = ap told (sym is ∙ h)

  pub fitting : b ≡ false → bad_end (ending end c) ≡ false
  fitting h = sym is ∙ h

  pub fits : b ≡ false → after_end lim bs work (ending end c) ≡ after_book lim end bs work c
  fits h = sym (ap told (sym is ∙ h))

-- ---- the book

module _ (lim : Limits) (ranged : InRange lim) (book : List ℕ) (end : ℕ) (bs : List ℕ) (work : ℕ) where
  abbrev from_book : Outcome Cascade → Outcome Pair
  from_book o = and_then (and_then o (fitted end)) (λ c. and_then (paired lim bs c) (roomy lim work))

  goes_on : checkable lim book end bs work ≡ from_book (read lim book)
  goes_on = within-is lim (from_book (read lim book)) ranged

  module _ (a : Arrays) (r : Result Count Unread) (w : Whole lim book a r) where
    pub book_refused : (x : Refusal) → r ≡ Err (Refused x) → checkable lim book end bs work ≡ refusal x
    book_refused x f = goes_on ∙ ap from_book (was_refused book a r w x f) ∙ twice_refused x (fitted end) _

    pub book_read : (b : Count) → r ≡ Ok b → after_book lim end bs work (cascade_of b.tags a b.rules) ≡ checkable lim book end bs work
    book_read b f = sym (goes_on ∙ ap from_book (was_read book a r w b f))

-- 17
pub out_of_range : (lim : Limits) (book : List ℕ) (end : ℕ) (bs : List ℕ) (work : ℕ) → in_range lim ≡ false → checkable lim book end bs work ≡ refused 17 nothing
out_of_range lim book end bs work = without_is lim (and_then (read_ending lim book end) (λ c. and_then (paired lim bs c) (roomy lim work)))

-- both equations of the call
pub both : (lim : Limits) (book : List ℕ) (end : ℕ) (bs : List ℕ) {W X before after : List ℕ} {r : Result (Option ℕ) Refusal} → Ended lim (checkable lim book end bs (length W)) W X before after r
    → Answers (checked lim book end bs (length W) (length before)) before after r × (X ≡ wiped lim (checkable lim book end bs (length W)) W)
both lim book end bs h = (h.said, h.wiped_is)
