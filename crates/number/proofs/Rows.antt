-- The numbered rows, step by step and row by row.
use Prim.Native.Nat.{ℕ, suc, ◌+◌, ◌≤◌, ◌<◌}
use native.Mathlib.Omega.{arith}
use mathlib.Core.Path.{◌≡◌, sym, ap, ap₂, ◌∙◌, subst}
use mathlib.Core.Logic.{inl, inr}
use mathlib.Core.List.{List, [], ◌++◌}
use lib.ListN.{length, get_or}
use Rattle.transducers.specs.Transducer.{puts}
use Rattle.transducers.specs.Table.{Table, shape}
use Rattle.transducers.specs.Canonical.{Canonical}
use Rattle.transducers.specs.Tabulate.{Doing, Made}
use Rattle.transducers.specs.Merge.{class, classes, merge, merged}
use Rattle.transducers.specs.Number.{place, order, numbered, number}
use Rattle.transducers.proofs.Tabulate.{agree_table, length-table}
use Rattle.transducers.proofs.Merge.{doing-merge, early-merge, apart-merge}
use Rattle.transducers.proofs.Number.{doing-number, canonical_number}
use Rattle.workspace.specs.declared.Grid.{Grid}
use Rattle.workspace.specs.Entries.{NEXT, OUTPUT, FINAL}
use Rattle.workspace.specs.Cells.{at, word, Inner, Kept, InRows, Cell, Put, Written}
use Rattle.workspace.specs.Holds.{Stepped, Rowed, Roomy, Holds, Stepping, Filling, table_at, standing}
use Rattle.workspace.proofs.Regions.{kept_then, kept_wider}
use Rattle.workspace.proofs.Words.{word_kept, written-more}
use Rattle.workspace.proofs.Views.{in_table, output-inner, final-inner}
use Rattle.workspace.proofs.Holds.{stepped-after, stepping_start, stepping_next, stepping_end, filling_start, filling_next, holds-doing}
use Rattle.worklist.specs.Worklist.{member_of, mark_of, listed, ListNotes, Member}
use Rattle.worklist.proofs.Marks.{listed-length, listed_at, listed_same, listed-marked, grown_by}
use Rattle.number.specs.Order.{Classed, merged_at, Lists}
use Rattle.number.specs.Numbering.{Ordered, numbered_at, Rowing, RowsNotes, Numbered}
use Rattle.number.proofs.Searching.{merged_by, classed_by, merged-same, classed-kept, merged-doing, order-low}

-- a word is copied to a cell that was cleared
module _ (g : Grid) (W X : List ℕ) (r c s r2 : ℕ) (inner : Inner g W r c s) (lt : r2 < r) (clear : Written g W X r2 c s []) where
  same_size : at g X r c s ≡ at g W r c s
  same_size = clear.kept.same r c s inner.cell (omega (arith, inner.inside)) (λ i. omega (arith, i.0))

  pub copy_inner : Inner g X r c s
  copy_inner = record { row = inner.row; cell = inner.cell; inside = omega (arith, same_size, inner.inside) }

  pub copy_room : s + at g X r2 c s + at g X r c s < g.depth
  copy_room = omega (arith, same_size, inner.inside, clear.size)

  pub copied : (Y : List ℕ) → Written g X Y r2 c s (word g X r2 c s ++ word g X r c s) → Written g W Y r2 c s (word g W r c s)
  copied Y wrote =
      subst (Written g W Y r2 c s) (word_kept g (Cell r2 c s) W X clear.kept r c s inner.cell inner.inside (λ e h i. omega (arith, i.0)))
      (written-more g W X r2 c s Y [] (word g X r c s) clear wrote)

module _ (g : Grid) (base n : ℕ) where
  module _ (W : List ℕ) (ok : Classed g W base n) where
    merged-output : (q a : ℕ) → q < n → a < g.tags → (shape (merged_at g W base n)).output q a ≡ (standing g W base n).output q a
    unfolding merged_at
    merged-output q a h ha = sym ((agree_table g.tags (merged (standing g W base n) (class (classes (table_at g W base n))))).outputs q a (in_table g W base n ok.ready q h) ha)

    merged-final : (q : ℕ) → q < n → (shape (merged_at g W base n)).final q ≡ (standing g W base n).final q
    unfolding merged_at
    merged-final q h = sym ((agree_table g.tags (merged (standing g W base n) (class (classes (table_at g W base n))))).finals q (in_table g W base n ok.ready q h))

    pub doing : Doing g.tags ok.ready.most (puts (standing g W base n) 0) (number g.tags (merged_at g W base n))
    doing = doing-number g.tags ok.ready.most (puts (standing g W base n) 0) (merged_at g W base n) (merged-doing g base n W ok)

    next_in : (i a : ℕ) → i < length (order (merged_at g W base n)) → a < g.tags → (numbered_at g W base n).next i a < length (order (merged_at g W base n))
    next_in i a h ha =
        omega (
          arith,
          (agree_table g.tags (numbered_at g W base n)).nexts i a h ha,
          doing.sound.next_below i a (omega (arith, length-table g.tags (numbered_at g W base n))) ha,
          length-table g.tags (numbered_at g W base n),
        )

    pub roomy : Roomy g (numbered_at g W base n)
    roomy =
        record {
          outputs = λ i a h ha.
              let q = get_or (order (merged_at g W base n)) i 0 in
              let hq = order-low g base n W ok i h in
              omega (arith, ap length (merged-output q a hq ha), ok.ready.holds.roomy.outputs q a (in_table g W base n ok.ready q hq) ha);
          finals = λ i h.
              let q = get_or (order (merged_at g W base n)) i 0 in
              let hq = order-low g base n W ok i h in
              omega (arith, ap length (merged-final q hq), ok.ready.holds.roomy.finals q (in_table g W base n ok.ready q hq));
        }

  -- the rows of the states are after those that are written
  module _ (W X : List ℕ) (to count : ℕ) (ok : Ordered g W base n count) (before : to + count ≤ base) (kept : Kept g W X (InRows to (to + count))) where
    pub rows-merged : merged_at g X base n ≡ merged_at g W base n
    rows-merged = merged_by g base n (InRows to (to + count)) (λ q c e i. absurd (omega (arith, i.1))) W X ok.classed kept

    pub ordered-kept : Ordered g X base n count
    ordered-kept =
        let on = grown_by g base n (InRows to (to + count)) W X count ok.list kept (λ i e lo hi p. omega (arith, p.1)) in
        record {
          classed = classed_by g base n (InRows to (to + count)) (λ q c e i. absurd (omega (arith, i.1))) W X ok.classed kept;
          list = on.list;
          is = listed_same g W X base count on.old ∙ ok.is ∙ ap order (sym rows-merged);
        }

  pub counts : (W : List ℕ) (count : ℕ) → Ordered g W base n count → (numbered_at g W base n).count ≡ count
  counts W count ok = sym (ap length ok.is) ∙ listed-length g W base count

  -- the i-th state's row
  module _ (W : List ℕ) (count to i q : ℕ) (ok : Rowing g W base n count to i q) where
    in_order : i < length (order (merged_at g W base n))
    in_order = omega (arith, ok.place, counts W count ok.ordered)

    pub state-low : q < n
    state-low = omega (arith, ok.state, order-low g base n W ok.ordered.classed i in_order)

    pub inner-output : (a : ℕ) → a < g.tags → Inner g W (base + q) a OUTPUT
    inner-output a ha = output-inner g W base n ok.ordered.classed.ready q a state-low ha

    pub inner-final : Inner g W (base + q) g.tags FINAL
    inner-final = final-inner g W base n ok.ordered.classed.ready q state-low

    output_is : (a : ℕ) → a < g.tags → word g W (base + q) a OUTPUT ≡ (numbered_at g W base n).output i a
    output_is a ha =
        ((ok.ordered.classed.ready.holds.states q (in_table g W base n ok.ordered.classed.ready q state-low)).steps a ha).output_is
        ∙ sym (merged-output W ok.ordered.classed q a state-low ha)
        ∙ ap (λ (s : ℕ). (shape (merged_at g W base n)).output s a) ok.state

    pub final_is : word g W (base + q) g.tags FINAL ≡ (numbered_at g W base n).final i
    final_is =
        (ok.ordered.classed.ready.holds.states q (in_table g W base n ok.ordered.classed.ready q state-low)).final_is
        ∙ sym (merged-final W ok.ordered.classed q state-low)
        ∙ ap (λ (s : ℕ). (shape (merged_at g W base n)).final s) ok.state

    -- the next state is in the list, and its place is its number
    module _ (a s : ℕ) (ha : a < g.tags) (is : s ≡ (shape (merged_at g W base n)).next q a) where
      number_is : place (listed g W base count) s ≡ (numbered_at g W base n).next i a
      number_is =
          ap₂ place ok.ordered.is (is ∙ ap (λ (p : ℕ). (shape (merged_at g W base n)).next p a) ok.state)

      next-mark : mark_of g W base s ≡ suc ((numbered_at g W base n).next i a)
      next-mark =
          let low = next_in W ok.ordered.classed i a in_order ha in
          listed-marked g W base n count ok.ordered.list s (omega (arith, number_is, low, counts W count ok.ordered)) ∙ ap suc number_is

      pub next-marked : mark_of g W base s ≡ 0 → ⊥
      next-marked e = omega (arith, next-mark)

      pub place_is : (p : ℕ) → Member g W base count s p → (p ≡ (numbered_at g W base n).next i a) × (p < n)
      place_is p at = (omega (arith, at.mark, next-mark), omega (arith, at.below, ok.ordered.list.low))

    pub step_done : (a next : ℕ) (X Y : List ℕ) → a < g.tags → next ≡ (numbered_at g W base n).next i a
        → Written g W X (to + i) a OUTPUT (word g W (base + q) a OUTPUT) → Put g X Y (to + i) a NEXT next
        → Stepped g W Y (to + i) a ((numbered_at g W base n).next i a) ((numbered_at g W base n).output i a)
    step_done a next X Y ha is wrote p =
        stepped-after g W X Y (to + i) a ((numbered_at g W base n).next i a) ((numbered_at g W base n).output i a) ha
        (omega (arith, (roomy W ok.ordered.classed).outputs i a in_order ha))
        (subst (Written g W X (to + i) a OUTPUT) (output_is a ha) wrote) (subst (Put g X Y (to + i) a NEXT) is p)

    -- while the row is written
    module _ (X : List ℕ) (kept : Kept g W X (InRows (to + i) (to + i + 1))) where
      wide : Kept g W X (InRows to (to + count))
      wide = kept_wider g (InRows to (to + count)) (InRows (to + i) (to + i + 1)) W X kept (λ r c e p. (omega (arith, p.0), omega (arith, p.1, ok.place)))

      pub row-merged : merged_at g X base n ≡ merged_at g W base n
      row-merged = rows-merged W X to count ok.ordered ok.before wide

      pub rowing_kept : Rowing g X base n count to i q
      rowing_kept =
          record {
            ordered = ordered-kept W X to count ok.ordered ok.before wide;
            before = ok.before;
            place = ok.place;
            state = ok.state ∙ ap (λ (t : Table). get_or (order t) i 0) (sym row-merged);
          }

    pub steps-start : Stepping g W W (to + i) (numbered_at g W base n) i 0
    steps-start = stepping_start g (to + i) (numbered_at g W base n) i in_order (roomy W ok.ordered.classed) W

    pub steps_next : (X Y : List ℕ) (a : ℕ) → a < g.tags → Stepping g W X (to + i) (numbered_at g W base n) i a
        → Stepped g X Y (to + i) a ((numbered_at g X base n).next i a) ((numbered_at g X base n).output i a)
        → Stepping g W Y (to + i) (numbered_at g W base n) i (a + 1)
    steps_next X Y a ha m new =
        stepping_next g (to + i) (numbered_at g W base n) i in_order (roomy W ok.ordered.classed) W X Y a ha m
        (subst
        (λ (t : Table). Stepped g X Y (to + i) a ((numbered (shape t) (order t)).next i a) ((numbered (shape t) (order t)).output i a))
        (row-merged X m.kept) new)

    pub row_done : (X Y : List ℕ) → Stepping g W X (to + i) (numbered_at g W base n) i g.tags
        → Written g X Y (to + i) g.tags FINAL (word g X (base + q) g.tags FINAL) → Rowed g W Y (to + i) (numbered_at g W base n) i
    row_done X Y m wrote =
        stepping_end g (to + i) (numbered_at g W base n) i in_order (roomy W ok.ordered.classed) W X Y m
        (subst (Written g X Y (to + i) g.tags FINAL) (same ∙ final_is) wrote)
      where
        same : word g X (base + q) g.tags FINAL ≡ word g W (base + q) g.tags FINAL
        same =
            word_kept g (InRows (to + i) (to + i + 1)) W X m.kept (base + q) g.tags FINAL inner-final.cell inner-final.inside
            (λ e h p. omega (arith, p.1, ok.before, ok.place))

  -- all rows
  module _ (W : List ℕ) (count to : ℕ) (ok : Ordered g W base n count) (before : to + count ≤ base) where
    pub rows_start : Filling g W W to count (numbered_at g W base n) 0
    rows_start = filling_start g to count (numbered_at g W base n) (roomy W ok.classed) (counts W count ok) W

    pub rows_rowing : (X : List ℕ) (i q : ℕ) → i < count → Filling g W X to count (numbered_at g W base n) i → q ≡ member_of g X base i
        → Rowing g X base n count to i q
    rows_rowing X i q h f is =
        let o = ordered-kept W X to count ok before f.kept in
        record {
          ordered = o;
          before = before;
          place = h;
          state = is ∙ sym (listed_at g X base count i h) ∙ ap (λ (l : List ℕ). get_or l i 0) o.is;
        }

    pub rows_next : (X Y : List ℕ) (i : ℕ) → i < count → Filling g W X to count (numbered_at g W base n) i
        → Rowed g X Y (to + i) (numbered_at g X base n) i → Filling g W Y to count (numbered_at g W base n) (i + 1)
    rows_next X Y i h f new =
        filling_next g to count (numbered_at g W base n) (roomy W ok.classed) (counts W count ok) W X Y i h f
        (subst (λ (t : Table). Rowed g X Y (to + i) (numbered (shape t) (order t)) i) (rows-merged W X to count ok before f.kept) new)

  -- the whole
  module _ (W X Y : List ℕ) (to ceiling count : ℕ) (ok : Classed g W base n) (before : to + ceiling ≤ base) (start : Kept g W X (ListNotes g base n))
      (m : Lists g X Y base n (order (merged_at g X base n)) count) where
    notes : Kept g W Y (ListNotes g base n)
    notes = kept_then g (ListNotes g base n) W X Y start m.kept

    merged_X : merged_at g X base n ≡ merged_at g W base n
    merged_X = merged-same g base n W X ok start

    merged_Y : merged_at g Y base n ≡ merged_at g W base n
    merged_Y = merged-same g base n W Y ok notes

    pub ordered : Ordered g Y base n count
    ordered =
        record {
          classed = classed-kept g base n W Y ok notes;
          list = m.list;
          is = m.is ∙ ap order (merged_X ∙ sym merged_Y);
        }

    count_is : count ≡ length (order (merged_at g W base n))
    count_is = sym (listed-length g Y base count) ∙ ap length m.is ∙ ap (λ (t : Table). length (order t)) merged_X

    wider : Kept g W Y (RowsNotes g to ceiling base n)
    wider = kept_wider g (RowsNotes g to ceiling base n) (ListNotes g base n) W Y notes (λ r c e i. inr i)

    made : (d : ℕ) (f : List ℕ → List ℕ) → Doing g.tags d f (table_at g W base n) → Made g.tags count d f (λ t. Canonical g.tags (shape t))
    unfolding merged_at
    made d f does =
        let k = g.tags in
        let t = table_at g W base n in
        let merged = doing-merge k d f t does ok.early in
        record {
          table = number k (merged_at g W base n);
          long = length-table k _ ∙ sym count_is;
          doing = doing-number k d f (merge k t) merged;
          so = canonical_number k d f (merge k t) merged (early-merge k d f t does ok.early) (apart-merge k d f t does ok.early);
        }

    pub too_many : ceiling < count → Numbered g W Y base n to ceiling count
    too_many h = record { kept = wider; many = λ e. notes; made = made; holds = λ d f does e. absurd (omega arith) }

    pub all-rows : (Z : List ℕ) → count ≤ ceiling → Filling g Y Z to count (numbered_at g Y base n) count → Numbered g W Z base n to ceiling count
    unfolding made merged_at
    all-rows Z h f =
        record {
          kept =
              kept_then g (RowsNotes g to ceiling base n) W Y Z wider
              (kept_wider g (RowsNotes g to ceiling base n) (InRows to (to + count)) Y Z f.kept (λ r c e i. inl (i.0, omega (arith, i.1))));
          many = λ e. absurd (omega arith);
          made = made;
          holds = λ d h' does e.
              subst (λ (t : Table). Holds g Z to (number g.tags t)) merged_Y
              (holds-doing g Z to (numbered_at g Y base n) ordered.classed.ready.most (puts (standing g Y base n) 0) (doing Y ordered.classed) ordered.classed.ready.room
              (omega (arith, counts Y count ordered, ok.ready.inside)) (λ q hq. f.states q (omega (arith, counts Y count ordered))));
        }
