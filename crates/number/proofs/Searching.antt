-- The search in the work slice, tag by tag and member by member.
use Prim.Native.Nat.{ℕ, ◌+◌, ◌-◌, ◌≤◌, ◌<◌}
use native.Mathlib.Omega.{arith}
use mathlib.Core.Path.{◌≡◌, refl, sym, ap, ◌∙◌}
use mathlib.Core.List.{List, [], ◌∷◌}
use lib.ListN.{length, get_or, drop}
use Rattle.transducers.specs.Transducer.{puts}
use Rattle.transducers.specs.Table.{Table, row, shape}
use Rattle.transducers.specs.Tabulate.{Doing}
use Rattle.transducers.specs.Merge.{class, classes, merged, merge}
use Rattle.transducers.specs.Number.{note, note_all, visit, order}
use Rattle.transducers.proofs.Tabulate.{length-table, agree_table}
use Rattle.transducers.proofs.Merge.{classes_are, doing-merge}
use Rattle.transducers.proofs.Number.{order_below}
use Rattle.workspace.specs.declared.Grid.{Grid}
use Rattle.workspace.specs.Entries.{NEXT, CLASS, MEMBER, FINAL}
use Rattle.workspace.specs.Cells.{Kept, Got}
use Rattle.workspace.specs.Holds.{table_at, standing}
use Rattle.workspace.proofs.Regions.{kept-none, kept_then}
use Rattle.workspace.proofs.Holds.{length_at}
use Rattle.workspace.proofs.Views.{in_table, same_by, ready_by}
use Rattle.worklist.specs.Worklist.{member_of, listed, ListNotes, Slots, Worklist, Entered}
use Rattle.worklist.proofs.Marks.{listed-length, listed_at, listed-one}
use Rattle.number.specs.Order.{Classed, merged_at, Lists}
use Rattle.number.proofs.Visits.{note_all-next, note_all-end, visit-next, visit-end}

module _ (g : Grid) (base n : ℕ) where
  pub slots : (W : List ℕ) → Classed g W base n → Slots g W base n
  slots W ok =
      record {
        sized = ok.ready.sized;
        inside = ok.ready.inside;
        deep = omega (arith, ok.ready.room);
        some = omega (arith, ok.ready.sound.some, length_at g W base n);
        small = ok.ready.small;
      }

  -- what leaves the rows but for the notes of the list leaves the table and its classes
  module _ (P : ℕ → ℕ → ℕ → Type 0) (only : (q c e : ℕ) → P (base + q) c e → (c ≡ g.tags) × (MEMBER ≤ e) × (e < FINAL)) (W X : List ℕ)
      (ok : Classed g W base n) (kept : Kept g W X P) where
    miss : (q a e : ℕ) → a < g.tags → P (base + q) a e → ⊥
    miss q a e ha p = omega (arith, (only q a e p).0)

    miss-final : (q e : ℕ) → FINAL ≤ e → P (base + q) g.tags e → ⊥
    miss-final q e he p = omega (arith, (only q g.tags e p).2)

    tables : table_at g X base n ≡ table_at g W base n
    tables = same_by g W base n ok.ready P X kept miss miss-final

    pub merged_by : merged_at g X base n ≡ merged_at g W base n
    unfolding merged_at
    merged_by = ap (merge g.tags) tables

    pub classed_by : Classed g X base n
    classed_by =
        record {
          ready = ready_by g W base n ok.ready P X kept miss miss-final;
          early = rw tables ok.early;
          classes_are = λ q h.
              kept.same (base + q) g.tags CLASS (omega arith) (omega (arith, ok.ready.room)) (λ p. omega (arith, (only q g.tags CLASS p).1))
              ∙ ok.classes_are q h
              ∙ ap (λ (t : Table). class (classes t) q) (sym tables);
        }

  -- the notes themselves do
  module _ (W X : List ℕ) (ok : Classed g W base n) (kept : Kept g W X (ListNotes g base n)) where
    pub merged-same : merged_at g X base n ≡ merged_at g W base n
    merged-same = merged_by (ListNotes g base n) (λ q c e p. (p.2, p.3, omega (arith, p.4))) W X ok kept

    pub classed-kept : Classed g X base n
    classed-kept = classed_by (ListNotes g base n) (λ q c e p. (p.2, p.3, omega (arith, p.4))) W X ok kept

  -- the merged table
  module _ (W : List ℕ) (ok : Classed g W base n) where
    doing : Doing g.tags ok.ready.most (puts (standing g W base n) 0) (table_at g W base n)
    doing =
        record {
          rows = ok.ready.holds.rows;
          sound = ok.ready.sound;
          held = ok.ready.held;
          does = λ x hx. refl;
        }

    pub merged-doing : Doing g.tags ok.ready.most (puts (standing g W base n) 0) (merged_at g W base n)
    unfolding merged_at
    merged-doing = doing-merge g.tags ok.ready.most (puts (standing g W base n) 0) (table_at g W base n) doing ok.early

    pub merged-length : length (merged_at g W base n) ≡ n
    unfolding merged_at
    merged-length = length-table g.tags (merged (standing g W base n) (class (classes (table_at g W base n)))) ∙ length_at g W base n

    pub merged-next : (q a : ℕ) → q < n → a < g.tags
        → (shape (merged_at g W base n)).next q a ≡ class (classes (table_at g W base n)) ((standing g W base n).next q a)
    unfolding merged_at
    merged-next q a h ha = sym ((agree_table g.tags (merged (standing g W base n) (class (classes (table_at g W base n))))).nexts q a (in_table g W base n ok.ready q h) ha)

    pub next-at : (q a next : ℕ) → q < n → a < g.tags → Got g W (base + q) a NEXT next → (next < n) × (next ≡ (standing g W base n).next q a)
    next-at q a next h ha got =
        let e : next ≡ (standing g W base n).next q a = got.is ∙ ((ok.ready.holds.states q (in_table g W base n ok.ready q h)).steps a ha).next_is in
        (omega (arith, e, length_at g W base n, ok.ready.holds.inside q a (in_table g W base n ok.ready q h) ha), e)

    pub class-at : (q a next s : ℕ) → q < n → a < g.tags → Got g W (base + q) a NEXT next → Got g W (base + next) g.tags CLASS s
        → (s ≡ (shape (merged_at g W base n)).next q a) × (s < n)
    class-at q a next s h ha got got2 =
        let e = next-at q a next h ha got in
        let is : s ≡ class (classes (table_at g W base n)) next = got2.is ∙ ok.classes_are next e.0 in (
          is ∙ ap (class (classes (table_at g W base n))) e.1 ∙ sym (merged-next q a h ha),
          omega (arith, is, (classes_are g.tags (table_at g W base n) ok.ready.holds.rows ok.ready.sound ok.early).low next (in_table g W base n ok.ready next e.0), e.0),
        )

    pub order-low : (i : ℕ) → i < length (order (merged_at g W base n)) → get_or (order (merged_at g W base n)) i 0 < n
    order-low i h = omega (arith, order_below g.tags (merged_at g W base n) merged-doing.rows merged-doing.sound i h, merged-length)

  -- the next states of q, tag by tag: the list comes to be `goal`
  pub record Adding (W X goal : List ℕ) (q a to : ℕ) : Type 0 where
    pub kept : Kept g W X (ListNotes g base n)
    pub list : Worklist g X base n to
    pub rest : note_all (drop a (row (merged_at g W base n) q).steps) (listed g X base to) ≡ goal

  module _ (W : List ℕ) (len q : ℕ) (ok : Classed g W base n) (h : q < n) where
    abbrev goal : List ℕ
    goal = note_all (row (merged_at g W base n) q).steps (listed g W base len)

    long : length (row (merged_at g W base n) q).steps ≡ g.tags
    long = (merged-doing W ok).rows q (omega (arith, merged-length W ok))

    pub adding_start : Worklist g W base n len → Adding W W goal q 0 len
    adding_start list = record { kept = kept-none g (ListNotes g base n) W; list = list; rest = refl }

    pub adding_next : (X Y : List ℕ) (a to s to' : ℕ) → a < g.tags → s ≡ (shape (merged_at g X base n)).next q a → Adding W X goal q a to
        → Entered g X Y base n to s to' → Adding W Y goal q (a + 1) to'
    adding_next X Y a to s to' ha is m new =
        let e : s ≡ (shape (merged_at g W base n)).next q a = is ∙ ap (λ (t : Table). (shape t).next q a) (merged-same W X ok m.kept) in
        record {
          kept = kept_then g (ListNotes g base n) W X Y m.kept new.grown.kept;
          list = new.grown.list;
          rest =
              ap (note_all (drop (a + 1) (row (merged_at g W base n) q).steps)) new.noted
              ∙ ap (λ (j : ℕ). note_all (drop (a + 1) (row (merged_at g W base n) q).steps) (note (listed g X base to) j)) e
              ∙ sym (note_all-next (row (merged_at g W base n) q).steps (listed g X base to) a (omega (arith, long)))
              ∙ m.rest;
        }

    pub adding_end : (X : List ℕ) (a to : ℕ) → g.tags ≤ a → Adding W X goal q a to → Lists g W X base n goal to
    adding_end X a to ha m =
        record {
          kept = m.kept;
          list = m.list;
          is = sym (note_all-end (row (merged_at g W base n) q).steps (listed g X base to) a (omega (arith, long))) ∙ m.rest;
        }

  -- the search: the members before the i-th have had their next states appended to the list
  pub record Searching (W X : List ℕ) (i len : ℕ) : Type 0 where
    pub kept : Kept g W X (ListNotes g base n)
    pub list : Worklist g X base n len
    pub rest : visit (n - i) (merged_at g W base n) i (listed g X base len) ≡ order (merged_at g W base n)

  module _ (W : List ℕ) (ok : Classed g W base n) where
    pub searching-start : Worklist g W base n 1 → Searching W W 0 1
    searching-start list =
        let e : n - 0 ≡ length (merged_at g W base n) = omega (arith, merged-length W ok) in
        record {
          kept = kept-none g (ListNotes g base n) W;
          list = list;
          rest =
              ap (visit (n - 0) (merged_at g W base n) 0) (listed-one g W base list.start)
              ∙ ap (λ (j : ℕ). visit j (merged_at g W base n) 0 (0 ∷ [])) e;
        }

    pub searching-next : (X Y : List ℕ) (i len q to : ℕ) → i < len → q ≡ member_of g X base i → Searching W X i len
        → Lists g X Y base n (note_all (row (merged_at g X base n) q).steps (listed g X base len)) to → Searching W Y (i + 1) to
    searching-next X Y i len q to h is m new =
        let e : n - (i + 1) ≡ n - i - 1 = omega arith in
        let state : q ≡ get_or (listed g X base len) i 0 = is ∙ sym (listed_at g X base len i h) in
        record {
          kept = kept_then g (ListNotes g base n) W X Y m.kept new.kept;
          list = new.list;
          rest =
              ap (λ (j : ℕ). visit j (merged_at g W base n) (i + 1) (listed g Y base to)) e
              ∙ ap (visit (n - i - 1) (merged_at g W base n) (i + 1)) new.is
              ∙ ap (λ (t : Table). visit (n - i - 1) (merged_at g W base n) (i + 1) (note_all (row t q).steps (listed g X base len))) (merged-same W X ok m.kept)
              ∙ ap (λ (s : ℕ). visit (n - i - 1) (merged_at g W base n) (i + 1) (note_all (row (merged_at g W base n) s).steps (listed g X base len))) state
              ∙ sym (visit-next (n - i) (merged_at g W base n) i (listed g X base len) (omega (arith, m.list.low)) (omega (arith, listed-length g X base len)))
              ∙ m.rest;
        }

    pub searching-end : (X : List ℕ) (i len : ℕ) → len ≤ i → Searching W X i len → Lists g W X base n (order (merged_at g W base n)) len
    searching-end X i len h m =
        record {
          kept = m.kept;
          list = m.list;
          is = sym (visit-end (n - i) (merged_at g W base n) i (listed g X base len) (omega (arith, listed-length g X base len))) ∙ m.rest;
        }
