-- A run over a word, tag by tag.
use Prim.Native.Nat.{ℕ, suc, ◌+◌, ◌≤◌, ◌<◌}
use native.Mathlib.Omega.{arith}
use native.Mathlib.Numerals.{add-one}
use mathlib.Core.Path.{◌≡◌, sym, ap, ap₂, ◌∙◌}
use mathlib.Core.List.{List, [], ◌++◌, append_assoc, append-nil}
use lib.ListN.{length, get_or, drop, length-append, drop_of_length-le}
use lib.Seq.{drop-cons}
use Rattle.words.proofs.Word.{below_at}
use Rattle.transducers.specs.Transducer.{Shape}
use Rattle.transducers.specs.Table.{Table, shape}
use Rattle.transducers.specs.Run.{walk, outputs}
use Rattle.workspace.specs.declared.Grid.{Grid}
use Rattle.workspace.specs.Entries.{NEXT, OUTPUT}
use Rattle.workspace.specs.Cells.{at, word, Inner, Kept, Cell, Got, Written, Fits}
use Rattle.workspace.specs.Holds.{StepAt, Holds, table_at, standing}
use Rattle.workspace.proofs.Regions.{kept_then, sized-kept}
use Rattle.workspace.proofs.Words.{word-length, word_kept, tag-kept}
use Rattle.workspace.proofs.Holds.{holds_kept, length_at, table-at}
use Rattle.compose.specs.Runs.{Runs, Arrived}

-- i tags were read, and the state was come to
pub record Running (g : Grid) (W X : List ℕ) (base m q r c s r2 c2 s2 i state : ℕ) : Type 0 where
  pub low : i ≤ at g W r c s
  pub state-below : state < m
  pub kept : Kept g W X (Cell r2 c2 s2)
  pub ends : walk (standing g W base m) state (drop i (word g W r c s)) ≡ walk (standing g W base m) q (word g W r c s)
  pub is : word g X r2 c2 s2 ++ outputs (standing g W base m) state (drop i (word g W r c s))
      ≡ word g W r2 c2 s2 ++ outputs (standing g W base m) q (word g W r c s)

-- the next tag, and the step on it
pub record Reading (g : Grid) (W X : List ℕ) (base m r c s r2 c2 s2 i state tag : ℕ) : Type 0 where
  pub is : tag ≡ get_or (word g W r c s) i 0
  pub below : tag < g.tags
  pub from : Inner g X (base + state) tag OUTPUT
  pub step : StepAt g X (base + state) tag ((standing g W base m).next state tag) ((standing g W base m).output state tag)
  pub room : s2 + at g X r2 c2 s2 + at g X (base + state) tag OUTPUT < g.depth
  pub other : (base + state ≡ r2) → (tag ≡ c2) → ⊥

module _ (g : Grid) (W : List ℕ) (base m q r c s r2 c2 s2 : ℕ) (ok : Runs g W base m q r c s r2 c2 (s2 + at g W r2 c2 s2)) where
  -- the transducer's rows stay
  holds_on : (X : List ℕ) → Kept g W X (Cell r2 c2 s2) → Holds g X base (table_at g W base m)
  holds_on X k =
      holds_kept g (Cell r2 c2 s2) W X k base (table_at g W base m) ok.holds
      (λ p a e hp ha i. omega (arith, i.0, ok.before)) (λ p e hp he i. omega (arith, i.0, ok.before))

  outputs-next : (state i : ℕ) → i < at g W r c s
      → outputs (standing g W base m) state (drop i (word g W r c s))
      ≡ (standing g W base m).output state (get_or (word g W r c s) i 0)
      ++ outputs (standing g W base m) ((standing g W base m).next state (get_or (word g W r c s) i 0)) (drop (suc i) (word g W r c s))
  outputs-next state i h = ap (outputs (standing g W base m) state) (drop-cons (word g W r c s) i 0 (omega (arith, word-length g W r c s)))

  module _ (X : List ℕ) (i state tag : ℕ) (run : Running g W X base m q r c s r2 c2 s2 i state) (h : i < at g W r c s) where
    pub reading : Got g X r c (s + i + 1) tag → Reading g W X base m r c s r2 c2 s2 i state tag
    reading got =
        record {
          is = same;
          below = tag_below;
          from = record { row = omega (arith, ok.holds.room, length_at g W base m, run.state-below); cell = omega (arith, tag_below); inside = omega (arith, size, fits) };
          step = step;
          room = omega (arith, size, lengths, ok.room, word-length g X r2 c2 s2, word-length g W r2 c2 s2);
          other = λ e d. omega (arith, ok.before);
        }
      where
        w : List ℕ
        w = word g W r c s

        same : tag ≡ get_or w i 0
        same = tag-kept g (Cell r2 c2 s2) W X run.kept r c s i tag ok.from h (λ e p. ok.other p.0 p.1) got

        tag_below : tag < g.tags
        tag_below = rw same (below_at g.tags w i (omega (arith, word-length g W r c s)) ok.from_below)

        in_table : state < length (table_at g W base m)
        in_table = omega (arith, length_at g W base m, run.state-below)

        step : StepAt g X (base + state) tag ((standing g W base m).next state tag) ((standing g W base m).output state tag)
        step = ((holds_on X run.kept).states state in_table).steps tag tag_below

        size : at g X (base + state) tag OUTPUT ≡ length ((standing g W base m).output state tag)
        size = sym (word-length g X (base + state) tag OUTPUT) ∙ ap length step.output_is

        fits : Fits g OUTPUT (length ((standing g W base m).output state tag))
        fits = ok.holds.roomy.outputs state tag in_table tag_below

        lengths : length (word g X r2 c2 s2) + length ((standing g W base m).output state tag)
            ≤ length (word g W r2 c2 s2) + length (outputs (standing g W base m) q w)
        lengths =
            let o = (standing g W base m).output state (get_or w i 0) in
            let rest = outputs (standing g W base m) ((standing g W base m).next state (get_or w i 0)) (drop (suc i) w) in
            omega (
              arith,
              ap length run.is,
              length-append (word g X r2 c2 s2) (outputs (standing g W base m) state (drop i w)),
              length-append (word g W r2 c2 s2) (outputs (standing g W base m) q w),
              ap length (outputs-next state i h),
              length-append o rest,
              ap (λ (t : ℕ). length ((standing g W base m).output state t)) same,
            )

    pub running-next : (Y : List ℕ) (next : ℕ) → Reading g W X base m r c s r2 c2 s2 i state tag
        → Written g X Y r2 c2 s2 (word g X r2 c2 s2 ++ word g X (base + state) tag OUTPUT) → Got g Y (base + state) tag NEXT next
        → Running g W Y base m q r c s r2 c2 s2 (i + 1) next
    running-next Y next read wrote got =
        record {
          low = omega arith;
          state-below = omega (arith, next_is, length_at g W base m, ok.holds.inside state tag in_table read.below);
          kept = kept_then g (Cell r2 c2 s2) W X Y run.kept wrote.kept;
          ends =
              ap₂ (λ (p j : ℕ). walk R p (drop j w)) next-at (add-one i)
              ∙ sym (ap (walk R state) (drop-cons w i 0 (omega (arith, word-length g W r c s))))
              ∙ run.ends;
          is =
              ap₂ (λ (l : List ℕ) (j : ℕ). l ++ outputs R next (drop j w)) wrote.here (add-one i)
              ∙ ap₂ (λ (o : List ℕ) (p : ℕ). (word g X r2 c2 s2 ++ o) ++ outputs R p (drop (suc i) w))
              (read.step.output_is ∙ ap (R.output state) read.is) next-at
              ∙ append_assoc (word g X r2 c2 s2) (R.output state (get_or w i 0)) (outputs R (R.next state (get_or w i 0)) (drop (suc i) w))
              ∙ ap (λ (l : List ℕ). word g X r2 c2 s2 ++ l) (sym (outputs-next state i h))
              ∙ run.is;
        }
      where
        R : Shape
        R = standing g W base m

        w : List ℕ
        w = word g W r c s

        in_table : state < length (table_at g W base m)
        in_table = omega (arith, length_at g W base m, run.state-below)

        next_is : next ≡ R.next state tag
        next_is =
            got.is
            ∙ wrote.kept.same (base + state) tag NEXT (omega (arith, read.below)) (omega (arith, read.from.inside)) (λ p. omega (arith, p.0, ok.before))
            ∙ read.step.next_is

        next-at : next ≡ R.next state (get_or w i 0)
        next-at = next_is ∙ ap (R.next state) read.is

  pub running-end : (X : List ℕ) (i state : ℕ) → Running g W X base m q r c s r2 c2 s2 i state → at g W r c s ≤ i
      → Arrived g W X base m q r c s r2 c2 s2 (word g W r2 c2 s2) state
  running-end X i state run h =
      record {
        ends = ap (walk R state) (sym none) ∙ run.ends;
        wrote = record { kept = run.kept; here = here; size = sym (word-length g X r2 c2 s2) ∙ ap length here };
      }
    where
      R : Shape
      R = standing g W base m

      none : drop i (word g W r c s) ≡ []
      none = drop_of_length-le (word g W r c s) {i = i} (omega (arith, word-length g W r c s))

      here : word g X r2 c2 s2 ≡ word g W r2 c2 s2 ++ outputs R q (word g W r c s)
      here = sym (append-nil (word g X r2 c2 s2)) ∙ ap (λ (l : List ℕ). word g X r2 c2 s2 ++ outputs R state l) (sym none) ∙ run.is

-- a run into a cell that was cleared
module _ (g : Grid) (W X : List ℕ) (base m q r c s r2 c2 s2 : ℕ) (ok : Runs g W base m q r c s r2 c2 s2) (clear : Written g W X r2 c2 s2 []) where
  same-table : table_at g X base m ≡ table_at g W base m
  same-table =
      table-at g X base m (table_at g W base m)
      (holds_kept g (Cell r2 c2 s2) W X clear.kept base (table_at g W base m) ok.holds
      (λ p a e hp ha i. omega (arith, i.0, ok.before)) (λ p e hp he i. omega (arith, i.0, ok.before)))
      (length_at g W base m)

  same_size : at g X r c s ≡ at g W r c s
  same_size = clear.kept.same r c s ok.from.cell (omega (arith, ok.from.inside)) (λ p. ok.other p.0 p.1)

  same_word : word g X r c s ≡ word g W r c s
  same_word = word_kept g (Cell r2 c2 s2) W X clear.kept r c s ok.from.cell ok.from.inside (λ e h p. ok.other p.0 p.1)

  pub runs_clear : Runs g X base m q r c s r2 c2 (s2 + at g X r2 c2 s2)
  runs_clear =
      record {
        sized = sized-kept g W X ok.sized clear.kept.long;
        holds = rw same-table
            (holds_kept g (Cell r2 c2 s2) W X clear.kept base (table_at g W base m) ok.holds
            (λ p a e hp ha i. omega (arith, i.0, ok.before)) (λ p e hp he i. omega (arith, i.0, ok.before)));
        state = ok.state;
        from = record { row = ok.from.row; cell = ok.from.cell; inside = omega (arith, same_size, ok.from.inside) };
        from_below = rw same_word ok.from_below;
        row = ok.row;
        cell = ok.cell;
        other = ok.other;
        before = ok.before;
        room = rw (same-table, same_word) (omega (arith, ok.room, clear.size));
      }

  pub ran_clear : (Y : List ℕ) (to : ℕ) → Arrived g X Y base m q r c s r2 c2 s2 (word g X r2 c2 s2) to → Arrived g W Y base m q r c s r2 c2 s2 [] to
  ran_clear Y to ran =
      record {
        ends = ran.ends ∙ ap₂ (λ (t : Table) (w : List ℕ). walk (shape t) q w) same-table same_word;
        wrote =
            record {
              kept = kept_then g (Cell r2 c2 s2) W X Y clear.kept ran.wrote.kept;
              here = here;
              size = sym (word-length g Y r2 c2 s2) ∙ ap length here;
            };
      }
    where
      here : word g Y r2 c2 s2 ≡ outputs (standing g W base m) q (word g W r c s)
      here =
          ran.wrote.here
          ∙ ap (λ (l : List ℕ). l ++ outputs (standing g X base m) q (word g X r c s)) clear.here
          ∙ ap₂ (λ (t : Table) (w : List ℕ). outputs (shape t) q w) same-table same_word
