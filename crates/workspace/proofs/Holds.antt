-- Rows that hold a table: they do as long as their words stay, and are filled step by step and row by row.
use Prim.Native.Nat.{ℕ, ◌+◌, ◌≤◌, ◌<◌}
use native.Mathlib.Omega.{arith}
use mathlib.Core.Path.{◌≡◌, sym, ap, ◌∙◌}
use mathlib.Core.Logic.{◌⊎◌, inl, inr}
use mathlib.Core.List.{List}
use lib.ListN.{length}
use Rattle.words.proofs.Word.{below_suc}
use Rattle.transducers.specs.Transducer.{Shape}
use Rattle.transducers.specs.Table.{Table, shape}
use Rattle.transducers.specs.Canonical.{Inside, Agree, Sound, Held}
use Rattle.transducers.specs.Tabulate.{table, Doing}
use Rattle.transducers.proofs.Tabulate.{agree_table, rows-table, length-table, table-equal}
use Rattle.transducers.proofs.Run.{output-length}
use Rattle.workspace.specs.declared.Grid.{Grid}
use Rattle.workspace.specs.Entries.{NEXT, OUTPUT, FINAL}
use Rattle.workspace.specs.Cells.{word, Kept, InRows, Entry, Cell, Put, Written, Fits}
use Rattle.workspace.specs.Holds.{StepAt, Stepped, RowAt, Rowed, Roomy, Holds, Stepping, Filling, shape_at, table_at}
use Rattle.workspace.proofs.Regions.{kept-none, kept_then, kept_wider, kept_cell}
use Rattle.workspace.proofs.Words.{word-length, word_kept}

module _ (g : Grid) (P : ℕ → ℕ → ℕ → Type 0) (W X : List ℕ) (k : Kept g W X P) where
  pub step_kept : (r a next : ℕ) (output : List ℕ) → StepAt g W r a next output → a < g.tags → Fits g OUTPUT (length output)
      → ((e : ℕ) → P r a e → ⊥) → StepAt g X r a next output
  step_kept r a next output s ha room out =
      record {
        next_is = k.same r a NEXT (omega arith) (omega arith) (out 0) ∙ s.next_is;
        output_is =
            word_kept g P W X k r a OUTPUT (omega arith) (omega (arith, word-length g W r a OUTPUT, ap length s.output_is)) (λ e h. out e) ∙ s.output_is;
      }

  pub final-kept : (r : ℕ) (w : List ℕ) → word g W r g.tags FINAL ≡ w → Fits g FINAL (length w)
      → ((e : ℕ) → FINAL ≤ e → P r g.tags e → ⊥) → word g X r g.tags FINAL ≡ w
  final-kept r w is room out =
      word_kept g P W X k r g.tags FINAL (omega arith) (omega (arith, word-length g W r g.tags FINAL, ap length is)) out ∙ is

  module _ (S : Shape) (roomy : Roomy g S) where
    pub row_kept : (r q : ℕ) → q < S.count → RowAt g W r S q → ((a e : ℕ) → a < g.tags → P r a e → ⊥)
        → ((e : ℕ) → FINAL ≤ e → P r g.tags e → ⊥) → RowAt g X r S q
    row_kept r q hq s out-steps out-final =
        record {
          steps = λ a ha. step_kept r a (S.next q a) (S.output q a) (s.steps a ha) ha (roomy.outputs q a hq ha) (λ e. out-steps a e ha);
          final_is = final-kept r (S.final q) s.final_is (roomy.finals q hq) out-final;
        }

  -- rows hold their table as long as only other rows and spare entries change
  pub holds_kept : (base : ℕ) (t : Table) → Holds g W base t
      → ((q a e : ℕ) → q < length t → a < g.tags → P (base + q) a e → ⊥)
      → ((q e : ℕ) → q < length t → FINAL ≤ e → P (base + q) g.tags e → ⊥) → Holds g X base t
  holds_kept base t h out-steps out-final =
      record {
        room = h.room;
        rows = h.rows;
        inside = h.inside;
        roomy = h.roomy;
        states = λ q hq. row_kept (shape t) h.roomy (base + q) q hq (h.states q hq) (λ a e. out-steps q a e hq) (λ e. out-final q e hq);
      }

-- an output and a next state make a step
pub stepped-after : (g : Grid) (W X Y : List ℕ) (r a next : ℕ) (output : List ℕ) → a < g.tags → length output + 1 < g.depth
    → Written g W X r a OUTPUT output → Put g X Y r a NEXT next → Stepped g W Y r a next output
stepped-after g W X Y r a next output ha hd w p =
    record {
      kept =
          kept_then g (Cell r a NEXT) W X Y
          (kept_wider g (Cell r a NEXT) (Cell r a OUTPUT) W X w.kept (λ r' c' e' i. (i.0, i.1, omega arith)))
          (kept_cell g r a NEXT NEXT X Y (omega arith) p.kept);
      step =
          record {
            next_is = p.here;
            output_is =
                word_kept g (Entry r a NEXT) X Y p.kept r a OUTPUT (omega arith) (omega (arith, w.size)) (λ e h i. omega (arith, i.2)) ∙ w.here;
          };
    }

module _ (g : Grid) (r : ℕ) (S : Shape) (q : ℕ) (hq : q < S.count) (roomy : Roomy g S) where
  pub stepping_start : (W : List ℕ) → Stepping g W W r S q 0
  stepping_start W = record { kept = kept-none g (InRows r (r + 1)) W; steps = λ b h. absurd (omega arith) }

  pub stepping_next : (W X Y : List ℕ) (a : ℕ) → a < g.tags → Stepping g W X r S q a
      → Stepped g X Y r a (S.next q a) (S.output q a) → Stepping g W Y r S q (a + 1)
  stepping_next W X Y a ha s new =
      record {
        kept =
            kept_then g (InRows r (r + 1)) W X Y s.kept
            (kept_wider g (InRows r (r + 1)) (Cell r a NEXT) X Y new.kept (λ r' c' e' p. (omega (arith, p.0), omega (arith, p.0))));
        steps = λ b h. go b (below_suc b a (omega arith));
      }
    where
      go : (b : ℕ) → (b < a) ⊎ (b ≡ a) → StepAt g Y r b (S.next q b) (S.output q b)
      go b (inl h) =
          step_kept g (Cell r a NEXT) X Y new.kept r b (S.next q b) (S.output q b) (s.steps b h) (omega arith) (roomy.outputs q b hq (omega arith))
          (λ e p. omega (arith, p.1))
      go b (inr e) = rw e new.step

  -- with the final word the row is filled
  pub stepping_end : (W X Y : List ℕ) → Stepping g W X r S q g.tags → Written g X Y r g.tags FINAL (S.final q) → Rowed g W Y r S q
  stepping_end W X Y s w =
      record {
        kept =
            kept_then g (InRows r (r + 1)) W X Y s.kept
            (kept_wider g (InRows r (r + 1)) (Cell r g.tags FINAL) X Y w.kept (λ r' c' e' p. (omega (arith, p.0), omega (arith, p.0))));
        state =
            record {
              steps = λ a ha.
                  step_kept g (Cell r g.tags FINAL) X Y w.kept r a (S.next q a) (S.output q a) (s.steps a ha) ha (roomy.outputs q a hq ha)
                  (λ e p. omega (arith, p.1));
              final_is = w.here;
            };
      }

module _ (g : Grid) (base n : ℕ) (S : Shape) (roomy : Roomy g S) (all : S.count ≡ n) where
  pub filling_start : (W : List ℕ) → Filling g W W base n S 0
  filling_start W = record { kept = kept-none g (InRows base (base + n)) W; states = λ b h. absurd (omega arith) }

  pub filling_next : (W X Y : List ℕ) (j : ℕ) → j < n → Filling g W X base n S j → Rowed g X Y (base + j) S j
      → Filling g W Y base n S (j + 1)
  filling_next W X Y j hj f new =
      record {
        kept =
            kept_then g (InRows base (base + n)) W X Y f.kept
            (kept_wider g (InRows base (base + n)) (InRows (base + j) (base + j + 1)) X Y new.kept (λ r' c' e' p. (omega (arith, p.0), omega (arith, p.1))));
        states = λ q h. go q (below_suc q j (omega arith));
      }
    where
      go : (q : ℕ) → (q < j) ⊎ (q ≡ j) → RowAt g Y (base + q) S q
      go q (inl h) =
          row_kept g (InRows (base + j) (base + j + 1)) X Y new.kept S roomy (base + q) q (omega arith) (f.states q h)
          (λ a e ha p. omega (arith, p.0)) (λ e he p. omega (arith, p.0))
      go q (inr e) = rw e new.state

-- rows that hold the states of S hold its table
pub holds-table : (g : Grid) (W : List ℕ) (base : ℕ) (S : Shape) → base + S.count ≤ g.rows → Inside g.tags S → Roomy g S
    → ((q : ℕ) → q < S.count → RowAt g W (base + q) S q) → Holds g W base (table g.tags S)
holds-table g W base S room inside roomy states =
    record {
      room = omega (arith, length-table k S);
      rows = rows-table k S;
      inside = λ q a hq ha. omega (arith, agree.nexts q a (low q hq) ha, inside q a (low q hq) ha, length-table k S);
      roomy =
          record {
            outputs = λ q a hq ha. omega (arith, ap length (agree.outputs q a (low q hq) ha), roomy.outputs q a (low q hq) ha);
            finals = λ q hq. omega (arith, ap length (agree.finals q (low q hq)), roomy.finals q (low q hq));
          };
      states = λ q hq.
          let s = states q (low q hq) in
          record {
            steps = λ a ha.
                record {
                  next_is = (s.steps a ha).next_is ∙ agree.nexts q a (low q hq) ha;
                  output_is = (s.steps a ha).output_is ∙ agree.outputs q a (low q hq) ha;
                };
            final_is = s.final_is ∙ agree.finals q (low q hq);
          };
    }
  where
    k : ℕ
    k = g.tags

    agree : Agree k S (shape (table k S))
    agree = agree_table k S

    low : (q : ℕ) → q < length (table k S) → q < S.count
    low q h = omega (arith, length-table k S)

-- the table that the rows hold can be read from them
pub length_at : (g : Grid) (W : List ℕ) (base n : ℕ) → length (table_at g W base n) ≡ n
unfolding table_at
length_at g W base n = length-table g.tags (shape_at g W base n)

pub table-at : (g : Grid) (W : List ℕ) (base n : ℕ) (t : Table) → Holds g W base t → length t ≡ n → table_at g W base n ≡ t
unfolding table_at
table-at g W base n t h long =
    table-equal g.tags (table_at g W base n) t (rows-table g.tags (shape_at g W base n)) h.rows
    (record {
      counts = length_at g W base n ∙ sym long;
      nexts = λ q a hq ha. sym (agree.nexts q a (low q hq) ha) ∙ ((h.states q (in_table q hq)).steps a ha).next_is;
      outputs = λ q a hq ha. sym (agree.outputs q a (low q hq) ha) ∙ ((h.states q (in_table q hq)).steps a ha).output_is;
      finals = λ q hq. sym (agree.finals q (low q hq)) ∙ (h.states q (in_table q hq)).final_is;
    })
  where
    agree : Agree g.tags (shape_at g W base n) (shape (table_at g W base n))
    agree = agree_table g.tags (shape_at g W base n)

    low : (q : ℕ) → q < length (table_at g W base n) → q < n
    low q hq = omega (arith, length_at g W base n)

    in_table : (q : ℕ) → q < length (table_at g W base n) → q < length t
    in_table q hq = omega (arith, length_at g W base n)

pub holds_at : (g : Grid) (W : List ℕ) (base n : ℕ) (t : Table) → Holds g W base t → length t ≡ n → Holds g W base (table_at g W base n)
holds_at g W base n t h long = rw (table-at g W base n t h long) h

-- words have room if the states hold few tags
pub roomy-held : (g : Grid) (d : ℕ) (S : Shape) → Sound g.tags S → Held d S → Fits g FINAL d → Roomy g S
roomy-held g d S sound h deep =
    record {
      outputs = λ q a hq ha. omega (arith, output-length g.tags d S sound h q a hq ha);
      finals = λ q hq. omega (arith, h q hq);
    }

-- rows that hold the states of S hold its table, if that does something and holds few tags
pub holds-doing : (g : Grid) (W : List ℕ) (base : ℕ) (S : Shape) (d : ℕ) (f : List ℕ → List ℕ) → Doing g.tags d f (table g.tags S)
    → Fits g FINAL d → base + S.count ≤ g.rows → ((q : ℕ) → q < S.count → RowAt g W (base + q) S q) → Holds g W base (table g.tags S)
holds-doing g W base S d f doing deep room states =
    holds-table g W base S room
    (λ q a hq ha. omega (arith, agree.nexts q a hq ha, doing.sound.next_below q a (up q hq) ha, length-table k S))
    (record {
      outputs = λ q a hq ha. omega (arith, ap length (agree.outputs q a hq ha), roomy.outputs q a (up q hq) ha);
      finals = λ q hq. omega (arith, ap length (agree.finals q hq), roomy.finals q (up q hq));
    }) states
  where
    k : ℕ
    k = g.tags

    agree : Agree k S (shape (table k S))
    agree = agree_table k S

    up : (q : ℕ) → q < S.count → q < length (table k S)
    up q h = omega (arith, length-table k S)

    roomy : Roomy g (shape (table k S))
    roomy = roomy-held g d (shape (table k S)) doing.sound doing.held deep
