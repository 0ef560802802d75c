-- The search for the reached pairs: step by step, row by row.
use Prim.Native.Nat.{ℕ, ◌+◌, ◌≤◌, ◌<◌}
use native.Mathlib.Omega.{arith}
use mathlib.Core.Path.{◌≡◌, ap, ◌∙◌}
use mathlib.Core.Logic.{◌⊎◌, inl, inr}
use mathlib.Core.List.{List}
use lib.ListN.{length}
use Rattle.words.proofs.Word.{below_suc}
use Rattle.transducers.specs.Transducer.{Shape}
use Rattle.workspace.specs.declared.Grid.{Grid}
use Rattle.workspace.specs.Entries.{NEXT, OUTPUT, FINAL}
use Rattle.workspace.specs.Cells.{at, Kept, Cell, InRows, Written, Fits}
use Rattle.workspace.proofs.Regions.{kept_then, kept_wider}
use Rattle.workspace.proofs.Words.{word_kept}
use Rattle.worklist.specs.Worklist.{member_of, Worklist, Grown}
use Rattle.worklist.proofs.Marks.{grown_then, grown_wider, grown_by}
use Rattle.compose.specs.Pairs.{Leads, StepNotes, RowNotes, StepPaired, StepsPaired, State, RowPaired}

-- the states below i do what their pairs do
pub record Searching (g : Grid) (W X : List ℕ) (base total : ℕ) (S : Shape) (i len : ℕ) : Type 0 where
  pub kept : Kept g W X (InRows base (base + total))
  pub list : Worklist g X base total len
  pub here : i ≤ len
  pub states : (p : ℕ) → p < i → State g X base len p (member_of g X base p) S

module _ (g : Grid) (base total : ℕ) (P : ℕ → ℕ → ℕ → Type 0) where
  -- a step stays where its cell does
  pub leads-kept : (X Y : List ℕ) (len to i a pair : ℕ) (output : List ℕ) → a < g.tags → Grown P g X Y base total len to
      → ((e : ℕ) → P (base + i) a e → ⊥) → Leads g X base len i a pair output → Leads g Y base to i a pair output
  leads-kept X Y len to i a pair output ha grown miss l =
      let next : at g Y (base + i) a NEXT ≡ at g X (base + i) a NEXT = grown.kept.same (base + i) a NEXT (omega arith) (omega (arith, l.inside)) (miss NEXT) in
      let size : at g Y (base + i) a OUTPUT ≡ at g X (base + i) a OUTPUT = grown.kept.same (base + i) a OUTPUT (omega arith) (omega (arith, l.inside)) (miss OUTPUT) in
      record {
        inside = omega (arith, size, l.inside);
        next_below = omega (arith, next, l.next_below, grown.more);
        pair_is = ap (member_of g Y base) next ∙ grown.old (at g X (base + i) a NEXT) l.next_below ∙ l.pair_is;
        output_is = word_kept g P X Y grown.kept (base + i) a OUTPUT (omega arith) l.inside (λ e h p. miss e p) ∙ l.output_is;
      }

module _ (g : Grid) (base total : ℕ) (S : Shape) where
  -- the steps of a row
  module _ (W : List ℕ) (len i s : ℕ) where
    pub steps_next : (X Y : List ℕ) (a mid to : ℕ) → a < g.tags → StepsPaired g W X base total len i s S a mid → StepPaired g X Y base total mid i s S a to
        → StepsPaired g W Y base total len i s S (a + 1) to
    steps_next X Y a mid to ha m new =
        record {
          grown =
              grown_then g base total (RowNotes g base total i) W X Y len mid to m.grown
              (grown_wider g base total (RowNotes g base total i) (StepNotes g base total i a) X Y mid to new.grown wider);
          steps = λ b h. by b (below_suc b a (omega arith));
        }
      where
        wider : (r c e : ℕ) → StepNotes g base total i a r c e → RowNotes g base total i r c e
        wider r c e (inl p) = inl (omega (arith, p.0), omega (arith, p.0))
        wider r c e (inr p) = inr p

        miss : (b e : ℕ) → b < a → StepNotes g base total i a (base + i) b e → ⊥
        miss b e h (inl p) = omega (arith, p.1)
        miss b e h (inr p) = omega (arith, p.2)

        by : (b : ℕ) → (b < a) ⊎ (b ≡ a) → Leads g Y base to i b (S.next s b) (S.output s b)
        by b (inl h) =
            leads-kept g base total (StepNotes g base total i a) X Y mid to i b (S.next s b) (S.output s b) (omega arith) new.grown (λ e. miss b e h) (m.steps b h)
        by b (inr e) = rw e new.step

    pub row_done : (X Y : List ℕ) (to : ℕ) → Fits g FINAL (length (S.final s)) → StepsPaired g W X base total len i s S g.tags to
        → Written g X Y (base + i) g.tags FINAL (S.final s) → RowPaired g W Y base total len i s S to
    row_done X Y to roomy m wrote =
        record {
          grown =
              grown_then g base total (RowNotes g base total i) W X Y len to to m.grown
              (grown_wider g base total (RowNotes g base total i) (Cell (base + i) g.tags FINAL) X Y to to grown (λ r c e p. inl (omega (arith, p.0), omega (arith, p.0))));
          state =
              record {
                steps = λ a ha.
                    leads-kept g base total (Cell (base + i) g.tags FINAL) X Y to to i a (S.next s a) (S.output s a) ha grown (λ e p. omega (arith, p.1)) (m.steps a ha);
                inside = omega (arith, wrote.size);
                final_is = wrote.here;
              };
        }
      where
        grown : Grown (Cell (base + i) g.tags FINAL) g X Y base total to to
        grown = grown_by g base total (Cell (base + i) g.tags FINAL) X Y to m.grown.list wrote.kept (λ j e lo hi p. omega (arith, p.2))

  -- the rows
  module _ (W : List ℕ) where
    pub searching-next : (X Y : List ℕ) (i len s to : ℕ) → i < len → s ≡ member_of g X base i → Searching g W X base total S i len
        → RowPaired g X Y base total len i s S to → Searching g W Y base total S (i + 1) to
    searching-next X Y i len s to h is m new =
        record {
          kept =
              kept_then g (InRows base (base + total)) W X Y m.kept
              (kept_wider g (InRows base (base + total)) (RowNotes g base total i) X Y new.grown.kept wider);
          list = new.grown.list;
          here = omega (arith, new.grown.more);
          states = λ p hp. by p (below_suc p i (omega arith));
        }
      where
        wider : (r c e : ℕ) → RowNotes g base total i r c e → InRows base (base + total) r c e
        wider r c e (inl p) = (omega (arith, p.0), omega (arith, p.1, m.list.low))
        wider r c e (inr p) = (p.0, p.1)

        miss : (p a e : ℕ) → p < i → a < g.tags → RowNotes g base total i (base + p) a e → ⊥
        miss p a e hp ha (inl q) = omega (arith, q.0)
        miss p a e hp ha (inr q) = omega (arith, q.2)

        miss-final : (p e : ℕ) → p < i → FINAL ≤ e → RowNotes g base total i (base + p) g.tags e → ⊥
        miss-final p e hp he (inl q) = omega (arith, q.0)
        miss-final p e hp he (inr q) = omega (arith, q.4)

        old-state : (p : ℕ) → p < i → State g Y base to p (member_of g X base p) S
        old-state p hp =
            let o = m.states p hp in
            record {
              steps = λ a ha.
                  leads-kept g base total (RowNotes g base total i) X Y len to p a _ _ ha new.grown (λ e. miss p a e hp ha) (o.steps a ha);
              inside = omega (
                arith,
                o.inside,
                new.grown.kept.same (base + p) g.tags FINAL (omega arith) (omega (arith, o.inside)) (miss-final p FINAL hp (omega arith)),
              );
              final_is =
                  word_kept g (RowNotes g base total i) X Y new.grown.kept (base + p) g.tags FINAL (omega arith) o.inside (λ e l q. miss-final p e hp (omega arith) q)
                  ∙ o.final_is;
            }

        by : (p : ℕ) → (p < i) ⊎ (p ≡ i) → State g Y base to p (member_of g Y base p) S
        by p (inl hp) = rw (new.grown.old p (omega arith)) (old-state p hp)
        by p (inr e) = let l : p < len = omega arith in rw (new.grown.old p l, e, ← is) new.state
