-- The phases of normalization, one after another.
use Prim.Native.Nat.{ℕ, ◌+◌, ◌≤◌, ◌<◌}
use native.Mathlib.Omega.{arith}
use mathlib.Core.Path.{◌≡◌, refl, sym, ap, ap₂, ◌∙◌, subst}
use mathlib.Core.List.{List, ◌++◌}
use lib.ListN.{length, take, drop, length-append}
use lib.Seq.{length-take-le}
use Rattle.words.specs.Word.{Prefix}
use Rattle.words.proofs.Front.{begins_length}
use Rattle.transducers.specs.Transducer.{puts}
use Rattle.transducers.specs.Table.{Table}
use Rattle.transducers.specs.Tabulate.{Doing}
use Rattle.transducers.specs.Normalize.{front, fronts, stripped, normalize, Consistent, Above}
use Rattle.transducers.proofs.Tabulate.{length-table}
use Rattle.transducers.proofs.Normalize.{fronts-any, doing-normalize, early-normalize}
use Rattle.workspace.specs.declared.Grid.{Grid}
use Rattle.workspace.specs.Entries.{FINAL, FRONT}
use Rattle.workspace.specs.Cells.{at, Sized, Inner, Kept, InRows, Spare}
use Rattle.workspace.specs.Holds.{Ready, StepAt, RowAt, Holds, table_at, standing}
use Rattle.workspace.proofs.Regions.{kept_then, kept_wider, sized-kept}
use Rattle.workspace.proofs.Words.{word_kept}
use Rattle.workspace.proofs.Holds.{step_kept, length_at, holds-doing}
use Rattle.normalize.specs.Fronts.{front_size, front_at, Fronted, Settled, Started}
use Rattle.normalize.specs.Strip.{next_at, stripped_at, Strip, Steps, StepsStripped, Finals, FinalsStripped, Normalized}
use Rattle.normalize.proofs.Meets.{take-prefix}
use Rattle.workspace.proofs.Views.{in_table, final_is, final-size, final-inner, output_is, output-size, output-inner, next_is, next_below, next_at-below, same-table, ready-kept}
use Rattle.normalize.proofs.Strips.{stripped-room}
use Rattle.normalize.proofs.Lower.{fronted_lowered, fronted_start, above-start}

-- U has fronts that rest
module _ (g : Grid) (U : List ℕ) (base n : ℕ) (ok : Fronted g U base n)
    (rests : (q a : ℕ) → q < n → a < g.tags → Prefix (front_at g U base n q) ((standing g U base n).output q a ++ front_at g U base n ((standing g U base n).next q a))) where
  below : (q : ℕ) → q < length (table_at g U base n) → q < n
  below q h = omega (arith, length_at g U base n)

  pub consistent : Consistent g.tags (standing g U base n) (front_at g U base n)
  consistent =
      record {
        held = λ q h. take-prefix (front_size g U base q) ((standing g U base n).final q);
        steps = λ q a h ha. rests q a (below q h) ha;
      }

  front_long : (q : ℕ) → q < n → length (front_at g U base n q) ≡ front_size g U base q
  front_long q h = length-take-le (front_size g U base q) ((standing g U base n).final q) (ok.fronts q h)

  next-size : (q a : ℕ) → q < n → a < g.tags → front_size g U base (next_at g U base q a) ≡ front_size g U base ((standing g U base n).next q a)
  next-size q a h ha = ap (front_size g U base) (next_is g U base n ok.ready q a h ha)

  -- every step can be stripped
  pub strips : (q a : ℕ) → q < n → a < g.tags → Strip g U base q a
  strips q a h ha =
      let S = standing g U base n in
      let to = next_at-below g U base n ok.ready q a h ha in
      let long = output-size g U base n ok.ready q a h ha in
      let at_next = final-size g U base n ok.ready (next_at g U base q a) to in
      let f = ok.fronts (next_at g U base q a) to in
      let e = next_is g U base n ok.ready q a h ha in
      record {
        sized = ok.ready.sized;
        tag = ha;
        from = output-inner g U base n ok.ready q a h ha;
        to = final-inner g U base n ok.ready (next_at g U base q a) to;
        front = omega (arith, at_next, f);
        covers =
            omega (
              arith,
              long,
              front_long q h,
              next-size q a h ha,
              front_long (S.next q a) (next_below g U base n ok.ready q a h ha),
              begins_length (rests q a h ha),
              length-append (S.output q a) (front_at g U base n (S.next q a)),
            );
        room =
            omega (
              arith,
              long,
              f,
              ap (λ (i : ℕ). length (S.final i)) e,
              ok.ready.sound.balanced q a (in_table g U base n ok.ready q h) ha,
              ok.ready.held q (in_table g U base n ok.ready q h),
              ok.ready.room,
            );
      }

  -- the final words can be stripped after the steps
  module _ (Y : List ℕ) (s : StepsStripped g U Y base n) where
    last : (q e : ℕ) → e < g.depth → at g Y (base + q) g.tags e ≡ at g U (base + q) g.tags e
    last q e he = s.kept.same (base + q) g.tags e (omega arith) he (λ i. omega (arith, i.2))

    pub finals-sized : Sized g Y
    finals-sized = sized-kept g U Y ok.ready.sized s.kept.long

    pub finals-place : (base + n ≤ g.rows) × (8 ≤ g.depth)
    finals-place = (ok.ready.inside, omega (arith, ok.ready.room))

    pub finals : (q : ℕ) → q < n → Inner g Y (base + q) g.tags FINAL × (front_size g Y base q ≤ at g Y (base + q) g.tags FINAL)
    finals q h =
        let i = final-inner g U base n ok.ready q h in
        let e = last q 7 (omega (arith, i.inside)) in (
          record { row = i.row; cell = omega arith; inside = omega (arith, e, i.inside) },
          omega (arith, e, last q 0 (omega (arith, i.inside)), final-size g U base n ok.ready q h, ok.fronts q h),
        )

    -- the rows hold the stripped transducer then, if the fronts are above
    module _ (Z : List ℕ) (f : FinalsStripped g Y Z base n) (above : Above g.tags (standing g U base n) (front_at g U base n)) where
      t : Table
      t = table_at g U base n

      F : ℕ → List ℕ
      F = front (fronts (table_at g U base n))

      fronts_are : (q : ℕ) → q < n → front_at g U base n q ≡ F q
      unfolding F
      fronts_are q h =
          fronts-any g.tags (table_at g U base n) ok.ready.holds.rows ok.ready.sound (front_at g U base n) consistent above q
          (in_table g U base n ok.ready q h)

      size_is : (q : ℕ) → q < n → front_size g U base q ≡ length (F q)
      size_is q h = sym (front_long q h) ∙ ap length (fronts_are q h)

      output_done : (q a : ℕ) → q < n → a < g.tags → stripped_at g U base q a ≡ (stripped (standing g U base n) F).output q a
      output_done q a h ha =
          let S = standing g U base n in
          let to = next_at-below g U base n ok.ready q a h ha in
          let e = next_is g U base n ok.ready q a h ha in
          ap₂ (λ (i : ℕ) (l : List ℕ). drop i l) (size_is q h)
          (ap₂ (λ (l m : List ℕ). l ++ m) (output_is g U base n ok.ready q a h ha)
          (ap (take (front_size g U base (next_at g U base q a))) (final_is g U base n ok.ready (next_at g U base q a) to)
          ∙ ap (front_at g U base n) e
          ∙ fronts_are (S.next q a) (next_below g U base n ok.ready q a h ha)))

      doing : Doing g.tags ok.ready.most (puts (standing g U base n) 0) (normalize g.tags (table_at g U base n))
      doing =
          doing-normalize g.tags ok.ready.most (puts (standing g U base n) 0) (table_at g U base n)
          (record { rows = ok.ready.holds.rows; sound = ok.ready.sound; held = ok.ready.held; does = λ x hx. refl })

      states : (q : ℕ) → q < n → RowAt g Z (base + q) (stripped (standing g U base n) F) q
      states q h =
          record {
            steps = λ a ha.
                let step = s.steps q a h ha in
                let o = output_done q a h ha in
                let new : StepAt g Y (base + q) a ((standing g U base n).next q a) ((stripped (standing g U base n) F).output q a) =
                record { next_is = step.next_is ∙ next_is g U base n ok.ready q a h ha; output_is = step.output_is ∙ o } in
                step_kept g (Finals g base (base + n)) Y Z f.kept (base + q) a _ _ new ha
                (rw (← o) (stripped-room g U base q a (strips q a h ha))) (λ e i. omega (arith, i.2));
            final_is =
                f.finals q h
                ∙ ap₂ (λ (i : ℕ) (l : List ℕ). drop i l)
                (last q 0 (omega (arith, ok.ready.room)) ∙ size_is q h)
                (word_kept g (Steps base (base + n) g.tags) U Y s.kept (base + q) g.tags FINAL (omega arith)
                (final-inner g U base n ok.ready q h).inside (λ e le i. omega (arith, i.2))
                ∙ final_is g U base n ok.ready q h);
          }

      pub holds_normalized : Holds g Z base (normalize g.tags (table_at g U base n))
      unfolding F
      holds_normalized =
          holds-doing g Z base (stripped (standing g U base n) (front (fronts (table_at g U base n)))) ok.ready.most (puts (standing g U base n) 0)
          doing ok.ready.room ok.ready.holds.room (λ q h. states q (below q h))

-- from the start
module _ (g : Grid) (W : List ℕ) (base n : ℕ) (ok : Ready g W base n) (X U Y Z : List ℕ) (started : Started g W X base n) (settled : Settled g X U base n) where
  pub fronted : Fronted g U base n
  fronted = fronted_lowered g X base n (fronted_start g W base n ok X started) U settled.lowered

  same : table_at g U base n ≡ table_at g W base n
  same =
      same-table g X base n (ready-kept g W base n ok X 0 1 (omega arith) started.kept) U 0 1 (omega arith) settled.lowered.kept
      ∙ same-table g W base n ok X 0 1 (omega arith) started.kept

  pub normalized : StepsStripped g U Y base n → FinalsStripped g Y Z base n → Normalized g W Z base n
  normalized s f =
      record {
        stands = λ d h does.
            let t = table_at g W base n in
            record {
              made =
                  record {
                    table = normalize g.tags t;
                    long = length-table g.tags _ ∙ length_at g W base n;
                    doing = doing-normalize g.tags d h t does;
                    so = early-normalize g.tags d h t does;
                  };
              holds = subst (λ (t : Table). Holds g Z base (normalize g.tags t)) same
                  (holds_normalized g U base n fronted settled.rests Y s Z f (settled.lowered.above (above-start g W base n ok X started)));
            };
        kept =
            then W X Z (kept_wider g (InRows base (base + n)) (Spare g base (base + n) FRONT (FRONT + 1)) W X started.kept (λ r c e i. (i.0, i.1)))
            (then X U Z (kept_wider g (InRows base (base + n)) (Spare g base (base + n) FRONT (FRONT + 1)) X U settled.lowered.kept (λ r c e i. (i.0, i.1)))
            (then U Y Z (kept_wider g (InRows base (base + n)) (Steps base (base + n) g.tags) U Y s.kept (λ r c e i. (i.0, i.1)))
            (kept_wider g (InRows base (base + n)) (Finals g base (base + n)) Y Z f.kept (λ r c e i. (i.0, i.1)))));
      }
    where
      then : (A B C : List ℕ) → Kept g A B (InRows base (base + n)) → Kept g B C (InRows base (base + n)) → Kept g A C (InRows base (base + n))
      then = kept_then g (InRows base (base + n))
