-- Steps and final words without their states' fronts.
use Prim.Native.Nat.{ℕ, ◌+◌, ◌-◌, ◌≤◌, ◌<◌}
use native.Mathlib.Omega.{arith}
use mathlib.Core.Path.{◌≡◌, sym, ap, ap₂, ◌∙◌}
use mathlib.Core.Logic.{◌⊎◌, inl, inr}
use mathlib.Core.List.{List, [], ◌++◌}
use lib.ListN.{length, take, drop, length-append, length-drop}
use lib.Seq.{drop-append-le, drop-append-add, length-take-le}
use Rattle.words.proofs.Word.{below_suc}
use Rattle.workspace.specs.declared.Grid.{Grid}
use Rattle.workspace.specs.Entries.{NEXT, OUTPUT, FINAL, FRONT}
use Rattle.workspace.specs.Cells.{at, word, Inner, Kept, Cell, Got, Written, part, Fits}
use Rattle.workspace.specs.Holds.{StepAt}
use Rattle.workspace.proofs.Regions.{kept-none, kept_then, kept_wider, sized-kept}
use Rattle.workspace.proofs.Words.{word-length, word_kept, written-more, written_is}
use Rattle.workspace.proofs.Holds.{step_kept}
use Rattle.normalize.specs.Fronts.{front_size}
use Rattle.normalize.specs.Strip.{next_at, stripped_at, Strip, Steps, RowStripped, StepsStripped, Finals, FinalsStripped}

-- one step
module _ (g : Grid) (W : List ℕ) (base q a : ℕ) (ok : Strip g W base q a) where
  to_word : (X : List ℕ) → Kept g W X (Cell (base + q) a OUTPUT)
      → word g X (base + next_at g W base q a) g.tags FINAL ≡ word g W (base + next_at g W base q a) g.tags FINAL
  to_word X k =
      word_kept g (Cell (base + q) a OUTPUT) W X k (base + next_at g W base q a) g.tags FINAL (omega arith) ok.to.inside (λ e h i. omega (arith, i.1, ok.tag))

  -- the word to append stands where it did
  pub to_inner : (X : List ℕ) → Kept g W X (Cell (base + q) a OUTPUT)
      → Inner g X (base + next_at g W base q a) g.tags FINAL × (at g X (base + next_at g W base q a) g.tags FINAL ≡ at g W (base + next_at g W base q a) g.tags FINAL)
  to_inner X k =
      let e = k.same (base + next_at g W base q a) g.tags FINAL (omega arith) (omega (arith, ok.to.inside)) (λ i. omega (arith, i.1, ok.tag)) in
      (record { row = ok.to.row; cell = ok.to.cell; inside = omega (arith, e, ok.to.inside) }, e)

  pub strip_in : (X Y : List ℕ) → front_size g W base q ≤ at g W (base + q) a OUTPUT → Written g W X (base + q) a OUTPUT (drop (front_size g W base q) (word g W (base + q) a OUTPUT))
      → Written g X Y (base + q) a OUTPUT (word g X (base + q) a OUTPUT ++ part 0 (front_size g W base (next_at g W base q a)) (word g X (base + next_at g W base q a) g.tags FINAL))
      → Written g W Y (base + q) a OUTPUT (stripped_at g W base q a)
  strip_in X Y le one two =
      written_is g W Y (base + q) a OUTPUT _ _
      (ap (λ (l : List ℕ). drop (front_size g W base q) (word g W (base + q) a OUTPUT) ++ take (front_size g W base (next_at g W base q a)) l) (to_word X one.kept)
      ∙ sym (drop-append-le (front_size g W base q) (word g W (base + q) a OUTPUT) (take (front_size g W base (next_at g W base q a)) (word g W (base + next_at g W base q a) g.tags FINAL))
      (omega (arith, word-length g W (base + q) a OUTPUT))))
      (written-more g W X (base + q) a OUTPUT Y _ _ one two)

  pub strip_past : (X Y : List ℕ) → at g W (base + q) a OUTPUT ≤ front_size g W base q → Written g W X (base + q) a OUTPUT []
      → Written g X Y (base + q) a OUTPUT
      (word g X (base + q) a OUTPUT ++ part (front_size g W base q - at g W (base + q) a OUTPUT) (front_size g W base (next_at g W base q a)) (word g X (base + next_at g W base q a) g.tags FINAL))
      → Written g W Y (base + q) a OUTPUT (stripped_at g W base q a)
  strip_past X Y le one two =
      let o = word g W (base + q) a OUTPUT in
      let z = take (front_size g W base (next_at g W base q a)) (word g W (base + next_at g W base q a) g.tags FINAL) in
      let e : front_size g W base q ≡ length o + (front_size g W base q - at g W (base + q) a OUTPUT) = omega (arith, word-length g W (base + q) a OUTPUT) in
      written_is g W Y (base + q) a OUTPUT _ _
      (ap (λ (l : List ℕ). drop (front_size g W base q - at g W (base + q) a OUTPUT) (take (front_size g W base (next_at g W base q a)) l)) (to_word X one.kept)
      ∙ sym (ap (λ (i : ℕ). drop i (o ++ z)) e ∙ drop-append-add o z (front_size g W base q - at g W (base + q) a OUTPUT)))
      (written-more g W X (base + q) a OUTPUT Y _ _ one two)

  pub stripped-room : Fits g OUTPUT (length (stripped_at g W base q a))
  stripped-room =
      let o = word g W (base + q) a OUTPUT in
      let x = word g W (base + next_at g W base q a) g.tags FINAL in
      let z = take (front_size g W base (next_at g W base q a)) x in
      omega (
        arith,
        length-drop (front_size g W base q) (o ++ z),
        length-append o z,
        word-length g W (base + q) a OUTPUT,
        length-take-le (front_size g W base (next_at g W base q a)) x (omega (arith, ok.front, word-length g W (base + next_at g W base q a) g.tags FINAL)),
        ok.room,
      )

  -- writing elsewhere leaves the step to strip
  module _ (X : List ℕ) (P : ℕ → ℕ → ℕ → Type 0) (k : Kept g W X P) (out-cell : (e : ℕ) → P (base + q) a e → ⊥)
      (out-last : (r e : ℕ) → P r g.tags e → ⊥) where
    deep : 8 ≤ g.depth
    deep = omega (arith, ok.to.inside)

    pub next-same : next_at g X base q a ≡ next_at g W base q a
    next-same = k.same (base + q) a NEXT (omega (arith, ok.tag)) (omega (arith, deep)) (out-cell 0)

    size_same : (i : ℕ) → front_size g X base i ≡ front_size g W base i
    size_same i = k.same (base + i) g.tags FRONT (omega arith) (omega (arith, deep)) (out-last (base + i) 0)

    long_same : at g X (base + q) a OUTPUT ≡ at g W (base + q) a OUTPUT
    long_same = k.same (base + q) a OUTPUT (omega (arith, ok.tag)) (omega (arith, deep)) (out-cell 1)

    final-same : at g X (base + next_at g X base q a) g.tags FINAL ≡ at g W (base + next_at g W base q a) g.tags FINAL
    final-same =
        k.same (base + next_at g X base q a) g.tags FINAL (omega arith) (omega (arith, deep)) (out-last (base + next_at g X base q a) 7)
        ∙ ap (λ (i : ℕ). at g W (base + i) g.tags FINAL) next-same

    other-same : front_size g X base (next_at g X base q a) ≡ front_size g W base (next_at g W base q a)
    other-same = size_same (next_at g X base q a) ∙ ap (front_size g W base) next-same

    pub stripped-same : stripped_at g X base q a ≡ stripped_at g W base q a
    stripped-same =
        let x-same : word g X (base + next_at g X base q a) g.tags FINAL ≡ word g W (base + next_at g W base q a) g.tags FINAL =
        ap (λ (i : ℕ). word g X (base + i) g.tags FINAL) next-same
        ∙ word_kept g P W X k (base + next_at g W base q a) g.tags FINAL (omega arith) ok.to.inside (λ e h. out-last (base + next_at g W base q a) e) in
        let o-same = word_kept g P W X k (base + q) a OUTPUT (omega (arith, ok.tag)) ok.from.inside (λ e h. out-cell e) in
        ap₂ (λ (i : ℕ) (l : List ℕ). drop i l) (size_same q)
        (ap₂ (λ (l m : List ℕ). l ++ m) o-same (ap₂ (λ (i : ℕ) (l : List ℕ). take i l) other-same x-same))

    pub strip_kept : Strip g X base q a
    strip_kept =
        record {
          sized = sized-kept g W X ok.sized k.long;
          tag = ok.tag;
          from = record { row = ok.from.row; cell = ok.from.cell; inside = omega (arith, long_same, ok.from.inside) };
          to = record { row = omega (arith, next-same, ok.to.row); cell = ok.to.cell; inside = omega (arith, final-same, ok.to.inside) };
          front = omega (arith, other-same, final-same, ok.front);
          covers = omega (arith, size_same q, long_same, other-same, ok.covers);
          room = omega (arith, long_same, other-same, ok.room);
        }

  -- the same by the numbers that were read
  module _ (own long next other : ℕ) (is-own : own ≡ front_size g W base q) (is-long : long ≡ at g W (base + q) a OUTPUT) (is-next : next ≡ next_at g W base q a)
      (is-other : other ≡ front_size g W base next) where
    other-is : other ≡ front_size g W base (next_at g W base q a)
    other-is = is-other ∙ ap (front_size g W base) is-next

    pub got_to : (X : List ℕ) → Kept g W X (Cell (base + q) a OUTPUT)
        → Inner g X (base + next) g.tags FINAL × (other ≤ at g X (base + next) g.tags FINAL) × (own ≤ long + other) × Fits g OUTPUT (long + other)
    got_to X k =
        let i = to_inner X k in
        (rw is-next i.0, rw is-next (omega (arith, i.1, other-is, ok.front)), omega (arith, other-is, ok.covers), omega (arith, other-is, ok.room))

    pub got_in : (X Y : List ℕ) → own ≤ long → Written g W X (base + q) a OUTPUT (drop own (word g W (base + q) a OUTPUT))
        → Written g X Y (base + q) a OUTPUT (word g X (base + q) a OUTPUT ++ part 0 other (word g X (base + next) g.tags FINAL))
        → Written g W Y (base + q) a OUTPUT (stripped_at g W base q a)
    got_in X Y le one two = strip_in X Y (omega arith) (rw is-own at one) (rw (other-is, is-next) at two)

    pub got_past : (X Y : List ℕ) → long ≤ own → Written g W X (base + q) a OUTPUT []
        → Written g X Y (base + q) a OUTPUT (word g X (base + q) a OUTPUT ++ part (own - long) other (word g X (base + next) g.tags FINAL))
        → Written g W Y (base + q) a OUTPUT (stripped_at g W base q a)
    got_past X Y le one two = strip_past X Y (omega arith) one (rw (is-own, is-long, other-is, is-next) at two)

-- the steps of a state
module _ (g : Grid) (W : List ℕ) (base q : ℕ) (ok : (a : ℕ) → a < g.tags → Strip g W base q a) where
  pub row-start : RowStripped g W W base q 0
  row-start = record { kept = kept-none g (Steps (base + q) (base + q + 1) 0) W; steps = λ b h. absurd (omega arith) }

  module _ (X : List ℕ) (a : ℕ) (ha : a < g.tags) (s : RowStripped g W X base q a) where
    out-cell : (e : ℕ) → Steps (base + q) (base + q + 1) a (base + q) a e → ⊥
    out-cell e i = omega (arith, i.2)

    out-last : (r e : ℕ) → Steps (base + q) (base + q + 1) a r g.tags e → ⊥
    out-last r e i = omega (arith, i.2)

    pub row_strip : Strip g X base q a
    row_strip = strip_kept g W base q a (ok a ha) X (Steps (base + q) (base + q + 1) a) s.kept out-cell out-last

    pub row_next : (Y : List ℕ) → Written g X Y (base + q) a OUTPUT (stripped_at g X base q a) → RowStripped g W Y base q (a + 1)
    row_next Y w =
        record {
          kept =
              kept_then g (Steps (base + q) (base + q + 1) (a + 1)) W X Y
              (kept_wider g (Steps (base + q) (base + q + 1) (a + 1)) (Steps (base + q) (base + q + 1) a) W X s.kept (λ r c e i. (i.0, i.1, omega (arith, i.2))))
              (kept_wider g (Steps (base + q) (base + q + 1) (a + 1)) (Cell (base + q) a OUTPUT) X Y w.kept
              (λ r c e i. (omega (arith, i.0), omega (arith, i.0), omega (arith, i.1))));
          steps = λ b h. go b (below_suc b a (omega arith));
        }
      where
        go : (b : ℕ) → (b < a) ⊎ (b ≡ a) → StepAt g Y (base + q) b (next_at g W base q b) (stripped_at g W base q b)
        go b (inl h) =
            step_kept g (Cell (base + q) a OUTPUT) X Y w.kept (base + q) b (next_at g W base q b) (stripped_at g W base q b) (s.steps b h) (omega arith)
            (stripped-room g W base q b (ok b (omega arith))) (λ e i. omega (arith, i.1))
        go b (inr d) =
            rw d
            (record {
              next_is = w.kept.same (base + q) a NEXT (omega arith) (omega (arith, (ok a ha).to.inside)) (λ i. omega (arith, i.2))
                  ∙ next-same g W base q a (ok a ha) X (Steps (base + q) (base + q + 1) a) s.kept out-cell out-last;
              output_is = w.here ∙ stripped-same g W base q a (ok a ha) X (Steps (base + q) (base + q + 1) a) s.kept out-cell out-last;
            })

-- the steps of all states
module _ (g : Grid) (W : List ℕ) (base n : ℕ) (ok : (q a : ℕ) → q < n → a < g.tags → Strip g W base q a) where
  pub steps-start : StepsStripped g W W base 0
  steps-start = record { kept = kept-none g (Steps base (base + 0) g.tags) W; steps = λ q b h. absurd (omega arith) }

  module _ (X : List ℕ) (q : ℕ) (hq : q < n) (s : StepsStripped g W X base q) where
    other_row : (a e : ℕ) → Steps base (base + q) g.tags (base + q) a e → ⊥
    other_row a e i = omega (arith, i.1)

    not_last : (r e : ℕ) → Steps base (base + q) g.tags r g.tags e → ⊥
    not_last r e i = omega (arith, i.2)

    pub steps_strip : (a : ℕ) → a < g.tags → Strip g X base q a
    steps_strip a ha = strip_kept g W base q a (ok q a hq ha) X (Steps base (base + q) g.tags) s.kept (other_row a) not_last

    pub steps_next : (Y : List ℕ) → RowStripped g X Y base q g.tags → StepsStripped g W Y base (q + 1)
    steps_next Y w =
        record {
          kept =
              kept_then g (Steps base (base + (q + 1)) g.tags) W X Y
              (kept_wider g (Steps base (base + (q + 1)) g.tags) (Steps base (base + q) g.tags) W X s.kept (λ r c e i. (i.0, omega (arith, i.1), i.2)))
              (kept_wider g (Steps base (base + (q + 1)) g.tags) (Steps (base + q) (base + q + 1) g.tags) X Y w.kept
              (λ r c e i. (omega (arith, i.0), omega (arith, i.1), i.2)));
          steps = λ p b h hb. go p b hb (below_suc p q (omega arith));
        }
      where
        go : (p b : ℕ) → b < g.tags → (p < q) ⊎ (p ≡ q) → StepAt g Y (base + p) b (next_at g W base p b) (stripped_at g W base p b)
        go p b hb (inl h) =
            step_kept g (Steps (base + q) (base + q + 1) g.tags) X Y w.kept (base + p) b (next_at g W base p b) (stripped_at g W base p b) (s.steps p b h hb) hb
            (stripped-room g W base p b (ok p b (omega arith) hb)) (λ e i. omega (arith, i.0))
        go p b hb (inr d) =
            rw d
            (record {
              next_is = (w.steps b hb).next_is ∙ next-same g W base q b (ok q b hq hb) X (Steps base (base + q) g.tags) s.kept (other_row b) not_last;
              output_is = (w.steps b hb).output_is ∙ stripped-same g W base q b (ok q b hq hb) X (Steps base (base + q) g.tags) s.kept (other_row b) not_last;
            })

-- the final words
module _ (g : Grid) (W : List ℕ) (base n : ℕ)
    (ok : (q : ℕ) → q < n → Inner g W (base + q) g.tags FINAL × (front_size g W base q ≤ at g W (base + q) g.tags FINAL)) where
  pub finals-start : FinalsStripped g W W base 0
  finals-start = record { kept = kept-none g (Finals g base (base + 0)) W; finals = λ q h. absurd (omega arith) }

  module _ (X : List ℕ) (q : ℕ) (hq : q < n) (s : FinalsStripped g W X base q) where
    same-long : at g X (base + q) g.tags FINAL ≡ at g W (base + q) g.tags FINAL
    same-long = s.kept.same (base + q) g.tags FINAL (omega arith) (omega (arith, (ok q hq).0.inside)) (λ i. omega (arith, i.1))

    same-own : front_size g X base q ≡ front_size g W base q
    same-own = s.kept.same (base + q) g.tags FRONT (omega arith) (omega (arith, (ok q hq).0.inside)) (λ i. omega (arith, i.3))

    pub finals-inner : Inner g X (base + q) g.tags FINAL
    finals-inner = record { row = (ok q hq).0.row; cell = omega arith; inside = omega (arith, same-long, (ok q hq).0.inside) }

    pub finals-own : (own : ℕ) → Got g X (base + q) g.tags FRONT own → own ≤ at g X (base + q) g.tags FINAL
    finals-own own got = omega (arith, got.is, same-own, same-long, (ok q hq).1)

    pub finals-next : (Y : List ℕ) (own : ℕ) → Got g X (base + q) g.tags FRONT own
        → Written g X Y (base + q) g.tags FINAL (drop own (word g X (base + q) g.tags FINAL)) → FinalsStripped g W Y base (q + 1)
    finals-next Y own got w =
        record {
          kept =
              kept_then g (Finals g base (base + (q + 1))) W X Y
              (kept_wider g (Finals g base (base + (q + 1))) (Finals g base (base + q)) W X s.kept (λ r c e i. (i.0, omega (arith, i.1), i.2, i.3)))
              (kept_wider g (Finals g base (base + (q + 1))) (Cell (base + q) g.tags FINAL) X Y w.kept
              (λ r c e i. (omega (arith, i.0), omega (arith, i.0), i.1, i.2)));
          finals = λ p h. go p (below_suc p q (omega arith));
        }
      where
        go : (p : ℕ) → (p < q) ⊎ (p ≡ q) → word g Y (base + p) g.tags FINAL ≡ drop (front_size g W base p) (word g W (base + p) g.tags FINAL)
        go p (inl h) =
            let hp : p < n = omega arith in
            let before = s.finals p h in
            word_kept g (Cell (base + q) g.tags FINAL) X Y w.kept (base + p) g.tags FINAL (omega arith)
            (omega (
              arith,
              word-length g X (base + p) g.tags FINAL,
              ap length before,
              length-drop (front_size g W base p) (word g W (base + p) g.tags FINAL),
              word-length g W (base + p) g.tags FINAL,
              (ok p hp).0.inside,
            )) (λ e le i. omega (arith, i.0))
            ∙ before
        go p (inr d) =
            rw d
            (w.here
            ∙ ap₂ (λ (i : ℕ) (l : List ℕ). drop i l) (got.is ∙ same-own)
            (word_kept g (Finals g base (base + q)) W X s.kept (base + q) g.tags FINAL (omega arith) (ok q hq).0.inside (λ e le i. omega (arith, i.1))))
