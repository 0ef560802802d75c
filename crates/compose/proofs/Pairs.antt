-- The states of the composition as pairs of states: s is (s / m, s % m).
use Prim.Native.Nat.{ℕ, ◌+◌, ◌*◌, ◌/◌, ◌%◌, ◌≤◌, ◌<◌}
use native.Mathlib.Omega.{arith}
use native.Mathlib.Nat.{mul-le-mul_right, suc-mul, mod-lt, div-lt_iff_lt-mul}
use mathlib.Core.Path.{◌≡◌, refl, sym, ap, ap₂, ◌∙◌}
use mathlib.Core.Logic.{inl, inr}
use mathlib.Core.List.{List, [], ◌++◌, append-nil}
use lib.ListN.{length, length-append}
use Rattle.words.specs.Word.{Below}
use Rattle.transducers.specs.Transducer.{Shape, puts}
use Rattle.transducers.specs.Run.{walk, outputs}
use Rattle.transducers.specs.Canonical.{Sound, Held}
use Rattle.transducers.specs.Tabulate.{table, Doing}
use Rattle.transducers.specs.Compose.{product}
use Rattle.transducers.proofs.Run.{puts-append, walk-below, outputs-length}
use Rattle.transducers.proofs.Compose.{final-length, sound-product, doing-compose}
use Rattle.transducers.proofs.Tabulate.{length-table, agree_table, puts-table, doing-table}
use Rattle.workspace.specs.declared.Grid.{Grid}
use Rattle.workspace.specs.Entries.{NEXT, OUTPUT, FINAL, MEMBER}
use Rattle.workspace.specs.Cells.{at, word, Inner, Kept, Entry, InRows, Cell, Got, Put, Written}
use Rattle.workspace.specs.Holds.{Roomy, Holds, table_at, shape_at, standing}
use Rattle.workspace.proofs.Regions.{kept_wider, sized-kept}
use Rattle.workspace.proofs.Words.{word-length, word_kept, written-more, written_is}
use Rattle.workspace.proofs.Holds.{holds_kept, length_at, table-at, roomy-held, holds-table}
use Rattle.worklist.specs.Worklist.{member_of, ListNotes, Slots, Worklist, Grown, Entered, Member}
use Rattle.worklist.proofs.Marks.{grown_then, grown_wider, grown_by}
use Rattle.compose.specs.Runs.{Runs, Arrived}
use Rattle.compose.specs.Pairs.{StepNotes, RowNotes, StepPaired, State}
use Rattle.compose.specs.Composed.{Composable, Composed}
use Rattle.compose.proofs.Cover.{Covers, covers-puts, covers-sound, covers-held}
use Rattle.compose.proofs.Reached.{Searching}

-- the composition at the pair
module _ (A R : Shape) (m s a : ℕ) (e : R.count ≡ m) where
  pair_next : A.next (s / m) a * m + walk R (s % m) (A.output (s / m) a) ≡ (product A R).next s a
  pair_next = rw (← e)

  pair_output : outputs R (s % m) (A.output (s / m) a) ≡ (product A R).output s a
  pair_output = rw (← e)

  pair_final : puts R (s % m) (A.final (s / m)) ≡ (product A R).final s
  pair_final = rw (← e)

module _ (g : Grid) (W : List ℕ) (first n second m base : ℕ) (ok : Composable g W first n second m base) where
  A : Shape
  A = standing g W first n

  R : Shape
  R = standing g W second m

  counts : R.count ≡ m
  unfolding R
  counts = length_at g W second m

  pub some : 0 < m
  some = omega (arith, ok.second_sound.some, length_at g W second m)

  pub pair_first : (s : ℕ) → s < n * m → s / m < n
  pair_first s h = (div-lt_iff_lt-mul some).1 h

  pub pair_second : (s : ℕ) → s % m < m
  pair_second s = mod-lt s some

  in_first : (s : ℕ) → s < n * m → s / m < length (table_at g W first n)
  in_first s h = omega (arith, pair_first s h, length_at g W first n)

  in_second : (s : ℕ) → s % m < length (table_at g W second m)
  in_second s = omega (arith, pair_second s, length_at g W second m)

  -- the run over a word of the first state's row, its output or final word
  runs : (i s c e : ℕ) (w : List ℕ) → i < n * m → s < n * m → c < g.tags + 1 → word g W (first + s / m) c e ≡ w → Below g.tags w
      → e + length w < g.depth → e + ok.second_most + length w < g.depth → Runs g W second m (s % m) (first + s / m) c e (base + i) c e
  runs i s c e w hi h hc is below inner room =
      record {
        sized = ok.sized;
        holds = ok.second_holds;
        state = pair_second s;
        from =
            record {
              row = omega (arith, ok.first_holds.room, in_first s h);
              cell = hc;
              inside = omega (arith, word-length g W (first + s / m) c e, ap length is);
            };
        from_below = rw is below;
        row = omega (arith, ok.second_holds.room, ok.above);
        cell = hc;
        other = λ p j. omega (arith, ok.below, pair_first s h);
        before = omega (arith, ok.above);
        room = rw is
            (omega (arith, ok.second_held (s % m) (in_second s), outputs-length g.tags (standing g W second m) ok.second_sound (s % m) (in_second s) w below));
      }

  pub runs_output : (i s a : ℕ) → i < n * m → s < n * m → a < g.tags → Runs g W second m (s % m) (first + s / m) a OUTPUT (base + i) a OUTPUT
  runs_output i s a hi h ha =
      let q = s / m in
      let o = ok.first_sound.balanced q a (in_first s h) ha in
      runs i s a OUTPUT ((standing g W first n).output q a) hi h (omega arith) ((ok.first_holds.states q (in_first s h)).steps a ha).output_is
      (ok.first_sound.output_below q a (in_first s h) ha)
      (omega (arith, o, ok.room, ok.first_held q (in_first s h))) (omega (arith, o, ok.room, ok.first_held q (in_first s h)))

  pub runs_final : (i s : ℕ) → i < n * m → s < n * m → Runs g W second m (s % m) (first + s / m) g.tags FINAL (base + i) g.tags FINAL
  runs_final i s hi h =
      let q = s / m in
      runs i s g.tags FINAL ((standing g W first n).final q) hi h (omega arith) (ok.first_holds.states q (in_first s h)).final_is
      (ok.first_sound.final_below q (in_first s h))
      (omega (arith, ok.room, ok.first_held q (in_first s h))) (omega (arith, ok.room, ok.first_held q (in_first s h)))

  -- the pair that a step leads to
  pair_below : (q r : ℕ) → q < n → r < m → q * m + r < n * m
  pair_below q r hq hr = omega (arith, mul-le-mul_right m hq, suc-mul q m)

  pub roomy-product : Roomy g (product (standing g W first n) (standing g W second m))
  roomy-product =
      roomy-held g (ok.first_most + ok.second_most) (product (standing g W first n) (standing g W second m))
      (sound-product g.tags (standing g W first n) (standing g W second m) ok.first_sound ok.second_sound) held ok.room
    where
      held : Held (ok.first_most + ok.second_most) (product (standing g W first n) (standing g W second m))
      held s h =
          let h' : s < n * m = rw (length_at g W first n, length_at g W second m) at h in
          omega (
            arith,
            final-length g.tags (standing g W first n) (standing g W second m) ok.first_sound ok.second_sound s h,
            ap (λ (i : ℕ). length ((standing g W first n).final (s / i))) (length_at g W second m),
            ap (λ (i : ℕ). length ((standing g W second m).final (s % i))) (length_at g W second m),
            ok.first_held (s / m) (in_first s h'),
            ok.second_held (s % m) (in_second s),
          )

  pub count-product : (product (standing g W first n) (standing g W second m)).count ≡ n * m
  count-product = rw (length_at g W first n, length_at g W second m)

  pub pairs_some : 0 < n * m
  pairs_some =
      omega (
        arith,
        (sound-product g.tags (standing g W first n) (standing g W second m) ok.first_sound ok.second_sound).some,
        count-product,
      )

  pub slots : Slots g W base (n * m)
  slots =
      record {
        sized = ok.sized;
        inside = omega (arith, ok.above, ok.second_holds.room);
        deep = omega (arith, ok.room);
        some = pairs_some;
        small = ok.small;
      }

  module _ (i s a : ℕ) (hi : i < n * m) (h : s < n * m) (ha : a < g.tags) (X : List ℕ) (to : ℕ)
      (ran : Arrived g W X second m (s % m) (first + s / m) a OUTPUT (base + i) a OUTPUT [] to) where
    to_is : to ≡ walk (standing g W second m) (s % m) ((standing g W first n).output (s / m) a)
    to_is = ran.ends ∙ ap (walk (standing g W second m) (s % m)) ((ok.first_holds.states (s / m) (in_first s h)).steps a ha).output_is

    to_below : to < m
    to_below =
        omega (
          arith,
          to_is,
          length_at g W second m,
          walk-below g.tags (standing g W second m) ok.second_sound.next_below (s % m) (in_second s) ((standing g W first n).output (s / m) a)
              (ok.first_sound.output_below (s / m) a (in_first s h) ha),
        )

    module _ (next : ℕ) (got : Got g X (first + s / m) a NEXT next) where
      next_is : next ≡ (standing g W first n).next (s / m) a
      next_is =
          got.is
          ∙ ran.wrote.kept.same (first + s / m) a NEXT (omega arith) (omega (arith, ok.room)) (λ p. omega (arith, p.0, ok.below, pair_first s h))
          ∙ ((ok.first_holds.states (s / m) (in_first s h)).steps a ha).next_is

      next_below : next < n
      next_below = omega (arith, next_is, length_at g W first n, ok.first_sound.next_below (s / m) a (in_first s h) ha)

      -- the number of the next pair is small
      pub next_small : (next * m < n * m) × (next * m + to < n * m) × (n * m < 0x10000)
      next_small = (
        omega (arith, pair_below next 0 next_below some),
        pair_below next to next_below to_below,
        ok.small,
      )

      pair_is : next * m + to ≡ (product (standing g W first n) (standing g W second m)).next s a
      pair_is =
          ap₂ (λ (x y : ℕ). x * m + y) next_is to_is ∙ pair_next (standing g W first n) (standing g W second m) m s a (length_at g W second m)

      output_is : word g X (base + i) a OUTPUT ≡ (product (standing g W first n) (standing g W second m)).output s a
      output_is =
          ran.wrote.here
          ∙ ap (outputs (standing g W second m) (s % m)) ((ok.first_holds.states (s / m) (in_first s h)).steps a ha).output_is
          ∙ pair_output (standing g W first n) (standing g W second m) m s a (length_at g W second m)

      output-inside : OUTPUT + at g X (base + i) a OUTPUT < g.depth
      output-inside =
          omega (arith, word-length g X (base + i) a OUTPUT, ap length output_is, roomy-product.outputs s a (omega (arith, count-product)) ha)

      -- the run leaves the list
      module _ (len : ℕ) (list : Worklist g W base (n * m) len) where
        run-grown : Grown (StepNotes g base (n * m) i a) g W X base (n * m) len len
        run-grown =
            grown_wider g base (n * m) (StepNotes g base (n * m) i a) (Cell (base + i) a OUTPUT) W X len len
            (grown_by g base (n * m) (Cell (base + i) a OUTPUT) W X len list ran.wrote.kept (λ j e lo hi p. omega (arith, p.1)))
            (λ r c e p. inl (p.0, p.1, omega arith))

        -- the pair of the next states has got a state
        module _ (Y : List ℕ) (more : ℕ) (entered : Entered g X Y base (n * m) len (next * m + to) more) (state : ℕ)
            (placed : Member g Y base more (next * m + to) state) where
          enter_grown : Grown (StepNotes g base (n * m) i a) g X Y base (n * m) len more
          enter_grown =
              grown_wider g base (n * m) (StepNotes g base (n * m) i a) (ListNotes g base (n * m)) X Y len more entered.grown (λ r c e p. inr p)

          pub step_done : (Z : List ℕ) → Put g Y Z (base + i) a NEXT state
              → StepPaired g W Z base (n * m) len i s (product (standing g W first n) (standing g W second m)) a more
          step_done Z p =
              record {
                grown =
                    grown_then g base (n * m) (StepNotes g base (n * m) i a) W X Z len len more run-grown
                    (grown_then g base (n * m) (StepNotes g base (n * m) i a) X Y Z len more more enter_grown put-grown);
                step =
                    record {
                      inside = omega (arith, size, output-inside);
                      next_below = omega (arith, p.here, placed.below);
                      pair_is = ap (member_of g Z base) p.here ∙ same ∙ placed.is ∙ pair_is;
                      output_is =
                          word_kept g (Entry (base + i) a NEXT) Y Z p.kept (base + i) a OUTPUT (omega arith) (omega (arith, size_Y, output-inside)) (λ e l q. omega (arith, q.2))
                          ∙ word_kept g (ListNotes g base (n * m)) X Y entered.grown.kept (base + i) a OUTPUT (omega arith) output-inside (λ e l q. omega (arith, q.2))
                          ∙ output_is;
                    };
              }
            where
              put-grown : Grown (StepNotes g base (n * m) i a) g Y Z base (n * m) more more
              put-grown =
                  grown_wider g base (n * m) (StepNotes g base (n * m) i a) (Entry (base + i) a NEXT) Y Z more more
                  (grown_by g base (n * m) (Entry (base + i) a NEXT) Y Z more entered.grown.list p.kept (λ j e lo hi q. omega (arith, q.1)))
                  (λ r c e q. inl (q.0, q.1, omega arith))

              same : member_of g Z base state ≡ member_of g Y base state
              same = p.kept.same (base + state) g.tags MEMBER (omega arith) (omega (arith, slots.deep)) (λ q. omega (arith, q.1))

              size_Y : at g Y (base + i) a OUTPUT ≡ at g X (base + i) a OUTPUT
              size_Y = entered.grown.kept.same (base + i) a OUTPUT (omega arith) (omega (arith, slots.deep)) (λ q. omega (arith, q.2))

              size : at g Z (base + i) a OUTPUT ≡ at g X (base + i) a OUTPUT
              size = p.kept.same (base + i) a OUTPUT (omega arith) (omega (arith, slots.deep)) (λ q. omega (arith, q.2)) ∙ size_Y

  module _ (i s : ℕ) (hi : i < n * m) (h : s < n * m) (X : List ℕ) (to : ℕ)
      (ran : Arrived g W X second m (s % m) (first + s / m) g.tags FINAL (base + i) g.tags FINAL [] to) where
    w : List ℕ
    w = (standing g W first n).final (s / m)

    word_is : word g W (first + s / m) g.tags FINAL ≡ (standing g W first n).final (s / m)
    word_is = (ok.first_holds.states (s / m) (in_first s h)).final_is

    end_is : to ≡ walk (standing g W second m) (s % m) ((standing g W first n).final (s / m))
    end_is = ran.ends ∙ ap (walk (standing g W second m) (s % m)) word_is

    pub end_below : to < m
    end_below =
        omega (
          arith,
          end_is,
          length_at g W second m,
          walk-below g.tags (standing g W second m) ok.second_sound.next_below (s % m) (in_second s) ((standing g W first n).final (s / m))
              (ok.first_sound.final_below (s / m) (in_first s h)),
        )

    -- the second's rows stay
    second_on : Holds g X second (table_at g W second m)
    second_on =
        holds_kept g (Cell (base + i) g.tags FINAL) W X ran.wrote.kept second (table_at g W second m) ok.second_holds
        (λ p b e hp hb i. omega (arith, i.0, ok.above)) (λ p e hp he i. omega (arith, i.0, ok.above))

    in_table : to < length (table_at g W second m)
    in_table = omega (arith, end_below, length_at g W second m)

    last_is : word g X (second + to) g.tags FINAL ≡ (standing g W second m).final to
    last_is = (second_on.states to in_table).final_is

    size : at g X (second + to) g.tags FINAL ≡ length ((standing g W second m).final to)
    size = sym (word-length g X (second + to) g.tags FINAL) ∙ ap length last_is

    both : outputs (standing g W second m) (s % m) (word g W (first + s / m) g.tags FINAL) ++ word g X (second + to) g.tags FINAL
        ≡ (product (standing g W first n) (standing g W second m)).final s
    both =
        let R = standing g W second m in
        let v = (standing g W first n).final (s / m) in
        ap₂ (λ (x y : List ℕ). outputs R (s % m) x ++ y) word_is (last_is ∙ ap R.final end_is)
        ∙ sym (puts-append R (s % m) v [])
        ∙ ap (puts R (s % m)) (append-nil v)
        ∙ pair_final (standing g W first n) R m s 0 (length_at g W second m)

    pub last_inner : Inner g X (second + to) g.tags FINAL
    last_inner =
        record {
          row = omega (arith, ok.second_holds.room, in_table);
          cell = omega arith;
          inside = omega (arith, size, ok.second_holds.roomy.finals to in_table);
        }

    pub last-room : FINAL + at g X (base + i) g.tags FINAL + at g X (second + to) g.tags FINAL < g.depth
    last-room =
        omega (
          arith,
          ran.wrote.size,
          word-length g X (second + to) g.tags FINAL,
          ap length both,
          length-append (outputs (standing g W second m) (s % m) (word g W (first + s / m) g.tags FINAL)) (word g X (second + to) g.tags FINAL),
          roomy-product.finals s (omega (arith, count-product)),
        )

    pub final_done : (Y : List ℕ) → Written g X Y (base + i) g.tags FINAL (word g X (base + i) g.tags FINAL ++ word g X (second + to) g.tags FINAL)
        → Written g W Y (base + i) g.tags FINAL ((product (standing g W first n) (standing g W second m)).final s)
    final_done Y wrote = written_is g W Y (base + i) g.tags FINAL _ _ both (written-more g W X (base + i) g.tags FINAL Y _ _ ran.wrote wrote)

  -- a row and the notes of pairs are between the two
  pub notes_inside : (X : List ℕ) (i : ℕ) → i < n * m → Kept g W X (RowNotes g base (n * m) i) → Kept g W X (InRows base (base + n * m))
  notes_inside X i h kept = kept_wider g (InRows base (base + n * m)) (RowNotes g base (n * m) i) W X kept wider
    where
      wider : (r c e : ℕ) → RowNotes g base (n * m) i r c e → InRows base (base + n * m) r c e
      wider r c e (inl p) = (omega (arith, p.0), omega (arith, p.1))
      wider r c e (inr p) = (p.0, p.1)

  pub spare_inside : (X : List ℕ) → Kept g W X (ListNotes g base (n * m)) → Kept g W X (InRows base (base + n * m))
  spare_inside X kept = kept_wider g (InRows base (base + n * m)) (ListNotes g base (n * m)) W X kept (λ r c e p. (p.0, p.1))

  -- writing between the two leaves both
  module _ (X : List ℕ) (kept : Kept g W X (InRows base (base + n * m))) where
    first_on : Holds g X first (table_at g W first n)
    first_on =
        holds_kept g (InRows base (base + n * m)) W X kept first (table_at g W first n) ok.first_holds
        (λ q a e hq ha i. omega (arith, i.0, ok.below, length_at g W first n)) (λ q e hq he i. omega (arith, i.0, ok.below, length_at g W first n))

    second_still : Holds g X second (table_at g W second m)
    second_still =
        holds_kept g (InRows base (base + n * m)) W X kept second (table_at g W second m) ok.second_holds
        (λ q a e hq ha i. omega (arith, i.1, ok.above)) (λ q e hq he i. omega (arith, i.1, ok.above))

    pub first-same : table_at g X first n ≡ table_at g W first n
    first-same = table-at g X first n (table_at g W first n) first_on (length_at g W first n)

    pub second_same : table_at g X second m ≡ table_at g W second m
    second_same = table-at g X second m (table_at g W second m) second_still (length_at g W second m)

    pub composable_kept : Composable g X first n second m base
    composable_kept =
        record {
          sized = sized-kept g W X ok.sized kept.long;
          first_holds = rw first-same first_on;
          second_holds = rw second_same second_still;
          first_sound = rw first-same ok.first_sound;
          second_sound = rw second_same ok.second_sound;
          first_most = ok.first_most;
          second_most = ok.second_most;
          first_held = rw first-same ok.first_held;
          second_held = rw second_same ok.second_held;
          room = ok.room;
          below = ok.below;
          above = ok.above;
          small = ok.small;
        }

  -- a transducer of the reached pairs
  module _ (X : List ℕ) (i len : ℕ) (done : len ≤ i) (m' : Searching g W X base (n * m) (product (standing g W first n) (standing g W second m)) i len) where
    abbrev S : Shape
    S = product (standing g W first n) (standing g W second m)

    abbrev T : Shape
    T = shape_at g X base len

    state : (q : ℕ) → q < len → State g X base len q (member_of g X base q) S
    state q h = m'.states q (omega arith)

    low : (q : ℕ) → q < len → member_of g X base q < S.count
    low q h = omega (arith, m'.list.below q h, count-product)

    covers : Covers g.tags S T (member_of g X base)
    covers =
        record {
          some = m'.list.some;
          start = m'.list.start;
          below = low;
          inside = λ q a h ha. ((state q h).steps a ha).next_below;
          nexts = λ q a h ha. ((state q h).steps a ha).pair_is;
          outputs = λ q a h ha. ((state q h).steps a ha).output_is;
          finals = λ q h. (state q h).final_is;
        }

    S_sound : Sound g.tags S
    S_sound = sound-product g.tags (standing g W first n) (standing g W second m) ok.first_sound ok.second_sound

    T_sound : Sound g.tags T
    T_sound = covers-sound g.tags S T (member_of g X base) covers S_sound

    roomy : Roomy g T
    roomy =
        record {
          outputs = λ q a h ha. omega (arith, ap length (covers.outputs q a h ha), roomy-product.outputs (member_of g X base q) a (low q h) ha);
          finals = λ q h. omega (arith, ap length (covers.finals q h), roomy-product.finals (member_of g X base q) (low q h));
        }

    pub composed : Composed g W X first n second m base len
    composed =
        record {
          few = m'.list.low;
          kept = m'.kept;
          stands = λ d e f h a b.
              record {
                made =
                    record {
                      table = table g.tags T;
                      long = length-table g.tags T;
                      doing =
                          doing-table g.tags T T_sound (d + e) (λ w. h (f w)) (covers-held g.tags S T (member_of g X base) covers (d + e) (held-product d e f h a b))
                          (λ x hx. covers-puts g.tags S T (member_of g X base) covers x hx 0 m'.list.some ∙ ap (λ (s : ℕ). puts S s x) m'.list.start ∙ does-product d e f h a b x hx);
                      so = tt;
                    };
                holds =
                    holds-table g X base T (omega (arith, m'.list.low, ok.above, ok.second_holds.room)) covers.inside roomy
                    (λ q h. record { steps = λ a ha. record { next_is = refl; output_is = refl }; final_is = refl });
              };
        }
      where
        held-product : (d e : ℕ) (f h : List ℕ → List ℕ) → Doing g.tags d f (table_at g W first n) → Doing g.tags e h (table_at g W second m) → Held (d + e) S
        held-product d e f h a b s hs =
            let c = doing-compose g.tags d e f h (table_at g W first n) (table_at g W second m) a b in
            omega (arith, ap length ((agree_table g.tags S).finals s hs), c.held s (omega (arith, length-table g.tags S)))

        does-product : (d e : ℕ) (f h : List ℕ → List ℕ) → Doing g.tags d f (table_at g W first n) → Doing g.tags e h (table_at g W second m)
            → (x : List ℕ) → Below g.tags x → puts S 0 x ≡ h (f x)
        does-product d e f h a b x hx =
            let c = doing-compose g.tags d e f h (table_at g W first n) (table_at g W second m) a b in
            sym (puts-table g.tags S S_sound 0 S_sound.some x hx) ∙ c.does x hx
