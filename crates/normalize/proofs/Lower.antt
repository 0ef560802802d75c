-- Fronts that are lowered, one at a time, until nothing changes.
use Prim.Native.Nat.{ℕ, ◌+◌, ◌-◌, ◌≤◌, ◌<◌, min}
use native.Mathlib.Omega.{arith}
use native.Mathlib.Decide.{ℕ_discrete}
use mathlib.Core.Path.{◌≡◌, refl, sym, ap, ap₂, ◌∙◌, subst}
use mathlib.Core.Logic.{◌⊎◌, inl, inr}
use mathlib.Core.Bool.{Bool, true, false, ◌||◌}
use Rattle.std.proofs.lemmas.Bool.{or_cases, or_parts}
use mathlib.Core.List.{List, [], ◌++◌}
use lib.ListN.{length, get_or, take, drop}
use lib.Seq.{length-take-le, take-length}
use Rattle.words.specs.Front.{meet}
use Rattle.words.specs.Word.{Prefix}
use Rattle.words.proofs.Word.{below_suc}
use Rattle.words.proofs.Front.{begins_nil, begins_trans, begins_length, begins_whole, meet_left, meet_right}
use Rattle.transducers.specs.Table.{Table, shape}
use Rattle.transducers.specs.Rounds.{total}
use Rattle.transducers.specs.Tabulate.{tabulate}
use Rattle.transducers.specs.Normalize.{Above}
use Rattle.transducers.proofs.Tabulate.{length-tabulate, at-tabulate}
use Rattle.transducers.proofs.Rounds.{total_le, total-same}
use Rattle.transducers.proofs.Normalize.{above-lowered}
use Rattle.workspace.specs.declared.Grid.{Grid}
use Rattle.workspace.specs.Entries.{NEXT, OUTPUT, FINAL, FRONT}
use Rattle.workspace.specs.Cells.{at, word, Kept, Entry, Spare, Put, Got}
use Rattle.workspace.specs.Holds.{Ready, standing}
use Rattle.workspace.proofs.Regions.{kept-none, kept_then, kept_wider}
use Rattle.workspace.proofs.Holds.{length_at}
use Rattle.normalize.specs.Fronts.{front_size, front_at, Fronted, Rests, Lowered, Lesser, Turn, Started}
use Rattle.normalize.proofs.Meets.{meet-short, meet-stops, meet-goes, prefix-take, take-prefix}
use Rattle.workspace.proofs.Views.{final_is, final-size, output_is, output-size, next_is, next_below, same-table, ready-kept}

module _ (g : Grid) (W : List ℕ) (base n : ℕ) (ok : Fronted g W base n) where
  front_long : (q : ℕ) → q < n → length (front_at g W base n q) ≡ front_size g W base q
  front_long q h = length-take-le (front_size g W base q) ((standing g W base n).final q) (ok.fronts q h)

  pub meeting_le : (q : ℕ) → q < n → (o : List ℕ) → length (meet (front_at g W base n q) o) ≤ front_size g W base q
  meeting_le q h o = omega (arith, begins_length (meet_left (front_at g W base n q) o), front_long q h)

  -- what the front of q and the step on a have in common, as the code finds it
  module _ (q a own long : ℕ) (h : q < n) (ha : a < g.tags) (is-own : own ≡ front_size g W base q) (is-long : long ≡ at g W (base + q) a OUTPUT) where
    pub front-short : (j : ℕ) → own ≤ long → j ≡ length (meet (drop 0 (word g W (base + q) g.tags FINAL)) (take own (word g W (base + q) a OUTPUT)))
        → j ≡ length (meet (front_at g W base n q) ((standing g W base n).output q a ++ front_at g W base n ((standing g W base n).next q a)))
    front-short j le e =
        let S = standing g W base n in
        e ∙ ap₂ (λ (u v : List ℕ). length (meet u (take own v))) (final_is g W base n ok.ready q h) (output_is g W base n ok.ready q a h ha)
        ∙ meet-short own (S.final q) (S.output q a) (front_at g W base n (S.next q a)) (omega (arith, output-size g W base n ok.ready q a h ha))
        ∙ ap (λ (f : ℕ). length (meet (take f (S.final q)) (S.output q a ++ front_at g W base n (S.next q a)))) is-own

    module _ (j : ℕ) (lt : long ≤ own) (e : j ≡ length (meet (drop 0 (word g W (base + q) g.tags FINAL)) (take long (word g W (base + q) a OUTPUT)))) where
      is-size : long ≡ length ((standing g W base n).output q a)
      is-size = is-long ∙ output-size g W base n ok.ready q a h ha

      in_words : j ≡ length (meet (drop 0 ((standing g W base n).final q)) (take (length ((standing g W base n).output q a)) ((standing g W base n).output q a)))
      in_words =
          e ∙ ap₂ (λ (u v : List ℕ). length (meet u (take long v))) (final_is g W base n ok.ready q h) (output_is g W base n ok.ready q a h ha)
          ∙ ap (λ (i : ℕ). length (meet ((standing g W base n).final q) (take i ((standing g W base n).output q a)))) is-size

      pub front-stops : j < long → j ≡ length (meet (front_at g W base n q) ((standing g W base n).output q a ++ front_at g W base n ((standing g W base n).next q a)))
      front-stops less =
          let S = standing g W base n in
          in_words
          ∙ meet-stops own (S.final q) (S.output q a) (front_at g W base n (S.next q a)) (omega (arith, is-size)) (omega (arith, is-size, in_words))
          ∙ ap (λ (f : ℕ). length (meet (take f (S.final q)) (S.output q a ++ front_at g W base n (S.next q a)))) is-own

      pub front_goes : (next other lower rest : ℕ) → long ≤ j → next ≡ at g W (base + q) a NEXT → other ≡ front_size g W base next → lower ≡ min (own - long) other
          → rest ≡ length (meet (drop long (word g W (base + q) g.tags FINAL)) (take lower (word g W (base + next) g.tags FINAL)))
          → long + rest ≡ length (meet (front_at g W base n q) ((standing g W base n).output q a ++ front_at g W base n ((standing g W base n).next q a)))
      front_goes next other lower rest le is-next is-other is-lower d =
          let S = standing g W base n in
          let to : next ≡ S.next q a = is-next ∙ next_is g W base n ok.ready q a h ha in
          let at_next : word g W (base + next) g.tags FINAL ≡ S.final (S.next q a) =
          ap (λ (i : ℕ). word g W (base + i) g.tags FINAL) to ∙ final_is g W base n ok.ready (S.next q a) (next_below g W base n ok.ready q a h ha) in
          let m = front_size g W base (S.next q a) in
          let is_m : other ≡ m = is-other ∙ ap (front_size g W base) to in
          let e1 : rest ≡ length (meet (drop (length (S.output q a)) (S.final q)) (take (min (own - length (S.output q a)) m) (S.final (S.next q a)))) =
          d ∙ ap₂ (λ (u v : List ℕ). length (meet (drop long u) (take lower v))) (final_is g W base n ok.ready q h) at_next
          ∙ ap₂ (λ (i l : ℕ). length (meet (drop i (S.final q)) (take l (S.final (S.next q a))))) is-size
          (is-lower ∙ ap₂ (λ (i l : ℕ). min (own - i) l) is-size is_m) in
          ap₂ (λ (i l : ℕ). i + l) is-size e1
          ∙ meet-goes own m (S.final q) (S.output q a) (S.final (S.next q a)) (omega (arith, is-size)) (omega (arith, is-size, in_words))
          ∙ ap (λ (f : ℕ). length (meet (take f (S.final q)) (S.output q a ++ front_at g W base n (S.next q a)))) is-own

  pub lowered_none : Lowered g W W base n
  lowered_none = record { kept = kept-none g (Spare g base (base + n) FRONT (FRONT + 1)) W; less = λ q h. omega arith; above = λ a. a }

  -- an empty front rests
  pub turn_empty : (q own : ℕ) → own ≡ front_size g W base q → own ≡ 0 → Turn g W W base n ((a : ℕ) → a < g.tags → Rests g W base n q a) false
  turn_empty q own is none =
      record {
        lowered = lowered_none;
        falls = λ e. let z : ◌≡◌ {A = ℕ} 0 1 = cc in absurd (omega arith);
        rests = λ e. (refl, λ a ha. subst (λ (i : ℕ). Prefix (take i ((standing g W base n).final q)) ((standing g W base n).output q a ++ front_at g W base n ((standing g W base n).next q a))) (sym none ∙ is) (begins_nil _));
      }

  -- one step of one state
  module _ (q a own j : ℕ) (h : q < n) (ha : a < g.tags) (is-own : own ≡ front_size g W base q)
      (is : j ≡ length (meet (front_at g W base n q) ((standing g W base n).output q a ++ front_at g W base n ((standing g W base n).next q a)))) where
    pub turn_rest : own ≤ j → Turn g W W base n (Rests g W base n q a) false
    turn_rest le =
        let S = standing g W base n in
        let o = S.output q a ++ front_at g W base n (S.next q a) in
        let f = front_at g W base n q in
        let whole : meet f o ≡ f = begins_whole (meet_left f o) (omega (arith, front_long q h)) in
        record {
          lowered = lowered_none;
          falls = λ e. let z : ◌≡◌ {A = ℕ} 0 1 = cc in absurd (omega arith);
          rests = λ e. (refl, rw whole at (meet_right f o));
        }

    pub turn_fall : (X : List ℕ) → j < own → Put g W X (base + q) g.tags FRONT j → Turn g W X base n (Rests g W base n q a) true
    turn_fall X lt p =
        record {
          lowered =
              record {
                kept = kept;
                less = λ i hi. low i (ℕ_discrete i q);
                above = λ up. subst (λ (t : Table). Above g.tags (shape t) (λ i. take (front_size g X base i) ((shape t).final i))) (sym (same-table g W base n ok.ready X 0 1 (omega arith) kept))
                    (above-lowered g.tags (standing g W base n) (front_at g W base n) (λ i. take (front_size g X base i) ((standing g W base n).final i)) up
                    ok.ready.sound.next_below (λ i hi. how i (ℕ_discrete i q)));
              };
          falls = λ e. record { state = q; below = h; less = omega (arith, p.here) };
          rests = λ e. let z : ◌≡◌ {A = ℕ} 0 1 = cc in absurd (omega arith);
        }
      where
        kept : Kept g W X (Spare g base (base + n) FRONT (FRONT + 1))
        kept =
            kept_wider g (Spare g base (base + n) FRONT (FRONT + 1)) (Entry (base + q) g.tags FRONT) W X p.kept
            (λ r c e i. (omega (arith, i.0), omega (arith, i.0), i.1, omega arith, omega (arith, i.2)))

        other : (i : ℕ) → (i ≡ q → ⊥) → front_size g X base i ≡ front_size g W base i
        other i ne = p.kept.same (base + i) g.tags FRONT (omega arith) (omega (arith, ok.ready.room)) (λ e. ne (omega (arith, e.0)))

        low : (i : ℕ) → Dec (i ≡ q) → front_size g X base i ≤ front_size g W base i
        low i (yes e) = rw e (omega (arith, p.here))
        low i (no ne) = omega (arith, other i ne)

        how : (i : ℕ) → Dec (i ≡ q)
            → (take (front_size g X base i) ((standing g W base n).final i) ≡ front_at g W base n i)
            ⊎ ((b : ℕ) × (b < g.tags) × (take (front_size g X base i) ((standing g W base n).final i)
            ≡ meet (front_at g W base n i) ((standing g W base n).output i b ++ front_at g W base n ((standing g W base n).next i b))))
        how i (no ne) = inl (ap (λ (f : ℕ). take f ((standing g W base n).final i)) (other i ne))
        how i (yes e) =
            let S = standing g W base n in
            let o = S.output q a ++ front_at g W base n (S.next q a) in
            let m = meet (front_at g W base n q) o in
            rw e
            (inr (
              a,
              ha,
              ap (λ (f : ℕ). take f (S.final q)) (p.here ∙ is)
                  ∙ prefix-take (begins_trans (meet_left (front_at g W base n q) o) (take-prefix (front_size g W base q) (S.final q))),
            ))

  -- lowered fronts are parts of the final words still
  pub fronted_lowered : (X : List ℕ) → Lowered g W X base n → Fronted g X base n
  fronted_lowered X l =
      record {
        ready = ready-kept g W base n ok.ready X 0 1 (omega arith) l.kept;
        fronts = λ q h. rw (same-table g W base n ok.ready X 0 1 (omega arith) l.kept) (omega (arith, l.less q h, ok.fronts q h));
      }

module _ (g : Grid) (base n : ℕ) where
  pub lowered_then : (W X Y : List ℕ) → Lowered g W X base n → Lowered g X Y base n → Lowered g W Y base n
  lowered_then W X Y a b =
      record {
        kept = kept_then g (Spare g base (base + n) FRONT (FRONT + 1)) W X Y a.kept b.kept;
        less = λ q h. omega (arith, a.less q h, b.less q h);
        above = λ up. b.above (a.above up);
      }

  pub turn_start : (W : List ℕ) (P : ℕ → Type 0) → Fronted g W base n → Turn g W W base n ((i : ℕ) → i < 0 → P i) false
  turn_start W P ok =
      record {
        lowered = lowered_none g W base n ok;
        falls = λ e. let z : ◌≡◌ {A = ℕ} 0 1 = cc in absurd (omega arith);
        rests = λ e. (refl, λ i h. absurd (omega arith));
      }

  pub turn_next : (W X Y : List ℕ) (P : ℕ → Type 0) (Q : Type 0) (i : ℕ) (a b : Bool) → Turn g W X base n ((j : ℕ) → j < i → P j) a
      → Turn g X Y base n Q b → (X ≡ W → Q → P i) → Turn g W Y base n ((j : ℕ) → j < i + 1 → P j) (a || b)
  turn_next W X Y P Q i a b s t on =
      record {
        lowered = lowered_then W X Y s.lowered t.lowered;
        falls = λ d. fall (or_cases a b d);
        rests = λ d.
            let down = or_parts a b d in
            let first = s.rests down.0 in
            let second = t.rests down.1 in
            (second.0 ∙ first.0, λ j h. all first.1 (on first.0 second.1) j (below_suc j i (omega arith)));
      }
    where
      fall : (a ≡ true) ⊎ (b ≡ true) → Lesser g W Y base n
      fall (inl d) = let l = s.falls d in record { state = l.state; below = l.below; less = omega (arith, l.less, t.lowered.less l.state l.below) }
      fall (inr d) = let l = t.falls d in record { state = l.state; below = l.below; less = omega (arith, l.less, s.lowered.less l.state l.below) }

      all : ((j : ℕ) → j < i → P j) → P i → (j : ℕ) → (j < i) ⊎ (j ≡ i) → P j
      all before here j (inl h) = before j h
      all before here j (inr d) = subst P (sym d) here

  -- the sum of the fronts' lengths
  abbrev pub weight : List ℕ → ℕ
  weight W = total (tabulate n 0 (front_size g W base))

  sizes : (W : List ℕ) (q : ℕ) → q < n → get_or (tabulate n 0 (front_size g W base)) q 0 ≡ front_size g W base q
  sizes W q h = at-tabulate n q (front_size g W base) 0 h

  pub weight_less : (W X : List ℕ) → Lowered g W X base n → Lesser g W X base n → weight X < weight W
  weight_less W X a l = go (ℕ_discrete (weight X) (weight W))
    where
      long : length (tabulate n 0 (front_size g X base)) ≡ length (tabulate n 0 (front_size g W base))
      long = length-tabulate n 0 (front_size g X base) ∙ sym (length-tabulate n 0 (front_size g W base))

      le : (i : ℕ) → i < length (tabulate n 0 (front_size g X base)) → get_or (tabulate n 0 (front_size g X base)) i 0 ≤ get_or (tabulate n 0 (front_size g W base)) i 0
      le i h = let b : i < n = omega (arith, length-tabulate n 0 (front_size g X base)) in omega (arith, sizes X i b, sizes W i b, a.less i b)

      go : Dec (weight X ≡ weight W) → weight X < weight W
      go (yes e) =
          absurd (omega (
            arith,
            total-same (tabulate n 0 (front_size g X base)) (tabulate n 0 (front_size g W base)) long le e l.state (omega (arith, l.below, length-tabulate n 0 (front_size g X base))),
            sizes X l.state l.below,
            sizes W l.state l.below,
            l.less,
          ))
      go (no ne) = omega (arith, ne, total_le (tabulate n 0 (front_size g X base)) (tabulate n 0 (front_size g W base)) long le)

-- the fronts that the work starts with: those of the states below q are set
pub record Starting (g : Grid) (W X : List ℕ) (base n q : ℕ) : Type 0 where
  pub kept : Kept g W X (Spare g base (base + n) FRONT (FRONT + 1))
  pub whole : (i : ℕ) → i < q → front_size g X base i ≡ length ((standing g W base n).final i)

module _ (g : Grid) (W : List ℕ) (base n : ℕ) (ok : Ready g W base n) where
  pub starting_none : Starting g W W base n 0
  starting_none = record { kept = kept-none g (Spare g base (base + n) FRONT (FRONT + 1)) W; whole = λ i h. absurd (omega arith) }

  pub starting_next : (X Y : List ℕ) (q long : ℕ) → q < n → Starting g W X base n q → Got g X (base + q) g.tags FINAL long
      → Put g X Y (base + q) g.tags FRONT long → Starting g W Y base n (q + 1)
  starting_next X Y q long h s got p =
      record {
        kept =
            kept_then g (Spare g base (base + n) FRONT (FRONT + 1)) W X Y s.kept
            (kept_wider g (Spare g base (base + n) FRONT (FRONT + 1)) (Entry (base + q) g.tags FRONT) X Y p.kept
            (λ r c e i. (omega (arith, i.0), omega (arith, i.0), i.1, omega arith, omega (arith, i.2))));
        whole = λ i hi. go i (below_suc i q (omega arith));
      }
    where
      go : (i : ℕ) → (i < q) ⊎ (i ≡ q) → front_size g Y base i ≡ length ((standing g W base n).final i)
      go i (inl hi) = p.kept.same (base + i) g.tags FRONT (omega arith) (omega (arith, ok.room)) (λ e. omega (arith, e.0)) ∙ s.whole i hi
      go i (inr e) =
          rw e
          (p.here ∙ got.is
          ∙ s.kept.same (base + q) g.tags FINAL (omega arith) (omega (arith, ok.room)) (λ i. omega (arith, i.4))
          ∙ final-size g W base n ok q h)

  pub fronted_start : (X : List ℕ) → Started g W X base n → Fronted g X base n
  fronted_start X s =
      record {
        ready = ready-kept g W base n ok X 0 1 (omega arith) s.kept;
        fronts = λ q h. rw (same-table g W base n ok X 0 1 (omega arith) s.kept) (omega (arith, s.whole q h));
      }

  pub above-start : (X : List ℕ) → Started g W X base n → Above g.tags (standing g X base n) (front_at g X base n)
  above-start X s =
      subst (λ (t : Table). Above g.tags (shape t) (λ q. take (front_size g X base q) ((shape t).final q))) (sym (same-table g W base n ok X 0 1 (omega arith) s.kept))
      (λ q h z all. rw (s.whole q (omega (arith, length_at g W base n)), take-length ((standing g W base n).final q)) (all [] tt))
