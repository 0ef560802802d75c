-- States are seated one by one, and are parted then.
use Prim.Native.Nat.{ℕ, zero, suc, ◌+◌, ◌-◌, ◌*◌, ◌%◌, ◌≤◌, ◌<◌}
use native.Mathlib.Omega.{arith}
use native.Mathlib.Nat.{mod-lt}
use native.Mathlib.Numerals.{add-one}
use native.Mathlib.Decide.{ℕ_discrete}
use mathlib.Core.Path.{◌≡◌, refl, sym, ap, ap₂, ◌∙◌}
use mathlib.Core.Logic.{◌⊎◌, inl, inr}
use mathlib.Core.List.{List}
use lib.ListN.{length}
use Rattle.words.proofs.Word.{below_suc}
use Rattle.transducers.specs.Canonical.{Early}
use Rattle.transducers.proofs.Merge.{coarse_refined}
use Rattle.workspace.specs.declared.Grid.{Grid}
use Rattle.workspace.specs.Entries.{OUTPUT, FINAL, CLASS, HEAD}
use Rattle.workspace.specs.Cells.{at, Kept, Spare, Put, Got, Cleared}
use Rattle.workspace.specs.Holds.{Ready, table_at, standing}
use Rattle.workspace.proofs.Regions.{kept_then, kept_wider, spare_put}
use Rattle.workspace.proofs.Holds.{length_at}
use Rattle.workspace.proofs.Views.{in_table, final-size, output-size, same-table, ready-kept}
use Rattle.merge.specs.Classes.{class_of, Partition}
use Rattle.merge.specs.Seats.{head_of, mixed, digest, bucket, Seating, Seated}

pub mixed-next : (f : ℕ → ℕ) (h a : ℕ) → (mixed f h a * 31 + f a) % 0x10000 ≡ mixed f h (a + 1)
mixed-next f h a = ap (mixed f h) (sym (add-one a))

mixed-same : (f f' : ℕ → ℕ) (h h' n : ℕ) → h ≡ h' → ((a : ℕ) → a < n → f a ≡ f' a) → mixed f h n ≡ mixed f' h' n
mixed-same f f' h h' zero e same = e
mixed-same f f' h h' (suc n) e same =
    ap₂ (λ (x y : ℕ). (x * 31 + y) % 0x10000) (mixed-same f f' h h' n e (λ a ha. same a (omega arith))) (same n (omega arith))

module _ (g : Grid) (base n : ℕ) where
  -- notes leave the digests
  digest-kept : (W X : List ℕ) → 8 ≤ g.depth → Kept g W X (Spare g base (base + n) CLASS (HEAD + 1)) → (q : ℕ) → digest g X base q ≡ digest g W base q
  digest-kept W X deep kept q =
      mixed-same (λ a. at g X (base + q) a OUTPUT) (λ a. at g W (base + q) a OUTPUT) (at g X (base + q) g.tags FINAL) (at g W (base + q) g.tags FINAL) g.tags
      (kept.same (base + q) g.tags FINAL (omega arith) (omega arith) (λ i. omega (arith, i.4)))
      (λ a ha. kept.same (base + q) a OUTPUT (omega arith) (omega arith) (λ i. omega (arith, i.2)))

  pub seating-start : (W X : List ℕ) → Ready g W base n → Cleared g W X base n HEAD n → Seated g W X base n 0
  seating-start W X ok c =
      let kept = kept_wider g (Spare g base (base + n) CLASS (HEAD + 1)) (Spare g base (base + n) HEAD (HEAD + 1)) W X c.kept (λ r c' e i. (i.0, i.1, i.2, omega (arith, i.3), i.4)) in
      record {
        kept = kept;
        seating =
            record {
              ready = ready-kept g W base n ok X 1 3 (omega arith) kept;
              low = λ q h. absurd (omega arith);
              heads = λ b h some. absurd (some (c.zero b h));
              seats = λ q h. absurd (omega arith);
            };
      }

  module _ (W : List ℕ) (i : ℕ) (s : Seating g W base n i) (h : i < n) where
    deep : 8 ≤ g.depth
    deep = omega (arith, s.ready.room)

    pub bucket-below : (q : ℕ) → bucket g W base n q < n
    bucket-below q = mod-lt (digest g W base q) (omega arith)

    module _ (b head : ℕ) (is : b ≡ bucket g W base n i) (got : Got g W (base + b) g.tags HEAD head) where
      -- its bucket has a first state
      module _ (some : head ≡ 0 → ⊥) where
        there : (head_of g W base b - 1 < i) × (class_of g W base (head_of g W base b - 1) ≡ head_of g W base b - 1)
        there = s.heads b (omega (arith, is, bucket-below i)) (λ e. some (got.is ∙ e))

        pub seat_old : (X : List ℕ) → Put g W X (base + i) g.tags CLASS (head - 1) → Seated g W X base n (i + 1)
        seat_old X p =
            record {
              kept = kept;
              seating =
                  record {
                    ready = ready-kept g W base n s.ready X 1 3 (omega arith) kept;
                    low = λ q hq. low q (below_suc q i (omega arith));
                    heads = λ c hc nz. heads c hc (λ e. nz (news c ∙ e));
                    seats = λ q hq. seats q (below_suc q i (omega arith));
                  };
            }
          where
            kept : Kept g W X (Spare g base (base + n) CLASS (HEAD + 1))
            kept = spare_put g base n 1 3 W X i 1 (head - 1) h (omega arith) (omega arith) p

            news : (c : ℕ) → head_of g X base c ≡ head_of g W base c
            news c = p.kept.same (base + c) g.tags HEAD (omega arith) (omega (arith, deep)) (λ j. omega (arith, j.2))

            class-other : (q : ℕ) → q < i → class_of g X base q ≡ class_of g W base q
            class-other q l = p.kept.same (base + q) g.tags CLASS (omega arith) (omega (arith, deep)) (λ j. omega (arith, j.0))

            buckets : (q : ℕ) → bucket g X base n q ≡ bucket g W base n q
            buckets q = ap (λ (d : ℕ). d % n) (digest-kept W X deep kept q)

            low : (q : ℕ) → (q < i) ⊎ (q ≡ i) → class_of g X base q ≤ q
            low q (inl l) = omega (arith, class-other q l, s.low q l)
            low q (inr e) = omega (arith, e, ap (class_of g X base) e, p.here, got.is, there.0)

            heads : (c : ℕ) → c < n → (head_of g W base c ≡ 0 → ⊥) → (head_of g X base c - 1 < i + 1) × (class_of g X base (head_of g X base c - 1) ≡ head_of g X base c - 1)
            heads c hc nz =
                let o = s.heads c hc nz in
                (omega (arith, news c, o.0), ap (λ (j : ℕ). class_of g X base (j - 1)) (news c) ∙ class-other (head_of g W base c - 1) o.0 ∙ o.1 ∙ ap (λ (j : ℕ). j - 1) (sym (news c)))

            seat_of : (q c : ℕ) → bucket g X base n q ≡ c → (head_of g W base c ≡ 0 → ⊥) → class_of g X base q ≡ head_of g W base c - 1
                → (head_of g X base (bucket g X base n q) ≡ 0 → ⊥) × (class_of g X base q ≡ head_of g X base (bucket g X base n q) - 1)
            seat_of q c e nz cl =
                let m : head_of g X base (bucket g X base n q) ≡ head_of g W base c = ap (head_of g X base) e ∙ news c in
                (λ z. nz (sym m ∙ z), cl ∙ ap (λ (j : ℕ). j - 1) (sym m))

            seats : (q : ℕ) → (q < i) ⊎ (q ≡ i) → (head_of g X base (bucket g X base n q) ≡ 0 → ⊥) × (class_of g X base q ≡ head_of g X base (bucket g X base n q) - 1)
            seats q (inl l) = let o = s.seats q l in seat_of q (bucket g W base n q) (buckets q) o.0 (class-other q l ∙ o.1)
            seats q (inr e) =
                rw e (seat_of i b (buckets i ∙ sym is) (λ z. some (got.is ∙ z)) (p.here ∙ ap (λ (j : ℕ). j - 1) got.is))

      -- it is the first of its bucket
      module _ (none : head ≡ 0) where
        pub seat_new : (X Y : List ℕ) → Put g W X (base + b) g.tags HEAD (i + 1) → Put g X Y (base + i) g.tags CLASS i → Seated g W Y base n (i + 1)
        seat_new X Y p1 p2 =
            record {
              kept = kept;
              seating =
                  record {
                    ready = ready-kept g W base n s.ready Y 1 3 (omega arith) kept;
                    low = λ q hq. low q (below_suc q i (omega arith));
                    heads = λ c hc nz. heads c hc nz (ℕ_discrete c b);
                    seats = λ q hq. seats q (below_suc q i (omega arith));
                  };
            }
          where
            kept : Kept g W Y (Spare g base (base + n) CLASS (HEAD + 1))
            kept =
                kept_then g (Spare g base (base + n) CLASS (HEAD + 1)) W X Y
                (spare_put g base n 1 3 W X b 2 (i + 1) (omega (arith, is, bucket-below i)) (omega arith) (omega arith) p1) (spare_put g base n 1 3 X Y i 1 i h (omega arith) (omega arith) p2)

            new-here : head_of g Y base b ≡ i + 1
            new-here = p2.kept.same (base + b) g.tags HEAD (omega arith) (omega (arith, deep)) (λ j. omega (arith, j.2)) ∙ p1.here

            new-other : (c : ℕ) → (c ≡ b → ⊥) → head_of g Y base c ≡ head_of g W base c
            new-other c d =
                p2.kept.same (base + c) g.tags HEAD (omega arith) (omega (arith, deep)) (λ j. omega (arith, j.2))
                ∙ p1.kept.same (base + c) g.tags HEAD (omega arith) (omega (arith, deep)) (λ j. d (omega (arith, j.0)))

            class-other : (q : ℕ) → q < i → class_of g Y base q ≡ class_of g W base q
            class-other q l =
                p2.kept.same (base + q) g.tags CLASS (omega arith) (omega (arith, deep)) (λ j. omega (arith, j.0))
                ∙ p1.kept.same (base + q) g.tags CLASS (omega arith) (omega (arith, deep)) (λ j. omega (arith, j.2))

            buckets : (q : ℕ) → bucket g Y base n q ≡ bucket g W base n q
            buckets q = ap (λ (d : ℕ). d % n) (digest-kept W Y deep kept q)

            low : (q : ℕ) → (q < i) ⊎ (q ≡ i) → class_of g Y base q ≤ q
            low q (inl l) = omega (arith, class-other q l, s.low q l)
            low q (inr e) = omega (arith, e, ap (class_of g Y base) e, p2.here)

            heads : (c : ℕ) → c < n → (head_of g Y base c ≡ 0 → ⊥) → Dec (c ≡ b) → (head_of g Y base c - 1 < i + 1) × (class_of g Y base (head_of g Y base c - 1) ≡ head_of g Y base c - 1)
            heads c hc nz (yes e) =
                let m : head_of g Y base c - 1 ≡ i = omega (arith, ap (head_of g Y base) e, new-here) in
                (omega (arith, m), ap (class_of g Y base) m ∙ p2.here ∙ sym m)
            heads c hc nz (no d) =
                let m = new-other c d in
                let o = s.heads c hc (λ z. nz (m ∙ z)) in
                (omega (arith, m, o.0), ap (λ (j : ℕ). class_of g Y base (j - 1)) m ∙ class-other (head_of g W base c - 1) o.0 ∙ o.1 ∙ ap (λ (j : ℕ). j - 1) (sym m))

            seats : (q : ℕ) → (q < i) ⊎ (q ≡ i) → (head_of g Y base (bucket g Y base n q) ≡ 0 → ⊥) × (class_of g Y base q ≡ head_of g Y base (bucket g Y base n q) - 1)
            seats q (inl l) =
                let o = s.seats q l in
                let apart : bucket g W base n q ≡ b → ⊥ = λ e. o.0 (ap (head_of g W base) e ∙ sym got.is ∙ none) in
                let m : head_of g Y base (bucket g Y base n q) ≡ head_of g W base (bucket g W base n q) = ap (head_of g Y base) (buckets q) ∙ new-other (bucket g W base n q) apart in
                (λ z. o.0 (sym m ∙ z), class-other q l ∙ o.1 ∙ ap (λ (j : ℕ). j - 1) (sym m))
            seats q (inr e) =
                let m : head_of g Y base (bucket g Y base n i) ≡ i + 1 = ap (head_of g Y base) (buckets i ∙ sym is) ∙ new-here in
                rw e (λ z. omega (arith, m, z), omega (arith, p2.here, m))

  -- states that put out the same are seated together
  pub part_seated : (W X : List ℕ) → Ready g W base n → Early g.tags (standing g W base n) → Seated g W X base n n → Partition g X base n
  part_seated W X ok early t =
      record {
        ready = s.ready;
        early = rw (same-table g W base n ok X 1 3 (omega arith) t.kept) early;
        low = s.low;
        own = λ q h.
            let o = s.seats q h in
            let e = s.heads (bucket g X base n q) (mod-lt (digest g X base q) (omega arith)) o.0 in
            ap (class_of g X base) o.1 ∙ e.1 ∙ sym o.1;
        coarse = λ p q hp hq e.
            coarse_refined g.tags (standing g X base n) s.ready.sound.next_below (rw (same-table g W base n ok X 1 3 (omega arith) t.kept) early) (λ x. 0) (class_of g X base)
            (λ x y hx hy d. refl) (λ x y hx hy c f o. together x y (down x hx) (down y hy) f (λ a ha. (o a ha).0)) p q (in_table g X base n s.ready p hp) (in_table g X base n s.ready q hq) e;
      }
    where
      s : Seating g X base n n
      s = t.seating

      down : (x : ℕ) → x < length (table_at g X base n) → x < n
      down x h = omega (arith, length_at g X base n)

      together : (p q : ℕ) → p < n → q < n → (standing g X base n).final p ≡ (standing g X base n).final q
          → ((a : ℕ) → a < g.tags → (standing g X base n).output p a ≡ (standing g X base n).output q a) → class_of g X base p ≡ class_of g X base q
      together p q hp hq f o =
          let d : digest g X base p ≡ digest g X base q =
          mixed-same (λ a. at g X (base + p) a OUTPUT) (λ a. at g X (base + q) a OUTPUT) (at g X (base + p) g.tags FINAL) (at g X (base + q) g.tags FINAL) g.tags
          (final-size g X base n s.ready p hp ∙ ap length f ∙ sym (final-size g X base n s.ready q hq))
          (λ a ha. output-size g X base n s.ready p a hp ha ∙ ap length (o a ha) ∙ sym (output-size g X base n s.ready q a hq ha)) in
          (s.seats p hp).1 ∙ ap (λ (x : ℕ). head_of g X base (x % n) - 1) d ∙ sym (s.seats q hq).1
