-- Rounds: the classes are split by keys until nothing changes, and are those of the definition then.
use Prim.Native.Nat.{ℕ, ◌+◌, ◌-◌, ◌≤◌, ◌<◌}
use native.Mathlib.Omega.{arith}
use mathlib.Core.Path.{◌≡◌, refl, sym, ap, ◌∙◌, subst}
use mathlib.Core.Logic.{◌⊎◌, inl, inr}
use mathlib.Core.Bool.{Bool, true, false}
use mathlib.Core.List.{List}
use lib.ListN.{length}
use Rattle.words.proofs.Word.{below_suc}
use Rattle.transducers.specs.Transducer.{puts}
use Rattle.transducers.specs.Table.{Table}
use Rattle.transducers.specs.Canonical.{Same}
use Rattle.transducers.specs.Rounds.{total}
use Rattle.transducers.specs.Tabulate.{tabulate}
use Rattle.transducers.specs.Merge.{Classes, class, classes}
use Rattle.transducers.proofs.Merge.{coarse_refined, classes-any}
use Rattle.workspace.specs.declared.Grid.{Grid}
use Rattle.workspace.specs.Entries.{CLASS, NEW, LINK}
use Rattle.workspace.specs.Cells.{Kept, Spare, Put, Got}
use Rattle.workspace.specs.Holds.{Ready, table_at, standing}
use Rattle.workspace.proofs.Regions.{kept-none, kept_then, kept_wider, spare_put}
use Rattle.workspace.proofs.Holds.{length_at}
use Rattle.workspace.proofs.Views.{in_table, next_below, same-table, ready-kept}
use Rattle.workspace.proofs.Falls.{total_falls}
use Rattle.merge.specs.Classes.{class_of, new_of, Words, Nexts, Key, Partition, Parted, Placed, Taken, Round, Merged}
use Rattle.merge.proofs.Keys.{words_sym, words_trans, key_sym, key_trans, class_same, key_back}

-- ---- the new classes are taken over

-- something had changed, or two names differ
pub record Differs (changed : Bool) (c d : ℕ) (r : Bool) : Type 0 where
  pub up : r ≡ true → (changed ≡ true) ⊎ (c ≡ d → ⊥)
  pub down : r ≡ false → (changed ≡ false) × (c ≡ d)

module _ (g : Grid) (W : List ℕ) (base n : ℕ) (ok : Ready g W base n) where
  deep : 8 ≤ g.depth
  deep = omega (arith, ok.room)

  pub taken_start : Taken g W W base n 0 false
  taken_start =
      record {
        kept = kept-none g (Spare g base (base + n) CLASS (CLASS + 1)) W;
        taken = λ q h. absurd (omega arith);
        still = λ q h. refl;
        moved = λ e. let z : ◌≡◌ {A = ℕ} 0 1 = cc in absurd (omega arith);
        rests = λ e q h. absurd (omega arith);
      }

  elsewhere : (X Y : List ℕ) (q v o : ℕ) → Put g X Y (base + q) g.tags CLASS v → (o ≡ q → ⊥) → class_of g Y base o ≡ class_of g X base o
  elsewhere X Y q v o p ne = p.kept.same (base + o) g.tags CLASS (omega arith) (omega (arith, deep)) (λ i. ne (omega (arith, i.0)))

  pub taken_next : (X Y : List ℕ) (q c d : ℕ) (old r : Bool) → q < n → Taken g W X base n q old → Got g X (base + q) g.tags CLASS c
      → Got g X (base + q) g.tags NEW d → Put g X Y (base + q) g.tags CLASS d → Differs old d c r → Taken g W Y base n (q + 1) r
  taken_next X Y q c d old r h t got-c got-d p diff =
      record {
        kept = kept_then g (Spare g base (base + n) CLASS (CLASS + 1)) W X Y t.kept (spare_put g base n 1 2 X Y q 1 d h (omega arith) (omega arith) p);
        taken = λ o ho. go o (below_suc o q (omega arith));
        still = λ o ho. elsewhere X Y q d o p (λ e. omega arith) ∙ t.still o (omega arith);
        moved = λ e. move (diff.up e);
        rests = λ e o ho. rest (diff.down e) o (below_suc o q (omega arith));
      }
    where
      is_d : d ≡ new_of g W base q
      is_d = got-d.is ∙ t.kept.same (base + q) g.tags NEW (omega arith) (omega (arith, deep)) (λ i. omega (arith, i.4))

      is_c : c ≡ class_of g W base q
      is_c = got-c.is ∙ t.still q (omega arith)

      go : (o : ℕ) → (o < q) ⊎ (o ≡ q) → class_of g Y base o ≡ new_of g W base o
      go o (inl lt) = elsewhere X Y q d o p (λ e. omega arith) ∙ t.taken o lt
      go o (inr e) = rw e (p.here ∙ is_d)

      move : (old ≡ true) ⊎ (d ≡ c → ⊥) → (o : ℕ) × (o < q + 1) × (new_of g W base o ≡ class_of g W base o → ⊥)
      move (inl e) = let m = t.moved e in (m.0, omega (arith, m.1), m.2)
      move (inr ne) = (q, omega arith, λ e. ne (is_d ∙ e ∙ sym is_c))

      rest : (old ≡ false) × (d ≡ c) → (o : ℕ) → (o < q) ⊎ (o ≡ q) → new_of g W base o ≡ class_of g W base o
      rest down o (inl lt) = t.rests down.0 o lt
      rest down o (inr e) = rw e (sym is_d ∙ down.1 ∙ is_c)

-- ---- a round

module _ (g : Grid) (W : List ℕ) (base n : ℕ) (first : Bool) (s : Partition g W base n) (X : List ℕ) (placed : Placed g W X base n first n) (Y : List ℕ) (changed : Bool)
    (taken : Taken g X Y base n n changed) where
  x : Parted g X base n first n
  x = placed.parted

  x_ready : Ready g X base n
  x_ready = placed.parted.part.ready

  same : table_at g Y base n ≡ table_at g X base n
  same = same-table g X base n x_ready Y 1 2 (omega arith) taken.kept

  x_class : (q : ℕ) → class_of g X base q ≡ class_of g W base q
  x_class = class_same g W base n s.ready X 2 4 (omega arith) (omega arith) placed.kept

  new : ℕ → ℕ
  new q = new_of g X base q

  new-below : (q : ℕ) → q < n → new_of g X base q < n
  new-below q h = omega (arith, placed.parted.low q h)

  -- states that are alike have one name
  joined : (p q : ℕ) → p < n → q < n → class_of g X base p ≡ class_of g X base q → Key g X base n first p q → new_of g X base p ≡ new_of g X base q
  joined p q hp hq e k =
      let t = placed.parted in
      t.apart (new_of g X base p) (new_of g X base q) (new-below p hp) (new-below q hq) (t.name p hp) (t.name q hq)
      (t.same p hp ∙ e ∙ sym (t.same q hq))
      (key_trans g X base n first (new_of g X base p) q (new_of g X base q)
      (key_trans g X base n first (new_of g X base p) p q (t.alike p hp) k) (key_sym g X base n first (new_of g X base q) q (t.alike q hq)))

  key_of : (b : Bool) (p q : ℕ) → (standing g X base n).final p ≡ (standing g X base n).final q
      → ((a : ℕ) → a < g.tags
      → ((standing g X base n).output p a ≡ (standing g X base n).output q a)
      × (class_of g X base ((standing g X base n).next p a) ≡ class_of g X base ((standing g X base n).next q a)))
      → Key g X base n b p q
  key_of true p q f o = (f, λ a ha. (o a ha).0)
  key_of false p q f o = λ a ha. (o a ha).1

  coarse : (p q : ℕ) → p < n → q < n → Same g.tags (puts (standing g X base n) p) (puts (standing g X base n) q) → new_of g X base p ≡ new_of g X base q
  coarse p q hp hq e =
      coarse_refined g.tags (standing g X base n) x_ready.sound.next_below placed.parted.part.early (class_of g X base) (new_of g X base)
      (λ i j hi hj d. placed.parted.part.coarse i j (down i hi) (down j hj) d)
      (λ i j hi hj c f o. joined i j (down i hi) (down j hj) c (key_of first i j f o)) p q (in_table g X base n x_ready p hp) (in_table g X base n x_ready q hq) e
    where
      down : (i : ℕ) → i < length (table_at g X base n) → i < n
      down i h = omega (arith, length_at g X base n)

  pub round_done : Round g W Y base n first changed
  round_done =
      record {
        kept =
            kept_then g (Spare g base (base + n) CLASS (LINK + 1)) W X Y
            (kept_wider g (Spare g base (base + n) CLASS (LINK + 1)) (Spare g base (base + n) NEW (LINK + 1)) W X placed.kept (λ r c e i. (i.0, i.1, i.2, omega (arith, i.3), i.4)))
            (kept_wider g (Spare g base (base + n) CLASS (LINK + 1)) (Spare g base (base + n) CLASS (CLASS + 1)) X Y taken.kept (λ r c e i. (i.0, i.1, i.2, i.3, omega (arith, i.4))));
        part =
            record {
              ready = ready-kept g X base n x_ready Y 1 2 (omega arith) taken.kept;
              early = rw same placed.parted.part.early;
              low = λ q h. omega (arith, taken.taken q h, placed.parted.low q h);
              own = λ q h.
                  ap (class_of g Y base) (taken.taken q h) ∙ taken.taken (new_of g X base q) (new-below q h) ∙ placed.parted.name q h ∙ sym (taken.taken q h);
              coarse = rw same (λ p q hp hq e. taken.taken p hp ∙ coarse p q hp hq e ∙ sym (taken.taken q hq));
            };
        grows = λ q h. omega (arith, taken.taken q h, x_class q, placed.parted.same q h, placed.parted.part.low (new_of g X base q) (new-below q h));
        within = λ q h.
            ap (class_of g W base) (taken.taken q h) ∙ sym (x_class (new_of g X base q)) ∙ placed.parted.same q h ∙ x_class q;
        alike = λ q h.
            subst (λ (i : ℕ). Key g W base n first i q) (sym (taken.taken q h))
            (key_back g W base n s.ready X 2 4 (omega arith) (omega arith) placed.kept first (new_of g X base q) q (placed.parted.alike q h));
        moved = λ e. let m = taken.moved e in (m.0, m.1, λ d. m.2 (sym (taken.taken m.0 m.1) ∙ d ∙ sym (x_class m.0)));
        rests = λ e q h. taken.taken q h ∙ taken.rests e q h ∙ x_class q;
      }

-- ---- until nothing changes

-- words are equal within a class
abbrev pub Worded : Grid → List ℕ → ℕ → ℕ → Type 0
Worded g W base n = (q : ℕ) → q < n → Words g W base n (class_of g W base q) q

abbrev pub Still : Grid → List ℕ → ℕ → ℕ → Type 0
Still g W base n = (q : ℕ) → q < n → Nexts g W base n (class_of g W base q) q

abbrev pub weight : Grid → List ℕ → ℕ → ℕ → ℕ
weight g W base n = total (tabulate n 0 (λ q. n - class_of g W base q))

module _ (g : Grid) (W X : List ℕ) (base n : ℕ) (s : Partition g W base n) where
  round_table : (first changed : Bool) → Round g W X base n first changed → table_at g X base n ≡ table_at g W base n
  round_table first changed r = same-table g W base n s.ready X 1 4 (omega arith) r.kept

  pub worded_first : (changed : Bool) → Round g W X base n true changed → Worded g X base n
  worded_first changed r = rw (round_table true changed r) r.alike

  pub worded_next : (changed : Bool) → Worded g W base n → Round g W X base n false changed → Worded g X base n
  worded_next changed w r =
      rw (round_table false changed r)
      (λ q h.
      let p = class_of g X base q in
      let hp : class_of g X base q < n = omega (arith, r.part.low q h) in
      words_trans g W base n p (class_of g W base q) q
      (words_sym g W base n (class_of g W base q) p (subst (λ (i : ℕ). Words g W base n i p) (r.within q h) (w p hp))) (w q h))

  pub still-next : (changed : Bool) → Round g W X base n false changed → changed ≡ false → Still g X base n
  still-next changed r e =
      rw (round_table false changed r)
      (λ q h a ha.
      let p = class_of g X base q in
      let hp : class_of g X base q < n = omega (arith, r.part.low q h) in
      r.rests e ((standing g W base n).next p a) (next_below g W base n s.ready p a hp ha)
      ∙ r.alike q h a ha
      ∙ sym (r.rests e ((standing g W base n).next q a) (next_below g W base n s.ready q a h ha)))

  pub round_falls : (first changed : Bool) → Round g W X base n first changed → changed ≡ true → weight g X base n < weight g W base n
  round_falls first changed r e =
      let m = r.moved e in
      total_falls n (λ q. n - class_of g X base q) (λ q. n - class_of g W base q) (λ i h. omega (arith, r.grows i h)) m.0 m.1
      (omega (arith, r.grows m.0 m.1, m.2, r.part.low m.0 m.1, m.1))

-- classes that rest are those of the definition
pub merged_done : (g : Grid) (W X : List ℕ) (base n : ℕ) → Ready g W base n → Kept g W X (Spare g base (base + n) CLASS (LINK + 1)) → Partition g X base n → Worded g X base n
    → Still g X base n → Merged g W X base n
merged_done g W X base n ok kept s w still =
    record {
      kept = kept;
      named = λ q h.
          classes-any g.tags (table_at g X base n) s.ready.holds.rows s.ready.sound s.early (class_of g X base) are q (in_table g X base n s.ready q h)
          ∙ ap (λ (t : Table). class (classes t) q) (same-table g W base n ok X 1 4 (omega arith) kept);
    }
  where
    down : (q : ℕ) → q < length (table_at g X base n) → q < n
    down q h = omega (arith, length_at g X base n)

    are : Classes g.tags (standing g X base n) (class_of g X base)
    are =
        record {
          low = λ q h. s.low q (down q h);
          finals = λ q h. (w q (down q h)).0;
          outputs = λ q a h ha. (w q (down q h)).1 a ha;
          nexts = λ q a h ha. still q (down q h) a ha;
          coarsest = λ p q hp hq e. s.coarse p q (down p hp) (down q hq) e;
        }
