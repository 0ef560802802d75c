-- The names of the new classes within an old one, linked in order.
use Rattle.std.proofs.Common.{Ok}
use Prim.Native.Nat.{ℕ, suc, ◌+◌, ◌≤◌, ◌<◌}
use native.Mathlib.Omega.{arith}
use native.Mathlib.Decide.{ℕ_discrete, dec_lt}
use mathlib.Core.Path.{◌≡◌, sym, ap, ◌∙◌, subst}
use mathlib.Core.Logic.{◌⊎◌, inl, inr}
use mathlib.Core.Bool.{Bool}
use mathlib.Core.List.{List}
use Rattle.words.proofs.Word.{below_suc}
use Rattle.workspace.specs.declared.Grid.{Grid}
use Rattle.workspace.specs.Entries.{NEW, LINK}
use Rattle.workspace.specs.Cells.{at, Kept, Entry, Spare, Put}
use Rattle.workspace.specs.Holds.{Ready}
use Rattle.workspace.proofs.Regions.{kept-none, kept_then, kept_wider}
use Rattle.workspace.proofs.Views.{ready-kept}
use Rattle.merge.specs.Classes.{class_of, new_of, link_of, Key, Partition, Name, Gap, Follows, Naming, Last, Parted, Found, Placed, NewName}
use Rattle.merge.proofs.Keys.{key_refl, key_sym, class_same, key_on, key_back, part_on}

-- ---- the walk over the names of a class

pub record Walking (g : Grid) (W : List ℕ) (base n : ℕ) (first : Bool) (q p : ℕ) : Type 0 where
  pub below : p < q
  pub name : Name g W base p
  pub same : class_of g W base p ≡ class_of g W base q
  pub passed : (o : ℕ) → o < p → Name g W base o → class_of g W base o ≡ class_of g W base q → Key g W base n first o q → ⊥

module _ (g : Grid) (W : List ℕ) (base n : ℕ) (first : Bool) (q : ℕ) (hq : q < n) (s : Parted g W base n first q) where
  -- a class is named by its least member
  least : (o : ℕ) → o < q → class_of g W base o ≤ o
  least o h = s.part.low o (omega arith)

  pub walk_start : (c : ℕ) → c < q → c ≡ class_of g W base q → Walking g W base n first q c
  walk_start c h is =
      let own : class_of g W base c ≡ c = ap (class_of g W base) is ∙ s.part.own q hq ∙ sym is in
      record {
        below = h;
        name = omega (arith, s.low c h, s.same c h, own, s.part.low (new_of g W base c) (omega (arith, s.low c h)));
        same = own ∙ is;
        passed = λ o lt nm e k. omega (arith, e, is, least o (omega arith));
      }

  module _ (p : ℕ) (w : Walking g W base n first q p) (other : Key g W base n first p q → ⊥) where
    -- the names up to p
    upto : (o : ℕ) → o < suc p → Name g W base o → class_of g W base o ≡ class_of g W base q → Key g W base n first o q → ⊥
    upto o h nm e k = go (below_suc o p h)
      where
        go : (o < p) ⊎ (o ≡ p) → ⊥
        go (inl lt) = w.passed o lt nm e k
        go (inr d) = other (subst (λ (i : ℕ). Key g W base n first i q) d k)

    pub walk_end : link_of g W base p ≡ 0 → Last g W base n first q p
    walk_end none =
        record {
          naming = record { below = w.below; name = w.name; same = w.same };
          last = none;
          none = λ o h nm d k. by o h nm d k (s.links p w.below w.name) (dec_lt p o);
        }
      where
        by : (o : ℕ) → o < q → Name g W base o → class_of g W base o ≡ class_of g W base q → Key g W base n first o q
            → ((link_of g W base p ≡ 0) × Gap g W base p q) ⊎ Follows g W base p q → Dec (p < o) → ⊥
        by o h nm d k (inl l) (yes lt) = l.1 o lt h nm (d ∙ sym w.same)
        by o h nm d k (inr f) (yes lt) = omega (arith, f.above, none)
        by o h nm d k l (no le) = upto o (omega arith) nm d k

    pub walk-next : (next : ℕ) → next ≡ link_of g W base p → (next ≡ 0 → ⊥) → Walking g W base n first q next × (p < next)
    walk-next next is some = by (s.links p w.below w.name)
      where
        by : ((link_of g W base p ≡ 0) × Gap g W base p q) ⊎ Follows g W base p q → Walking g W base n first q next × (p < next)
        by (inl l) = absurd (some (is ∙ l.0))
        by (inr f) = (
          rw is
              (record {
                below = f.below;
                name = f.name;
                same = f.same ∙ w.same;
                passed = λ o lt nm e k. pass o lt nm e k (dec_lt p o);
              }),
          omega (arith, is, f.above),
        )
          where
            pass : (o : ℕ) → o < link_of g W base p → Name g W base o → class_of g W base o ≡ class_of g W base q → Key g W base n first o q → Dec (p < o) → ⊥
            pass o lt nm e k (yes above) = f.gap o above lt nm (e ∙ sym w.same)
            pass o lt nm e k (no le) = upto o (omega arith) nm e k

  pub walk-hit : (p : ℕ) → Walking g W base n first q p → Key g W base n first p q → Found g W base n first q (Ok p)
  walk-hit p w k = (record { below = w.below; name = w.name; same = w.same }, k)

-- ---- one state more

module _ (g : Grid) (W : List ℕ) (base n : ℕ) (first : Bool) (q : ℕ) (hq : q < n) (s : Parted g W base n first q) (Y : List ℕ)
    (kept : Kept g W Y (Spare g base (base + n) NEW (LINK + 1))) (news : (o : ℕ) → o < q → new_of g Y base o ≡ new_of g W base o) where
  same_class : (o : ℕ) → class_of g Y base o ≡ class_of g W base o
  same_class = class_same g W base n s.part.ready Y 2 4 (omega arith) (omega arith) kept

  name_back : (o : ℕ) → o < q → Name g Y base o → Name g W base o
  name_back o h nm = sym (news o h) ∙ nm

  name_on : (o : ℕ) → o < q → Name g W base o → Name g Y base o
  name_on o h nm = news o h ∙ nm

  class_back : (o p : ℕ) → class_of g Y base o ≡ class_of g Y base p → class_of g W base o ≡ class_of g W base p
  class_back o p e = sym (same_class o) ∙ e ∙ same_class p

  class_on : (o p : ℕ) → class_of g W base o ≡ class_of g W base p → class_of g Y base o ≡ class_of g Y base p
  class_on o p e = same_class o ∙ e ∙ sym (same_class p)

  pub gap_on : (p j : ℕ) → j ≤ q → Gap g W base p j → Gap g Y base p j
  gap_on p j le gap o lo hi nm e = gap o lo hi (name_back o (omega arith) nm) (class_back o p e)

  -- q ends a gap only if it is a name of the class
  pub gap_more : (p : ℕ) → Gap g Y base p q → (Name g Y base q → class_of g Y base q ≡ class_of g Y base p → ⊥) → Gap g Y base p (q + 1)
  gap_more p gap here o lo hi nm e = go (below_suc o q (omega arith))
    where
      go : (o < q) ⊎ (o ≡ q) → ⊥
      go (inl lt) = gap o lo lt nm e
      go (inr d) = here (subst (λ (i : ℕ). Name g Y base i) d nm) (subst (λ (i : ℕ). class_of g Y base i ≡ class_of g Y base p) d e)

  pub follows_on : (p : ℕ) → link_of g Y base p ≡ link_of g W base p → Follows g W base p q → Follows g Y base p (q + 1)
  follows_on p same f =
      record {
        above = omega (arith, same, f.above);
        below = omega (arith, same, f.below);
        name = subst (λ (i : ℕ). Name g Y base i) (sym same) (name_on (link_of g W base p) f.below f.name);
        same = ap (class_of g Y base) same ∙ class_on (link_of g W base p) p f.same;
        gap = subst (λ (i : ℕ). Gap g Y base p i) (sym same) (gap_on p (link_of g W base p) (omega (arith, f.below)) f.gap);
      }

  -- a link that stays
  pub link_on : (p : ℕ) → p < q → Name g Y base p → link_of g Y base p ≡ link_of g W base p
      → (Gap g W base p q → Name g Y base q → class_of g Y base q ≡ class_of g Y base p → ⊥)
      → ((link_of g Y base p ≡ 0) × Gap g Y base p (q + 1)) ⊎ Follows g Y base p (q + 1)
  link_on p h nm same here = go (s.links p h (name_back p h nm))
    where
      go : ((link_of g W base p ≡ 0) × Gap g W base p q) ⊎ Follows g W base p q → ((link_of g Y base p ≡ 0) × Gap g Y base p (q + 1)) ⊎ Follows g Y base p (q + 1)
      go (inl l) = inl (same ∙ l.0, gap_more p (gap_on p q (omega arith) l.1) (here l.1))
      go (inr f) = inr (follows_on p same f)

  pub parted-next : new_of g Y base q ≤ q → Name g Y base (new_of g Y base q) → class_of g W base (new_of g Y base q) ≡ class_of g W base q
      → Key g W base n first (new_of g Y base q) q
      → (Name g Y base q → (o : ℕ) → o < q → Name g W base o → class_of g W base o ≡ class_of g W base q → Key g W base n first o q → ⊥)
      → ((p : ℕ) → p < q + 1 → Name g Y base p → ((link_of g Y base p ≡ 0) × Gap g Y base p (q + 1)) ⊎ Follows g Y base p (q + 1))
      → Placed g W Y base n first (q + 1)
  parted-next low nm same alike fresh links =
      record {
        kept = kept;
        parted =
            record {
              part = part_on g W base n s.part.ready Y 2 4 (omega arith) (omega arith) kept s.part;
              low = λ o h. low-at o (below_suc o q (omega arith));
              name = λ o h. name-at o (below_suc o q (omega arith));
              same = λ o h. same_at o (below_suc o q (omega arith));
              alike = λ o h. key_on g W base n s.part.ready Y 2 4 (omega arith) (omega arith) kept first (new_of g Y base o) o (alike_at o (below_suc o q (omega arith)));
              apart = λ p o hp ho np nq e k.
                  apart-at p o np nq (class_back p o e) (key_back g W base n s.part.ready Y 2 4 (omega arith) (omega arith) kept first p o k)
                  (below_suc p q (omega arith)) (below_suc o q (omega arith));
              links = links;
            };
      }
    where
      low-at : (o : ℕ) → (o < q) ⊎ (o ≡ q) → new_of g Y base o ≤ o
      low-at o (inl h) = omega (arith, news o h, s.low o h)
      low-at o (inr e) = rw e low

      name-at : (o : ℕ) → (o < q) ⊎ (o ≡ q) → Name g Y base (new_of g Y base o)
      name-at o (inl h) =
          subst (λ (i : ℕ). Name g Y base i) (sym (news o h)) (name_on (new_of g W base o) (omega (arith, s.low o h)) (s.name o h))
      name-at o (inr e) = rw e nm

      same_at : (o : ℕ) → (o < q) ⊎ (o ≡ q) → class_of g Y base (new_of g Y base o) ≡ class_of g Y base o
      same_at o (inl h) = ap (class_of g Y base) (news o h) ∙ class_on (new_of g W base o) o (s.same o h)
      same_at o (inr e) = rw e (class_on (new_of g Y base q) q same)

      alike_at : (o : ℕ) → (o < q) ⊎ (o ≡ q) → Key g W base n first (new_of g Y base o) o
      alike_at o (inl h) = subst (λ (i : ℕ). Key g W base n first i o) (sym (news o h)) (s.alike o h)
      alike_at o (inr e) = rw e alike

      apart-at : (p o : ℕ) → Name g Y base p → Name g Y base o → class_of g W base p ≡ class_of g W base o → Key g W base n first p o
          → (p < q) ⊎ (p ≡ q) → (o < q) ⊎ (o ≡ q) → p ≡ o
      apart-at p o np nq e k (inl hp) (inl ho) = s.apart p o hp ho (name_back p hp np) (name_back o ho nq) e k
      apart-at p o np nq e k (inl hp) (inr d) =
          absurd (fresh (subst (λ (i : ℕ). Name g Y base i) d nq) p hp (name_back p hp np) (e ∙ ap (class_of g W base) d) (subst (Key g W base n first p) d k))
      apart-at p o np nq e k (inr d) (inl ho) =
          absurd (fresh (subst (λ (i : ℕ). Name g Y base i) d np) o ho (name_back o ho nq) (sym e ∙ ap (class_of g W base) d)
          (key_sym g W base n first q o (subst (λ (i : ℕ). Key g W base n first i o) d k)))
      apart-at p o np nq e k (inr d) (inr f) = d ∙ sym f

-- the three ways in which a state gets its new class
module _ (g : Grid) (W : List ℕ) (base n : ℕ) (first : Bool) (q : ℕ) (hq : q < n) (s : Parted g W base n first q) where
  deep : 8 ≤ g.depth
  deep = omega (arith, s.part.ready.room)

  named_wider : (X Y : List ℕ) → NewName g X Y base q → Kept g X Y (Spare g base (base + n) NEW (LINK + 1))
  named_wider X Y nm =
      kept_wider g (Spare g base (base + n) NEW (LINK + 1)) (Spare g (base + q) (base + q + 1) NEW (LINK + 1)) X Y nm.kept
      (λ r c e i. (omega (arith, i.0), omega (arith, i.1), i.2, i.3, i.4))

  other_row : (X Y : List ℕ) → NewName g X Y base q → (o e : ℕ) → o < q → e < 7 → at g Y (base + o) g.tags e ≡ at g X (base + o) g.tags e
  other_row X Y nm o e h he = nm.kept.same (base + o) g.tags e (omega arith) (omega (arith, deep)) (λ i. omega (arith, i.0))

  -- it names its old class
  pub place-own : (Y : List ℕ) (c : ℕ) → c ≡ class_of g W base q → c ≡ q → NewName g W Y base q → Placed g W Y base n first (q + 1)
  place-own Y c is own nm =
      let old : class_of g W base q ≡ q = sym is ∙ own in
      parted-next g W base n first q hq s Y (named_wider W Y nm) news (omega (arith, nm.name)) (ap (new_of g Y base) nm.name)
      (ap (class_of g W base) nm.name) (subst (λ (i : ℕ). Key g W base n first i q) (sym nm.name) (key_refl g W base n first q))
      (λ named o h name e k. omega (arith, e, old, s.part.low o (omega arith)))
      (λ p h name. by old p name (below_suc p q (omega arith)))
    where
      news : (o : ℕ) → o < q → new_of g Y base o ≡ new_of g W base o
      news o h = other_row W Y nm o 2 h (omega arith)

      by : class_of g W base q ≡ q → (p : ℕ) → Name g Y base p → (p < q) ⊎ (p ≡ q) → ((link_of g Y base p ≡ 0) × Gap g Y base p (q + 1)) ⊎ Follows g Y base p (q + 1)
      by old p name (inl h) =
          link_on g W base n first q hq s Y (named_wider W Y nm) news p h name (other_row W Y nm p 3 h (omega arith))
          (λ gap here e. omega (arith, class_back g W base n first q hq s Y (named_wider W Y nm) news q p e, old, s.part.low p (omega arith)))
      by old p name (inr e) = rw e (inl (nm.last, λ o lo hi a b. omega arith))

  -- it joins a name that is alike
  pub place-hit : (Y : List ℕ) (old : ℕ) → Naming g W base q old → Key g W base n first old q → Put g W Y (base + q) g.tags NEW old → Placed g W Y base n first (q + 1)
  place-hit Y old f alike p =
      parted-next g W base n first q hq s Y wider news (omega (arith, p.here, f.below))
      (ap (new_of g Y base) p.here ∙ news old f.below ∙ f.name ∙ sym p.here)
      (ap (class_of g W base) p.here ∙ f.same) (subst (λ (i : ℕ). Key g W base n first i q) (sym p.here) alike)
      (λ named. absurd (never named)) (λ o h name. by o name (below_suc o q (omega arith)))
    where
      wider : Kept g W Y (Spare g base (base + n) NEW (LINK + 1))
      wider =
          kept_wider g (Spare g base (base + n) NEW (LINK + 1)) (Entry (base + q) g.tags NEW) W Y p.kept
          (λ r c e i. (omega (arith, i.0), omega (arith, i.0), i.1, omega (arith, i.2), omega (arith, i.2)))

      news : (o : ℕ) → o < q → new_of g Y base o ≡ new_of g W base o
      news o h = p.kept.same (base + o) g.tags NEW (omega arith) (omega (arith, deep)) (λ i. omega (arith, i.0))

      never : Name g Y base q → ⊥
      never named = omega (arith, named, p.here, f.below)

      by : (o : ℕ) → Name g Y base o → (o < q) ⊎ (o ≡ q) → ((link_of g Y base o ≡ 0) × Gap g Y base o (q + 1)) ⊎ Follows g Y base o (q + 1)
      by o name (inl h) =
          link_on g W base n first q hq s Y wider news o h name
          (p.kept.same (base + o) g.tags LINK (omega arith) (omega (arith, deep)) (λ i. omega (arith, i.2))) (λ gap here e. never here)
      by o name (inr e) = absurd (never (subst (λ (i : ℕ). Name g Y base i) e name))

  -- it is told from all names of its class, and follows the last one
  pub place-miss : (X Y : List ℕ) (last : ℕ) → Last g W base n first q last → Put g W X (base + last) g.tags LINK q → NewName g X Y base q → Placed g W Y base n first (q + 1)
  place-miss X Y last f p nm =
      parted-next g W base n first q hq s Y wider news (omega (arith, nm.name)) (ap (new_of g Y base) nm.name)
      (ap (class_of g W base) nm.name) (subst (λ (i : ℕ). Key g W base n first i q) (sym nm.name) (key_refl g W base n first q))
      (λ named. f.none) (λ o h name. by o name (below_suc o q (omega arith)))
    where
      wider : Kept g W Y (Spare g base (base + n) NEW (LINK + 1))
      wider =
          kept_then g (Spare g base (base + n) NEW (LINK + 1)) W X Y
          (kept_wider g (Spare g base (base + n) NEW (LINK + 1)) (Entry (base + last) g.tags LINK) W X p.kept
          (λ r c e i. (omega (arith, i.0), omega (arith, i.0, f.naming.below), i.1, omega (arith, i.2), omega (arith, i.2))))
          (named_wider X Y nm)

      news : (o : ℕ) → o < q → new_of g Y base o ≡ new_of g W base o
      news o h =
          other_row X Y nm o 2 h (omega arith)
          ∙ p.kept.same (base + o) g.tags NEW (omega arith) (omega (arith, deep)) (λ i. omega (arith, i.2))

      back : (o i : ℕ) → class_of g Y base o ≡ class_of g Y base i → class_of g W base o ≡ class_of g W base i
      back = class_back g W base n first q hq s Y wider news

      -- the gap after the last name
      last-gap : Gap g W base last q
      last-gap = go (s.links last f.naming.below f.naming.name)
        where
          go : ((link_of g W base last ≡ 0) × Gap g W base last q) ⊎ Follows g W base last q → Gap g W base last q
          go (inl l) = l.1
          go (inr l) = absurd (omega (arith, l.above, f.last))

      link_at : link_of g Y base last ≡ q
      link_at = other_row X Y nm last 3 f.naming.below (omega arith) ∙ p.here

      at_last : Follows g Y base last (q + 1)
      at_last =
          record {
            above = omega (arith, link_at, f.naming.below);
            below = omega (arith, link_at);
            name = subst (λ (i : ℕ). Name g Y base i) (sym link_at) nm.name;
            same = ap (class_of g Y base) link_at ∙ class_on g W base n first q hq s Y wider news q last (sym f.naming.same);
            gap = subst (λ (i : ℕ). Gap g Y base last i) (sym link_at) (gap_on g W base n first q hq s Y wider news last q (omega arith) last-gap);
          }

      -- no other name of the class is the last one
      not_last : (o : ℕ) → o < q → (o ≡ last → ⊥) → Name g W base o → Gap g W base o q → class_of g W base q ≡ class_of g W base o → ⊥
      not_last o h ne name gap e = go (dec_lt o last)
        where
          go : Dec (o < last) → ⊥
          go (yes lt) = gap last lt f.naming.below f.naming.name (f.naming.same ∙ e)
          go (no le) = last-gap o (omega (arith, ne, le)) h name (sym e ∙ sym f.naming.same)

      by : (o : ℕ) → Name g Y base o → (o < q) ⊎ (o ≡ q) → ((link_of g Y base o ≡ 0) × Gap g Y base o (q + 1)) ⊎ Follows g Y base o (q + 1)
      by o name (inr e) = rw e (inl (nm.last, λ i lo hi a b. omega arith))
      by o name (inl h) = at (ℕ_discrete o last)
        where
          at : Dec (o ≡ last) → ((link_of g Y base o ≡ 0) × Gap g Y base o (q + 1)) ⊎ Follows g Y base o (q + 1)
          at (yes e) = rw e (inr at_last)
          at (no ne) =
              link_on g W base n first q hq s Y wider news o h name
              (other_row X Y nm o 3 h (omega arith) ∙ p.kept.same (base + o) g.tags LINK (omega arith) (omega (arith, deep)) (λ i. ne (omega (arith, i.0))))
              (λ gap here e. not_last o h ne (name_back g W base n first q hq s Y wider news o h name) gap (back q o e))

pub parted-start : (g : Grid) (W : List ℕ) (base n : ℕ) (first : Bool) → Partition g W base n → Placed g W W base n first 0
parted-start g W base n first s =
    record {
      kept = kept-none g (Spare g base (base + n) NEW (LINK + 1)) W;
      parted =
          record {
            part = s;
            low = λ q h. absurd (omega arith);
            name = λ q h. absurd (omega arith);
            same = λ q h. absurd (omega arith);
            alike = λ q h. absurd (omega arith);
            apart = λ p q hp. absurd (omega arith);
            links = λ p h. absurd (omega arith);
          };
    }

pub placed_then : (g : Grid) (W X Y : List ℕ) (base n : ℕ) (first : Bool) (i j : ℕ) → Placed g W X base n first i → Placed g X Y base n first j → Placed g W Y base n first j
placed_then g W X Y base n first i j a b = record { kept = kept_then g (Spare g base (base + n) NEW (LINK + 1)) W X Y a.kept b.kept; parted = b.parted }

pub named_new : (g : Grid) (W X Y : List ℕ) (base q : ℕ) → 8 ≤ g.depth → Put g W X (base + q) g.tags NEW q → Put g X Y (base + q) g.tags LINK 0 → NewName g W Y base q
named_new g W X Y base q deep a b =
    record {
      kept =
          kept_then g (Spare g (base + q) (base + q + 1) NEW (LINK + 1)) W X Y
          (kept_wider g (Spare g (base + q) (base + q + 1) NEW (LINK + 1)) (Entry (base + q) g.tags NEW) W X a.kept (λ r c e i. (omega (arith, i.0), omega (arith, i.0), i.1, omega (arith, i.2), omega (arith, i.2))))
          (kept_wider g (Spare g (base + q) (base + q + 1) NEW (LINK + 1)) (Entry (base + q) g.tags LINK) X Y b.kept (λ r c e i. (omega (arith, i.0), omega (arith, i.0), i.1, omega (arith, i.2), omega (arith, i.2))));
      name = b.kept.same (base + q) g.tags NEW (omega arith) (omega arith) (λ i. omega (arith, i.2)) ∙ a.here;
      last = b.here;
    }

-- a link that is set leaves the transducer
pub ready_link : (g : Grid) (W X : List ℕ) (base n p v : ℕ) → Ready g W base n → p < n → Put g W X (base + p) g.tags LINK v → Ready g X base n
ready_link g W X base n p v ok h l =
    ready-kept g W base n ok X 3 4 (omega arith)
    (kept_wider g (Spare g base (base + n) LINK (LINK + 1)) (Entry (base + p) g.tags LINK) W X l.kept
    (λ r c e i. (omega (arith, i.0), omega (arith, i.0), i.1, omega (arith, i.2), omega (arith, i.2))))
