-- A number is entered and marked, and writing elsewhere leaves the list.
use Prim.Native.Nat.{ℕ, zero, suc, ◌+◌, ◌-◌, ◌≤◌, ◌<◌}
use native.Mathlib.Omega.{arith}
use native.Mathlib.Decide.{ℕ_discrete, dec_lt}
use native.Mathlib.Numerals.{add-one}
use borrow.Author.Tests.{eq-eqb, eqb-true, lt-ltb, le-ltb}
use lib.Dec.{eqb}
use lib.ListN.{length, get_or}
use mathlib.Core.Path.{◌≡◌, refl, sym, ap, ◌∙◌}
use mathlib.Core.Logic.{◌⊎◌, inl, inr}
use mathlib.Core.List.{List, [], ◌∷◌, ◌++◌}
use Rattle.words.proofs.Word.{below_suc}
use Rattle.transducers.specs.Number.{place, note}
use Rattle.transducers.proofs.Find.{find-hit, find_first}
use Rattle.transducers.proofs.Lower.{pigeonhole}
use Rattle.transducers.proofs.Tabulate.{length-tabulate, at-tabulate}
use Rattle.workspace.specs.declared.Grid.{Grid}
use Rattle.workspace.specs.Entries.{MEMBER, MARK}
use Rattle.workspace.specs.Cells.{Kept, Got, Put}
use Rattle.workspace.proofs.Regions.{kept-none, kept_then, kept_wider, sized-kept, spare_put}
use Rattle.workspace.proofs.Words.{tabulate-same, tabulate_snoc}
use Rattle.worklist.specs.Worklist.{member_of, mark_of, listed, ListNotes, Worklist, Grown, Entered, Member}

-- the list as a list
module _ (g : Grid) (W : List ℕ) (base : ℕ) where
  pub listed-length : (len : ℕ) → length (listed g W base len) ≡ len
  unfolding listed
  listed-length len = length-tabulate len 0 (member_of g W base)

  pub listed_at : (len i : ℕ) → i < len → get_or (listed g W base len) i 0 ≡ member_of g W base i
  unfolding listed
  listed_at len i h = at-tabulate len i (member_of g W base) 0 h

  pub listed-one : member_of g W base 0 ≡ 0 → listed g W base 1 ≡ 0 ∷ []
  unfolding listed
  listed-one e = ap {B = List ℕ} (λ (s : ℕ). s ∷ []) e

pub listed_same : (g : Grid) (W X : List ℕ) (base len : ℕ) → ((i : ℕ) → i < len → member_of g X base i ≡ member_of g W base i)
    → listed g X base len ≡ listed g W base len
unfolding listed
listed_same g W X base len all = tabulate-same len 0 (member_of g X base) (member_of g W base) (λ i lo hi. all i (omega arith))

listed_more : (g : Grid) (X : List ℕ) (base len s : ℕ) → member_of g X base len ≡ s → listed g X base (len + 1) ≡ listed g X base len ++ (s ∷ [])
unfolding listed
listed_more g X base len s e =
    let z : 0 + len ≡ len = omega arith in
    ap (listed g X base) (add-one len)
    ∙ tabulate_snoc len 0 (member_of g X base)
    ∙ ap {B = List ℕ} (λ (t : ℕ). listed g X base len ++ (t ∷ [])) (ap (member_of g X base) z ∙ e)

-- noting by the place in a list
note_in : (l : List ℕ) (s : ℕ) → place l s < length l → note l s ≡ l
note_in l s h = cc (lt-ltb (place l s) (length l) h)

note-out : (l : List ℕ) (s : ℕ) → length l ≤ place l s → note l s ≡ l ++ (s ∷ [])
note-out l s h = cc (le-ltb (place l s) (length l) h)

-- a member is marked, and what is marked is a member
module _ (g : Grid) (W : List ℕ) (base n len : ℕ) (w : Worklist g W base n len) (s : ℕ) where
  pub listed-marked : place (listed g W base len) s < len → mark_of g W base s ≡ suc (place (listed g W base len) s)
  listed-marked h =
      let l = listed g W base len in
      let lt : place l s < length l = omega (arith, listed-length g W base len) in
      let is : s ≡ member_of g W base (place l s) = eqb-true s (get_or l (place l s) 0) (find-hit (eqb s) 0 l lt) ∙ listed_at g W base len (place l s) h in
      ap (mark_of g W base) is ∙ w.marks (place l s) h

  pub place-marked : (seen : ℕ) → s < n → Got g W (base + s) g.tags MARK seen → (mark_of g W base s ≡ 0 → ⊥) → (0 < seen) × Member g W base len s (seen - 1)
  place-marked seen h got has =
      let m = w.marked s h has in
      let some : 0 < seen = by seen got.is in (
        some,
        record {
          below = omega (arith, got.is, m.0);
          is = ap (λ (j : ℕ). member_of g W base (j - 1)) got.is ∙ m.1;
          mark = omega (arith, got.is);
        },
      )
    where
      by : (x : ℕ) → x ≡ mark_of g W base s → 0 < x
      by zero e = absurd (has (sym e))
      by (suc x) e = omega arith

-- writing that misses the notes leaves the list
module _ (g : Grid) (base n : ℕ) where
  list-kept : (P : ℕ → ℕ → ℕ → Type 0) (W X : List ℕ) (len : ℕ) → Worklist g W base n len → Kept g W X P
      → ((i e : ℕ) → MEMBER ≤ e → e ≤ MARK → P (base + i) g.tags e → ⊥)
      → Worklist g X base n len × ((i : ℕ) → member_of g X base i ≡ member_of g W base i)
  list-kept P W X len w kept miss = (
    record {
      slots =
          record {
            sized = sized-kept g W X w.slots.sized kept.long;
            inside = w.slots.inside;
            deep = w.slots.deep;
            some = w.slots.some;
            small = w.slots.small;
          };
      some = w.some;
      low = w.low;
      start = ps 0 ∙ w.start;
      below = λ i h. omega (arith, ps i, w.below i h);
      marks = λ i h. ap (mark_of g X base) (ps i) ∙ ms (member_of g W base i) ∙ w.marks i h;
      marked = λ s h has.
          let m = w.marked s h (λ e. has (ms s ∙ e)) in
          (omega (arith, ms s, m.0), ap (λ (j : ℕ). member_of g X base (j - 1)) (ms s) ∙ ps (mark_of g W base s - 1) ∙ m.1);
    },
    ps,
  )
    where
      ps : (i : ℕ) → member_of g X base i ≡ member_of g W base i
      ps i = kept.same (base + i) g.tags MEMBER (omega arith) (omega (arith, w.slots.deep)) (miss i MEMBER (omega arith) (omega arith))

      ms : (s : ℕ) → mark_of g X base s ≡ mark_of g W base s
      ms s = kept.same (base + s) g.tags MARK (omega arith) (omega (arith, w.slots.deep)) (miss s MARK (omega arith) (omega arith))

  module _ (P : ℕ → ℕ → ℕ → Type 0) where
    pub grown-none : (W : List ℕ) (len : ℕ) → Worklist g W base n len → Grown P g W W base n len len
    grown-none W len w = record { kept = kept-none g P W; list = w; more = omega arith; old = λ i h. refl }

    pub grown_by : (W X : List ℕ) (len : ℕ) → Worklist g W base n len → Kept g W X P
        → ((i e : ℕ) → MEMBER ≤ e → e ≤ MARK → P (base + i) g.tags e → ⊥) → Grown P g W X base n len len
    grown_by W X len w kept miss =
        let k = list-kept P W X len w kept miss in
        record { kept = kept; list = k.0; more = omega arith; old = λ i h. k.1 i }

    pub grown_then : (W X Y : List ℕ) (len mid to : ℕ) → Grown P g W X base n len mid → Grown P g X Y base n mid to → Grown P g W Y base n len to
    grown_then W X Y len mid to a b =
        record {
          kept = kept_then g P W X Y a.kept b.kept;
          list = b.list;
          more = omega (arith, a.more, b.more);
          old = λ i h. b.old i (omega (arith, a.more)) ∙ a.old i h;
        }

    pub grown_wider : (Q : ℕ → ℕ → ℕ → Type 0) (W X : List ℕ) (len to : ℕ) → Grown Q g W X base n len to → ((r c e : ℕ) → Q r c e → P r c e)
        → Grown P g W X base n len to
    grown_wider Q W X len to a more =
        record { kept = kept_wider g P Q W X a.kept more; list = a.list; more = a.more; old = a.old }

  -- s is entered
  module _ (W : List ℕ) (len s : ℕ) (w : Worklist g W base n len) (h : s < n) where
    pub enter_old : (seen : ℕ) → Got g W (base + s) g.tags MARK seen → (seen ≡ 0 → ⊥) → Entered g W W base n len s len
    enter_old seen got some =
        let has : mark_of g W base s ≡ 0 → ⊥ = λ e. some (got.is ∙ e) in
        let p = (place-marked g W base n len w s seen h got has).1 in
        let l = listed g W base len in
        let is : s ≡ get_or l (seen - 1) 0 = sym (listed_at g W base len (seen - 1) p.below ∙ p.is) in
        let first = find_first (eqb s) 0 l (seen - 1) (omega (arith, p.below, listed-length g W base len)) (eq-eqb s (get_or l (seen - 1) 0) is) in
        record {
          grown = grown-none (ListNotes g base n) W len w;
          here = has;
          noted = sym (note_in l s (omega (arith, first, p.below, listed-length g W base len)));
        }

    module _ (none : mark_of g W base s ≡ 0) where
      -- there is a row for it: no number is a member twice
      pub enter_room : len < n
      enter_room = pigeonhole (suc len) n (λ i l. pick i (dec_lt i len)) (λ i l. pick_below i (dec_lt i len)) (λ i j l m. pick_apart i j l m (dec_lt i len) (dec_lt j len))
        where
          pick : (i : ℕ) → Dec (i < len) → ℕ
          pick i (yes l) = member_of g W base i
          pick i (no l) = s

          pick_below : (i : ℕ) (d : Dec (i < len)) → pick i d < n
          pick_below i (yes l) = w.below i l
          pick_below i (no l) = h

          pick_apart : (i j : ℕ) → i < suc len → j < suc len → (d : Dec (i < len)) (e : Dec (j < len)) → pick i d ≡ pick j e → i ≡ j
          pick_apart i j l m (yes a) (yes b) e = omega (arith, w.marks i a, w.marks j b, ap (mark_of g W base) e)
          pick_apart i j l m (yes a) (no b) e = absurd (omega (arith, w.marks i a, ap (mark_of g W base) e))
          pick_apart i j l m (no a) (yes b) e = absurd (omega (arith, w.marks j b, ap (mark_of g W base) e))
          pick_apart i j l m (no a) (no b) e = omega arith

      out : len ≤ place (listed g W base len) s
      out = by (dec_lt (place (listed g W base len) s) len)
        where
          by : Dec (place (listed g W base len) s < len) → len ≤ place (listed g W base len) s
          by (yes l) = absurd (omega (arith, listed-marked g W base n len w s l, none))
          by (no l) = omega arith

      module _ (X Y : List ℕ) (put1 : Put g W X (base + len) g.tags MEMBER s) (put2 : Put g X Y (base + s) g.tags MARK (len + 1)) where
        old : (i : ℕ) → i < len → member_of g Y base i ≡ member_of g W base i
        old i l =
            put2.kept.same (base + i) g.tags MEMBER (omega arith) (omega (arith, w.slots.deep)) (λ q. omega (arith, q.2))
            ∙ put1.kept.same (base + i) g.tags MEMBER (omega arith) (omega (arith, w.slots.deep)) (λ q. omega (arith, q.0))

        new : member_of g Y base len ≡ s
        new = put2.kept.same (base + len) g.tags MEMBER (omega arith) (omega (arith, w.slots.deep)) (λ q. omega (arith, q.2)) ∙ put1.here

        other : (x : ℕ) → (x ≡ s → ⊥) → mark_of g Y base x ≡ mark_of g W base x
        other x d =
            put2.kept.same (base + x) g.tags MARK (omega arith) (omega (arith, w.slots.deep)) (λ q. d (omega (arith, q.0)))
            ∙ put1.kept.same (base + x) g.tags MARK (omega arith) (omega (arith, w.slots.deep)) (λ q. omega (arith, q.2))

        kept : Kept g W Y (ListNotes g base n)
        kept =
            kept_then g (ListNotes g base n) W X Y
            (spare_put g base n MEMBER (MARK + 1) W X len MEMBER s enter_room (omega arith) (omega arith) put1)
            (spare_put g base n MEMBER (MARK + 1) X Y s MARK (len + 1) h (omega arith) (omega arith) put2)

        list : Worklist g Y base n (len + 1)
        list =
            record {
              slots =
                  record {
                    sized = sized-kept g W Y w.slots.sized kept.long;
                    inside = w.slots.inside;
                    deep = w.slots.deep;
                    some = w.slots.some;
                    small = w.slots.small;
                  };
              some = omega arith;
              low = omega (arith, enter_room);
              start = old 0 w.some ∙ w.start;
              below = λ i l. below_at i (below_suc i len (omega arith));
              marks = λ i l. marks-at i (below_suc i len (omega arith));
              marked = λ x hx has. marked-at x hx has (ℕ_discrete x s);
            }
          where
            below_at : (i : ℕ) → (i < len) ⊎ (i ≡ len) → member_of g Y base i < n
            below_at i (inl l) = omega (arith, old i l, w.below i l)
            below_at i (inr e) = omega (arith, ap (member_of g Y base) e, new)

            marks-at : (i : ℕ) → (i < len) ⊎ (i ≡ len) → mark_of g Y base (member_of g Y base i) ≡ suc i
            marks-at i (inl l) =
                ap (mark_of g Y base) (old i l)
                ∙ other (member_of g W base i) (λ e. omega (arith, w.marks i l, ap (mark_of g W base) e))
                ∙ w.marks i l
            marks-at i (inr e) = ap (λ (j : ℕ). mark_of g Y base (member_of g Y base j)) e ∙ ap (mark_of g Y base) new ∙ put2.here ∙ omega (arith, e)

            marked-at : (x : ℕ) → x < n → (mark_of g Y base x ≡ 0 → ⊥) → Dec (x ≡ s)
                → (mark_of g Y base x ≤ len + 1) × (member_of g Y base (mark_of g Y base x - 1) ≡ x)
            marked-at x hx has (yes e) =
                let m : mark_of g Y base x ≡ len + 1 = ap (mark_of g Y base) e ∙ put2.here in
                let l : mark_of g Y base x - 1 ≡ len = omega (arith, m) in
                (omega (arith, m), ap (member_of g Y base) l ∙ new ∙ sym e)
            marked-at x hx has (no d) =
                let m = other x d in
                let v = w.marked x hx (λ e. has (m ∙ e)) in
                let l : mark_of g W base x - 1 < len = omega (arith, v.0, w.some) in
                (omega (arith, m, v.0), ap (λ (j : ℕ). member_of g Y base (j - 1)) m ∙ old (mark_of g W base x - 1) l ∙ v.1)

        pub enter_new : Entered g W Y base n len s (len + 1)
        enter_new =
            record {
              grown = record { kept = kept; list = list; more = omega arith; old = old };
              here = λ e. omega (arith, e, put2.here);
              noted =
                  listed_more g Y base len s new
                  ∙ ap (λ (l : List ℕ). l ++ (s ∷ [])) (listed_same g W Y base len old)
                  ∙ sym (note-out (listed g W base len) s (omega (arith, out, listed-length g W base len)));
            }
