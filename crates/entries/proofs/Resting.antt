-- The entries of a state that rests.
use Prim.Native.Nat.{ℕ, zero, suc, ◌+◌, ◌*◌, ◌-◌, ◌<◌, ◌≤◌}
use native.Mathlib.Numerals.{add-one}
use native.Mathlib.Omega.{arith}
use mathlib.Core.Path.{◌≡◌, refl, sym, ap, ◌∙◌, subst}
use mathlib.Core.Bool.{Bool, true, false, ◌&&◌, false≢true}
use mathlib.Core.List.{List, [], ◌∷◌}
use borrow.Author.Tests.{eqb-true, eq-eqb}
use lib.Dec.{eqb}
use lib.ListN.{length, get_or}
use Rattle.std.specs.Bool.{MatchBool}
use Rattle.std.specs.List.{AllWithin, HoldsAt, range_with_len}
use Rattle.std.proofs.lemmas.List.FromFn.{length-range_with_len, get_or-range_with_len}
use Rattle.words.specs.Decides.{Decides}
use Rattle.transducers.specs.Table.{Step, Table, no_step, row, step}
use Rattle.steps.specs.Entry.{count_of}
use Rattle.decoder.specs.Index.{Loaded}
use Rattle.tables.proofs.Outcomes.{read-few}
use Rattle.limits.specs.declared.Limits.{Limits}
use Rattle.loaded.specs.Numbers.{none, only, stays, rests, first_resting}
use Rattle.entries.specs.State.{Stays, RestsIn}
use Rattle.entries.proofs.Numbers.{base_state}

-- ---- tests, there and back

none_so : (w : List ℕ) → length w ≡ 0 → none w ≡ true
none_so [] e = refl
none_so (a ∷ w) e = absurd (omega arith)

none_is : (w : List ℕ) → none w ≡ true → length w ≡ 0
none_is [] e = refl
none_is (a ∷ w) e = absurd (false≢true e)

only_so : (a : ℕ) (w : List ℕ) → length w ≡ 1 → get_or w 0 0 ≡ a → only a w ≡ true
only_so a [] e f = absurd (omega arith)
only_so a (b ∷ w) e f = rw (eq-eqb b a f, none_so w (omega arith)) refl

both : (b c : Bool) → b && c ≡ true → (b ≡ true) × (c ≡ true)
both true c e = (refl, e)
both false c e = absurd (false≢true e)

only-is : (a : ℕ) (w : List ℕ) → only a w ≡ true → (length w ≡ 1) × (get_or w 0 0 ≡ a)
only-is a [] e = absurd (false≢true e)
only-is a (b ∷ w) e = let h = both (eqb b a) (none w) e in (omega (arith, none_is w h.1), eqb-true b a h.0)

stays-so : (q : ℕ) (ss : List Step) (b : ℕ) → ((a : ℕ) → a < length ss → ((get_or ss a no_step).next ≡ q) × (only (b + a) (get_or ss a no_step).output ≡ true)) → stays q b ss ≡ true
stays-so q [] b all = refl
stays-so q (s ∷ ss) b all =
    let here = all 0 (omega arith) in
    let z : b + 0 ≡ b = omega arith in
    let o : only b s.output ≡ true = subst (λ (i : ℕ). only i s.output ≡ true) z here.1 in
    let rest = stays-so q ss (suc b) (λ a h.
    let e : b + suc a ≡ suc b + a = omega arith in
    let more = all (suc a) (omega arith) in
    (more.0, subst (λ (i : ℕ). only i (get_or ss a no_step).output ≡ true) e more.1)) in
    rw (eq-eqb s.next q here.0, o, rest) refl

stays-is : (q : ℕ) (ss : List Step) (b a : ℕ) → stays q b ss ≡ true → a < length ss → ((get_or ss a no_step).next ≡ q) × (only (b + a) (get_or ss a no_step).output ≡ true)
stays-is q [] b a e h = absurd (omega arith)
stays-is q (s ∷ ss) b zero e h =
    let here = both (eqb s.next q) (only b s.output) (both (eqb s.next q && only b s.output) (stays q (suc b) ss) e).0 in
    let z : b ≡ b + 0 = omega arith in
    (eqb-true s.next q here.0, subst (λ (i : ℕ). only i s.output ≡ true) z here.1)
stays-is q (s ∷ ss) b (suc a) e h =
    let more = stays-is q ss (suc b) a (both (eqb s.next q && only b s.output) (stays q (suc b) ss) e).1 (omega arith) in
    let z : suc b + a ≡ b + suc a = omega arith in
    (more.0, subst (λ (i : ℕ). only i (get_or ss a no_step).output ≡ true) z more.1)

-- a state's entries that were all tested, or one of which failed
pub rests-decided : (ix : List ℕ) (k cell : ℕ) (r : Bool) → count_of (get_or ix cell 0) ≡ 0
    → MatchBool r (AllWithin (λ a. Stays (get_or ix (cell + 1 + a) 0) (cell + 1) a) (range_with_len 0 k) 0 (length (range_with_len 0 k)))
    ((a : ℕ) × (a < length (range_with_len 0 k)) × HoldsAt (λ a. Stays (get_or ix (cell + 1 + a) 0) (cell + 1) a → ⊥) (range_with_len 0 k) a)
    → Decides r (RestsIn ix k cell)
rests-decided ix k cell true empty all = record { so = λ e. record { empty = empty; steps = steps }; not = λ e. absurd (false≢true (sym e)) }
  where
    steps : (a : ℕ) → a < k → Stays (get_or ix (cell + 1 + a) 0) (cell + 1) a
    steps a h =
        let at : get_or (range_with_len 0 k) a 0 ≡ a = omega (arith, get_or-range_with_len 0 k a 0 h) in
        subst (λ (i : ℕ). Stays (get_or ix (cell + 1 + i) 0) (cell + 1) i) at (all a 0 (omega arith) (omega (arith, length-range_with_len 0 k)))
rests-decided ix k cell false empty all =
    record {
      so = λ e. absurd (false≢true e);
      not = λ e r.
          let h : all.0 < k = omega (arith, all.1, length-range_with_len 0 k) in
          let at : all.0 ≡ get_or (range_with_len 0 k) all.0 0 = omega (arith, get_or-range_with_len 0 k all.0 0 h) in
          all.2 0 (subst (λ (i : ℕ). Stays (get_or ix (cell + 1 + i) 0) (cell + 1) i) at (r.steps all.0 h));
    }

-- ---- of a table that is loaded

module _ {lim : Limits} (bs ix : List ℕ) (k : ℕ) (l : Loaded lim bs k ix) where
  abbrev t : Table
  t = l.table

  module _ (q : ℕ) (h : q < length t) where
    held : count_of (get_or ix (q * (k + 1)) 0) ≡ length (row t q).final
    held = (l.cells q h).final.count_is

    module _ (a : ℕ) (ha : a < k) where
      out-long : length (step t q a).output < 0xff
      out-long = omega (arith, l.valid.balanced q a h ha, l.valid.held q h, read-few lim bs _ l.decodes)

      stay_so : Stays (get_or ix (q * (k + 1) + 1 + a) 0) (q * (k + 1) + 1) a → ((step t q a).next ≡ q) × (only (0 + a) (step t q a).output ≡ true)
      stay_so s =
          let c = (l.cells q h).steps a ha in
          let one : length (step t q a).output ≡ 1 = omega (arith, c.count_is, s.1, out-long) in
          let z : a ≡ 0 + a = omega arith in (
            base_state k (step t q a).next q (sym c.base_is ∙ s.0),
            subst (λ (i : ℕ). only i (step t q a).output ≡ true) z (only_so a (step t q a).output one (sym (c.tag_is one) ∙ s.2)),
          )

      stay_is : ((step t q a).next ≡ q) → only (0 + a) (step t q a).output ≡ true → Stays (get_or ix (q * (k + 1) + 1 + a) 0) (q * (k + 1) + 1) a
      stay_is n o =
          let c = (l.cells q h).steps a ha in
          let z : 0 + a ≡ a = omega arith in
          let w = only-is a (step t q a).output (subst (λ (i : ℕ). only i (step t q a).output ≡ true) z o) in
          (c.base_is ∙ ap (λ (p : ℕ). p * (k + 1) + 1) n, omega (arith, c.count_is, w.0), c.tag_is w.0 ∙ w.1)

    rests-so : RestsIn ix k (q * (k + 1)) → rests t q ≡ true
    rests-so r =
        rw (
          none_so (row t q).final (sym held ∙ r.empty),
          stays-so q (row t q).steps 0 (λ a ha. let lt : a < k = omega (arith, ha, l.valid.whole q h) in stay_so a lt (r.steps a lt)),
        ) refl

    rests-is : rests t q ≡ true → RestsIn ix k (q * (k + 1))
    rests-is e =
        let two = both (none (row t q).final) (stays q 0 (row t q).steps) e in
        record {
          empty = held ∙ none_is (row t q).final two.0;
          steps = λ a ha. let s = stays-is q (row t q).steps 0 a two.1 (omega (arith, ha, l.valid.whole q h)) in stay_is a ha s.0 s.1;
        }

    decided_rests : (b : Bool) → Decides b (RestsIn ix k (q * (k + 1))) → rests t q ≡ b
    decided_rests true d = rests-so (d.so refl)
    decided_rests false d = by (rests t q) refl
      where
        by : (c : Bool) → rests t q ≡ c → c ≡ false
        by true e = absurd (d.not refl (rests-is e))
        by false e = refl

  -- the search from the front: a state was tested
  module _ (s q cell : ℕ) (b : Bool) (h : q < s) (long : length t ≡ s) (is : cell ≡ q * (k + 1)) (d : Decides b (RestsIn ix k cell)) where
    turn : first_resting t (s - q) q ≡ elim b as (λ x. ℕ) [ true ↦ q | false ↦ first_resting t (s - (q + 1)) (q + 1) ]
    turn =
        let left : s - q ≡ suc (s - (q + 1)) = omega arith in
        ap (λ (n : ℕ). first_resting t n q) left
        ∙ ap (λ (c : Bool). elim c as (λ x. ℕ) [ true ↦ q | false ↦ first_resting t (s - (q + 1)) (suc q) ]) (decided_rests q (omega (arith, long)) b (subst (λ (i : ℕ). Decides b (RestsIn ix k i)) is d))
        ∙ ap (λ (i : ℕ). elim b as (λ x. ℕ) [ true ↦ q | false ↦ first_resting t (s - (q + 1)) i ]) (sym (add-one q))

    pub resting-next : b ≡ false → first_resting t (s - q) q ≡ first_resting t (s - (q + 1)) (q + 1)
    resting-next e = turn ∙ ap (λ (c : Bool). elim c as (λ x. ℕ) [ true ↦ q | false ↦ first_resting t (s - (q + 1)) (q + 1) ]) e

    pub resting-here : b ≡ true → first_resting t (s - q) q ≡ q
    resting-here e = turn ∙ ap (λ (c : Bool). elim c as (λ x. ℕ) [ true ↦ q | false ↦ first_resting t (s - (q + 1)) (q + 1) ]) e

  -- none rests
  pub resting-none : (s q : ℕ) → s ≤ q → first_resting t (s - q) q ≡ q
  resting-none s q h = let none : s - q ≡ 0 = omega arith in ap (λ (n : ℕ). first_resting t n q) none
