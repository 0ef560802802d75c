-- The way through the numbers of a table is the run of its transducer, whatever stands behind them.
use Prim.Native.Nat.{ℕ, zero, suc, ◌+◌, ◌*◌, ◌<◌, ◌≤◌}
use native.Mathlib.Omega.{arith}
use native.Mathlib.Nat.{mul-le-mul}
use mathlib.Core.Path.{◌≡◌, refl, sym, ap, ap₂, ◌∙◌, subst}
use mathlib.Core.Bool.{Bool, true, false, ◌&&◌, false≢true}
use mathlib.Core.List.{List, [], ◌∷◌, ◌++◌}
use borrow.Author.Tests.{eqb-true, eq-eqb, ne_eqb, lt-ltb, le-leb, ltb-true}
use lib.Dec.{eqb, leb, ltb}
use lib.ListN.{length, get_or}
use Rattle.limits.specs.Limits.{fewest_tags, most_tags, most_states, longest_sentence, InRange}
use Rattle.limits.specs.declared.Limits.{Limits}
use Rattle.limits.proofs.Range.{held-few, within-is}
use Rattle.words.specs.Word.{Below}
use Rattle.words.proofs.Word.{below_mono}
use Rattle.answers.specs.Outcome.{Outcome, result, refused, and_then, provided}
use Rattle.sentences.specs.Run.{highest, admitted, run}
use Rattle.sentences.proofs.Run.{highest-below, below-highest}
use Rattle.transducers.specs.Transducer.{puts}
use Rattle.transducers.specs.Table.{Step, Row, Table, no_step, no_row, row, step, shape}
use Rattle.tables.specs.Valid.{ValidTable}
use Rattle.tables.proofs.Transduction.{run_length, run-below}
use Rattle.loaded.specs.Numbers.{row_size, row_at, none, only, stays, rests, first_resting, resting, next_at, numbers}
use Rattle.loaded.specs.Run.{word_of, way, sound, loaded_run}
use Rattle.loaded.proofs.Rows.{Noted, NotedSteps, NotedRows, RowsIn, step_in_lem, row_in, numbers-rows}

-- ---- a state that rests

both : (b c : Bool) → b && c ≡ true → (b ≡ true) × (c ≡ true)
both true c e = (refl, e)
both false c e = absurd (false≢true e)

none_is : (w : List ℕ) → none w ≡ true → w ≡ []
none_is [] e = refl
none_is (b ∷ w) e = absurd (false≢true e)

only-is : (a : ℕ) (w : List ℕ) → only a w ≡ true → w ≡ a ∷ []
only-is a [] e = absurd (false≢true e)
only-is a (b ∷ w) e = let h = both (eqb b a) (none w) e in ap₂ {C = List ℕ} (λ (x : ℕ) (l : List ℕ). x ∷ l) (eqb-true b a h.0) (none_is w h.1)

stays_at : (q : ℕ) (ss : List Step) (b a : ℕ) → stays q b ss ≡ true → a < length ss
    → ((get_or ss a no_step).next ≡ q) × ((get_or ss a no_step).output ≡ (b + a) ∷ [])
stays_at q [] b a e h = absurd (omega arith)
stays_at q (s ∷ ss) b zero e h =
    let here = both (eqb s.next q) (only b s.output) (both (eqb s.next q && only b s.output) (stays q (suc b) ss) e).0 in
    let z : b ≡ b + 0 = omega arith in
    (eqb-true s.next q here.0, only-is b s.output here.1 ∙ ap (λ (i : ℕ). i ∷ []) z)
stays_at q (s ∷ ss) b (suc a) e h =
    let more = stays_at q ss (suc b) a (both (eqb s.next q && only b s.output) (stays q (suc b) ss) e).1 (omega arith) in
    let z : suc b + a ≡ b + suc a = omega arith in
    (more.0, more.1 ∙ ap (λ (i : ℕ). i ∷ []) z)

module _ (lim : Limits) (ranged : InRange lim) (k : ℕ) (t : Table) (v : ValidTable lim k t) where
  few : k ≤ most_tags
  few = omega (arith, v.tags_most, ranged.few_tags)

  rests-puts : (q : ℕ) → q < length t → rests t q ≡ true → (w : List ℕ) → Below k w → puts (shape t) q w ≡ w
  rests-puts q h e [] b = none_is (row t q).final (both (none (row t q).final) (stays q 0 (row t q).steps) e).0
  rests-puts q h e (a ∷ w) b =
      let s = stays_at q (row t q).steps 0 a (both (none (row t q).final) (stays q 0 (row t q).steps) e).1 (omega (arith, b.0, v.whole q h)) in
      let z : 0 + a ≡ a = omega arith in
      ap₂ {C = List ℕ} (λ (o : List ℕ) (p : ℕ). o ++ puts (shape t) p w) (s.1 ∙ ap (λ (i : ℕ). i ∷ []) z) s.0
      ∙ ap {B = List ℕ} (λ (l : List ℕ). a ∷ l) (rests-puts q h e w b.1)

  first-rests : (n q p : ℕ) → p ≡ first_resting t n q → p < q + n → rests t p ≡ true
  first-rests zero q p e h = absurd (omega (arith, e))
  first-rests (suc n) q p e h = by (rests t q) refl e (first-rests n (suc q) p)
    where
      by : (b : Bool) → rests t q ≡ b → p ≡ elim b [ true ↦ q | false ↦ first_resting t n (suc q) ] → (p ≡ first_resting t n (suc q) → p < suc q + n → rests t p ≡ true) → rests t p ≡ true
      by true f d more = subst (λ (i : ℕ). rests t i ≡ true) (sym d) f
      by false f d more = more d (omega (arith, h))

  abbrev rested : ℕ
  rested = first_resting t (length t) 0

  -- no row of a valid table begins where one rests
  row-place : (q : ℕ) → q < length t → row_at k q ≡ resting → ⊥
  row-place q h e =
      omega (arith, e, v.states_most, few, mul-le-mul {n₁ = q} {m₁ = row_size k} {n₂ = most_states} {m₂ = row_size most_tags} (omega (arith, v.states_most)) (omega (arith, few)))

  -- ---- the way

  module _ (ns : List ℕ) (rows : RowsIn ns k rested 1 t) where
    onward : (q : ℕ) → q < length t → (w : List ℕ) → Below k w → way ns k (row_at k q) w ≡ result (puts (shape t) q w) → (x : ℕ) → x ≡ next_at k rested q
        → elim (eqb x resting) [ true ↦ result w | false ↦ way ns k x w ] ≡ result (puts (shape t) q w)
    onward q h w b walks x is = by (eqb q rested) refl is
      where
        by : (r : Bool) → eqb q rested ≡ r → x ≡ elim r [ true ↦ resting | false ↦ row_at k q ]
            → elim (eqb x resting) [ true ↦ result w | false ↦ way ns k x w ] ≡ result (puts (shape t) q w)
        by true e i = rw (eq-eqb x resting i) (ap result (sym (rests-puts q h (first-rests (length t) 0 q (eqb-true q rested e) (omega (arith, h))) w b)))
        by false e i = rw (ne_eqb x resting (λ z. row-place q h (sym i ∙ z)), i) walks

    pub way-puts : (w : List ℕ) → Below k w → (q : ℕ) → q < length t → way ns k (row_at k q) w ≡ result (puts (shape t) q w)
    way-puts [] b q h =
        let r = row_in ns k rested t 1 q h rows in
        rw (le-leb (row_at k q + row_size k) (length ns) r.inside) r.final
    way-puts (a ∷ w) b q h =
        let p = row_at k q in
        let r = row_in ns k rested t 1 q h rows in
        let s = step_in_lem ns k rested (row t q).steps (p + 2) a (omega (arith, b.0, v.whole q h)) r.steps in
        let e : p + 2 + 2 * a ≡ p + 2 * a + 2 = omega arith in
        let f : p + 2 + 2 * a + 1 ≡ p + 2 * a + 3 = omega arith in
        let next : get_or ns (p + 2 * a + 2) 0 ≡ next_at k rested (step t q a).next = ap (λ (i : ℕ). get_or ns i 0) (sym e) ∙ s.0 in
        let word : word_of ns (get_or ns (p + 2 * a + 3) 0) ≡ result (step t q a).output = ap (λ (i : ℕ). word_of ns (get_or ns i 0)) (sym f) ∙ s.1 in
        let below = v.next_below q a h b.0 in
        let rest = onward (step t q a).next below w b.1 (way-puts w b.1 (step t q a).next below) (get_or ns (p + 2 * a + 2) 0) next in
        rw (le-leb (p + row_size k) (length ns) r.inside, word, rest) refl

  -- ---- the words of a valid table can be noted

  wide : (w : List ℕ) → Below k w → Below 0x100 w
  wide w b = below_mono k 0x100 w (omega (arith, few)) b

  noted-steps : (ss : List Step) → ((a : ℕ) → a < length ss → Noted (get_or ss a no_step).output) → NotedSteps ss
  noted-steps [] all = tt
  noted-steps (s ∷ ss) all = (all 0 (omega arith), noted-steps ss (λ a h. all (suc a) (omega arith)))

  noted-rows : (rs : List Row) → ((q : ℕ) → q < length rs → Noted (get_or rs q no_row).final × NotedSteps (get_or rs q no_row).steps) → NotedRows rs
  noted-rows [] all = tt
  noted-rows (r ∷ rs) all = ((all 0 (omega arith)).0, (all 0 (omega arith)).1, noted-rows rs (λ q h. all (suc q) (omega arith)))

  noted : NotedRows t
  noted =
      noted-rows t λ q h. (
        record { small = wide (row t q).final (v.final_below q h); short = omega (arith, v.held q h, held-few lim ranged) },
        noted-steps (row t q).steps λ a ha.
            let lt : a < k = omega (arith, ha, v.whole q h) in
            record {
              small = wide (step t q a).output (v.output_below q a h lt);
              short = omega (arith, v.balanced q a h lt, v.held q h, held-few lim ranged);
            },
      )

  pub walks : (tail w : List ℕ) → Below k w → way (numbers k t ++ tail) k 1 w ≡ result (puts (shape t) 0 w)
  walks tail w b =
      let z : row_at k 0 ≡ 1 = omega arith in
      subst (λ (p : ℕ). way (numbers k t ++ tail) k p w ≡ result (puts (shape t) 0 w)) z
      (way-puts (numbers k t ++ tail) (numbers-rows k t tail v.whole noted) w b 0 v.states_least)

  -- ---- the run

  then_same : {A : Type 0} (o : Outcome (Unit {0})) (x y : Outcome A) → (o ≡ result tt → x ≡ y) → and_then o (λ u. x) ≡ and_then o (λ u. y)
  then_same (result u) x y h = h refl
  then_same (refused n p) x y h = refl

  admitted-tags : (s : List ℕ) (a b : Bool) → ◌≡◌ {A = Outcome (Unit {0})} (provided 13 a (provided 4 b (result tt))) (result tt) → b ≡ true
  admitted-tags s true true e = refl
  admitted-tags s true false e = let z : ◌≡◌ {A = ℕ} 0 1 = cc in absurd (omega arith)
  admitted-tags s false b e = let z : ◌≡◌ {A = ℕ} 0 1 = cc in absurd (omega arith)

  sound-made : (s : List ℕ) → Below k s → sound k s (puts (shape t) 0 s) ≡ result (puts (shape t) 0 s)
  sound-made s b =
      rw (eq-eqb (length (puts (shape t) 0 s)) (length s) (run_length k t v s b), lt-ltb (highest (puts (shape t) 0 s)) k (below-highest k (puts (shape t) 0 s) (omega (arith, v.tags_least)) (run-below k t v s b)))
      refl

  -- what is written for a table, with anything behind it, runs as that table
  pub loaded_runs : (tail s : List ℕ) (room : ℕ) → loaded_run lim (numbers k t ++ tail) s room ≡ run k s room (puts (shape t) 0 s)
  loaded_runs tail s room =
      within-is lim _ ranged
      ∙ rw (le-leb fewest_tags k v.tags_least, le-leb k lim.tags v.tags_most)
      (then_same (admitted k s) _ _ λ e.
      let b = highest-below k s (ltb-true (highest s) k (admitted-tags s (leb (length s) longest_sentence) (ltb (highest s) k) e)) in
      ap (provided 11 (leb (length s) room)) (ap (λ (o : Outcome (List ℕ)). and_then o (sound k s)) (walks tail s b) ∙ sound-made s b))
