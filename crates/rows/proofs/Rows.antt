-- Steps and rows one after the other: what is left to write makes up the whole.
use Prim.Native.Nat.{ℕ, suc, ◌+◌, ◌*◌, ◌≤◌, ◌<◌}
use native.Mathlib.Omega.{arith}
use mathlib.Core.Path.{◌≡◌, sym, ap, ap₂, ◌∙◌}
use mathlib.Core.List.{List, ◌∷◌, ◌++◌}
use lib.ListN.{length, drop, get_or, set, length-append}
use lib.Seq.{sets}
use Rattle.words.proofs.Word.{drop-step}
use Rattle.words.proofs.Regions.{sets_more, set-sets}
use Rattle.transducers.specs.Table.{Step, no_step}
use Rattle.loaded.specs.Numbers.{entry, behind, next_at, step_numbers, steps_behind}
use Rattle.entries.specs.State.{Base}
use Rattle.rows.specs.Parts.{StepsHere, StepsWritten, RowHere, RowWritten}

-- ---- steps

pub record StepsGoing (ss : List Step) (k rested place₀ p : ℕ) (b₀ b : List ℕ) (a place : ℕ) : Type 0 where
  pub later : place₀ ≤ place
  pub place_is : place + length (steps_behind (drop a ss)) ≡ place₀ + length (steps_behind ss)
  pub wrote : (rest : ℕ) → Base k rest rested
      → sets (sets b₀ place₀ (steps_behind ss)) p (step_numbers k rest place₀ ss) ≡ sets (sets b place (steps_behind (drop a ss))) (p + 2 * a) (step_numbers k rest place (drop a ss))

module _ (ss : List Step) (k rested place₀ p : ℕ) (b₀ : List ℕ) where
  module _ (b : List ℕ) (a place : ℕ) (g : StepsGoing ss k rested place₀ p b₀ b a place) where
    module _ (h : a < length ss) where
      abbrev s : Step
      s = get_or ss a no_step

      split : drop a ss ≡ s ∷ drop (a + 1) ss
      split = drop-step ss a no_step h

      pub places-left : place + length (behind s.output) ≤ place₀ + length (steps_behind ss)
      places-left =
          omega (arith, g.place_is, ap (λ (l : List Step). length (steps_behind l)) split, length-append (behind s.output) (steps_behind (drop (a + 1) ss)))

      pub steps_next : (b' : List ℕ) (m : ℕ) → p + 2 * a + 1 < place
          → ((rest : ℕ) → Base k rest rested
          → b' ≡ sets (set (set b (p + 2 * a) (next_at k rest s.next)) (p + 2 * a + 1) (entry place s.output)) place (behind s.output))
          → m ≡ length (behind s.output) → StepsGoing ss k rested place₀ p b₀ b' (a + 1) (place + m)
      steps_next b' m apart is size =
          record {
            later = omega (arith, g.later);
            place_is =
                omega (
                  arith,
                  size,
                  g.place_is,
                  ap (λ (l : List Step). length (steps_behind l)) split,
                  length-append (behind s.output) (steps_behind (drop (a + 1) ss)),
                );
            wrote = λ rest r.
                let i : ℕ = p + 2 * a in
                let x = next_at k rest s.next in
                let y = entry place s.output in
                let w = behind s.output in
                let ws = steps_behind (drop (a + 1) ss) in
                let more = step_numbers k rest (place + length w) (drop (a + 1) ss) in
                let one : suc i ≡ i + 1 = omega arith in
                let two : suc (suc i) ≡ p + 2 * (a + 1) = omega arith in
                let both : set (set (sets b place (w ++ ws)) i x) (i + 1) y ≡ sets b' (place + length w) ws =
                ap (λ (l : List ℕ). set l (i + 1) y) (set-sets b i x place (w ++ ws) (omega (arith, apart)))
                ∙ set-sets (set b i x) (i + 1) y place (w ++ ws) apart
                ∙ sets_more (set (set b i x) (i + 1) y) place w ws
                ∙ ap (λ (l : List ℕ). sets l (place + length w) ws) (sym (is rest r)) in
                g.wrote rest r ∙ ap (λ (l : List Step). sets (sets b place (steps_behind l)) i (step_numbers k rest place l)) split
                ∙ ap (λ (j : ℕ). sets (set (set (sets b place (w ++ ws)) i x) j y) (suc (suc i)) more) one
                ∙ ap₂ (λ (l : List ℕ) (j : ℕ). sets l j more) both two
                ∙ ap (λ (z : ℕ). sets (sets b' (place + z) ws) (p + 2 * (a + 1)) (step_numbers k rest (place + z) (drop (a + 1) ss))) (sym size);
          }

-- ---- a row

module _ (bs ix : List ℕ) (k cell place room : ℕ) (x : RowHere bs ix k cell place room) where
  abbrev final : List ℕ
  final = x.row.final

  -- its steps, after the final word
  abbrev pub row-steps : (m room' : ℕ) → m ≡ length (behind final) → room' ≡ room → StepsHere bs ix k cell (place + m) room'
  row-steps m room' size same =
      record {
        steps = x.row.steps;
        whole = x.whole;
        few_tags = x.few_tags;
        few_states = x.few_states;
        short = x.short;
        is = x.is;
        entries = x.entries;
        places = omega (arith, size, x.places, length-append (behind final) (steps_behind x.row.steps));
        fits = omega (arith, size, same, x.fits, length-append (behind final) (steps_behind x.row.steps));
      }

  pub row_written : (rested m e p r : ℕ) (b b' : List ℕ) → m ≡ length (behind final) → e ≡ entry place final → p + 2 ≤ place
      → StepsWritten x.row.steps k rested (place + m) (sets (set (set b p e) (p + 1) 0) place (behind final)) b' (p + 2) r → RowWritten x.row k rested place b b' p r
  row_written rested m e p r b b' size word apart w =
      let ws = steps_behind x.row.steps in
      let one : p + 1 ≡ suc p = omega arith in
      let two : p + 2 ≡ suc (suc p) = omega arith in
      let at : place + m ≡ place + length (behind final) = omega (arith, size) in
      let all : sets (sets (set (set b p e) (p + 1) 0) place (behind final)) (place + m) ws ≡ set (set (sets b place (behind final ++ ws)) p e) (p + 1) 0 =
      ap (λ (i : ℕ). sets (sets (set (set b p e) (p + 1) 0) place (behind final)) i ws) at
      ∙ sym (sets_more (set (set b p e) (p + 1) 0) place (behind final) ws)
      ∙ sym (set-sets (set b p e) (p + 1) 0 place (behind final ++ ws) (omega (arith, apart)))
      ∙ ap (λ (l : List ℕ). set l (p + 1) 0) (sym (set-sets b p e place (behind final ++ ws) (omega (arith, apart)))) in
      record {
        place_is = omega (arith, w.place_is, size, length-append (behind final) ws);
        wrote = λ rest t.
            w.wrote rest t
            ∙ ap (λ (l : List ℕ). sets l (p + 2) (step_numbers k rest (place + m) x.row.steps)) all
            ∙ ap₂ (λ (y z : ℕ). sets (set (set (sets b place (behind final ++ ws)) p y) (p + 1) 0) (p + 2) (step_numbers k rest z x.row.steps)) word at
            ∙ ap₂ (λ (i j : ℕ). sets (set (set (sets b place (behind final ++ ws)) p (entry place final)) i 0) j (step_numbers k rest (place + length (behind final)) x.row.steps)) one two;
      }
