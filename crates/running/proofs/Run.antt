-- The run of a book that has been read: the output slices, and the answer.
use Prim.Native.Nat.{ℕ, ◌≤◌, min}
use native.Mathlib.Omega.{arith}
use mathlib.Core.Path.{◌≡◌, sym, ap, ap₂, ◌∙◌}
use mathlib.Core.Bool.{Bool, true, false, not}
use mathlib.Core.List.{List, ◌++◌}
use lib.ListN.{length, take, drop}
use lib.Seq.{take-append_seam, drop-append_seam, take_at, length-take-le}
use Rattle.std.specs.Prelude.{Result, Ok, Err}
use Rattle.words.specs.Word.{differences}
use Rattle.answers.specs.Outcome.{Outcome, result, refused, nothing, and_then, provided}
use Rattle.answers.specs.Slice.{written}
use Rattle.answers.specs.Answer.{refusal}
use Rattle.answers.specs.declared.Refusal.{Refusal}
use Rattle.sentences.specs.Run.{run}
use Rattle.sentences.proofs.Run.{ran-refused}
use Rattle.sentences.specs.Parts.{Wrote}
use Rattle.sentences.specs.Admission.{admission}
use Rattle.cascades.specs.Rule.{Cascade, ending}
use Rattle.cascades.specs.Ending.{bad_end}
use Rattle.running.specs.Rules.{running}

-- ---- the output slice: o after the copy of the sentence w, and x what the rules leave of its front

module _ (w out o x : List ℕ) (copied : o ≡ w ++ drop (length w) out) where
  pub front-is : take (length w) o ≡ w
  front-is = rw copied (take-append_seam w (drop (length w) out))

  pub front_long : length w ≡ length (take (length w) o)
  front_long = ap length (sym front-is)

  module _ (long : length x ≡ length (take (length w) o)) where
    pub made-long : length w ≡ length (take (length w) (x ++ drop (length w) o))
    made-long = let e : length x ≡ length w = long ∙ sym front_long in rw (take_at x (drop (length w) o) (length w) e) (sym e)

    pub writes : (f : List ℕ → List ℕ) (n : ℕ) → x ≡ f (take (length w) o) → n ≡ differences w (take (length w) (x ++ drop (length w) o))
        → Wrote (f w) w out (x ++ drop (length w) o) n
    writes f n e c =
        let l : length x ≡ length w = long ∙ sym front_long in
        let m : x ≡ f w = e ∙ ap f front-is in
        let d : drop (length w) o ≡ drop (length w) out = rw copied (drop-append_seam w (drop (length w) out)) in
        record {
          counted = c ∙ ap (differences w) (take_at x (drop (length w) o) (length w) l ∙ m);
          front = cc (m, d, ap length m, l);
        }

  -- beside it, g's numbers, where v has as many places as the sentence has tags
  pub numbers-written : (v y : List ℕ) (n : ℕ) (g : List ℕ → List ℕ) → n ≡ min (length w) (length v) → (length (take n v) ≡ length (take (length w) o) → y ≡ g (take (length w) o))
      → length w ≤ length v → y ++ drop n v ≡ g w ++ drop (length w) v
  numbers-written v y n g lesser made h =
      let e : n ≡ length w = omega (arith, lesser, h) in
      let long : length (take n v) ≡ length (take (length w) o) = length-take-le n v (omega (arith, e, h)) ∙ e ∙ front_long in
      ap₂ (λ (z : List ℕ) (i : ℕ). z ++ drop i v) (made long ∙ ap g front-is) e

-- ---- the run, from what the tests of the end tag and of the sentence answer; f makes the result or the numbers

-- 14, or the run of the cascade with the end tag
module _ (f : Cascade → List ℕ → List ℕ) (e : ℕ) (c : Cascade) (s : List ℕ) (room : ℕ) (b : Bool) (is : b ≡ bad_end (ending e c)) where
  abbrev told : Bool → Outcome (List ℕ)
  told x = and_then (provided 14 (not x) (result (ending e c))) (λ d. run d.tags s room (f d s))

  pub run_14 : b ≡ true → refused 14 nothing ≡ running f e c s room
  run_14 h = ap told (sym h ∙ is)

  pub run_fits : b ≡ false → run c.tags s room (f (ending e c) s) ≡ running f e c s room
  run_fits h = ap told (sym h ∙ is)

module _ (r : Result (Unit {0}) Refusal) (o : Outcome (List ℕ)) (made : List ℕ) (e : admission r made ≡ o) where
  pub run-refused : (x : Refusal) → r ≡ Err x → refusal x ≡ o
  run-refused x f = cc

  pub run-admitted : (u : Unit {0}) → r ≡ Ok u → result made ≡ o
  run-admitted u f = cc

-- the numbers' slice
pub numbers-kept : (outcome : Outcome (List ℕ)) (x : Refusal) (v : List ℕ) → refusal x ≡ outcome → v ≡ written outcome v
numbers-kept outcome x v e = (ran-refused outcome v v x e).wrote

pub numbers-put : (outcome : Outcome (List ℕ)) (made v y : List ℕ) (n : ℕ) → result made ≡ outcome → length made ≡ n → y ≡ made ++ drop n v → y ≡ written outcome v
numbers-put outcome made v y n e long is = is ∙ ap (λ (i : ℕ). made ++ drop i v) (sym long) ∙ ap (λ (o : Outcome (List ℕ)). written o v) e
