-- The run of a sentence: one more tag, for the loops that go through it; the cases of its refusals; how runs end.
use Prim.Native.Nat.{ℕ, suc, ◌+◌, ◌<◌, ◌≤◌, max}
use native.Mathlib.Numerals.{add-one}
use native.Mathlib.Omega.{arith}
use mathlib.Core.Path.{◌≡◌, refl, sym, ap, ◌∙◌}
use mathlib.Core.Bool.{Bool, true, false}
use mathlib.Core.List.{List, [], ◌∷◌}
use borrow.Author.Tests.{eq-eqb, ne_eqb, le-leb, lt-leb, lt-ltb, le-ltb, leb-true, ltb-true}
use lib.Dec.{leb, ltb}
use lib.ListN.{length, drop, get_or}
use lib.Seq.{drop-cons}
use Rattle.words.specs.Word.{Below, differences}
use Rattle.limits.specs.Limits.{longest_sentence}
use Rattle.answers.specs.Outcome.{Outcome, result, refused, nothing, and_then, provided}
use Rattle.answers.specs.Answer.{refusal, outcome_of}
use Rattle.answers.specs.declared.Refusal.{Refusal}
use Rattle.answers.specs.declared.Refusal.TheVariants.{AtByte, AtRule, Bare}
use Rattle.std.specs.Prelude.{Result, Ok, Err}
use Rattle.answers.proofs.Outcome.{refusal_then}
use Rattle.sentences.specs.Run.{highest, admitted, run, Accepted, Ran}
use Rattle.sentences.specs.Admission.{admission}
use Rattle.sentences.specs.Parts.{Wrote}

pub highest-next : (s : List ℕ) (i : ℕ) → i < length s → highest (drop i s) ≡ max (get_or s i 0) (highest (drop (i + 1) s))
highest-next s i h = rw (add-one, drop-cons s i 0)

same_cons : (a b : ℕ) (v w : List ℕ) → a ≡ b → differences (a ∷ v) (b ∷ w) ≡ differences v w
same_cons a b v w e = cc (eq-eqb a b e)

other_cons : (a b : ℕ) (v w : List ℕ) → (a ≡ b → ⊥) → differences (a ∷ v) (b ∷ w) ≡ suc (differences v w)
other_cons a b v w e = cc (ne_eqb a b e)

module _ (s t : List ℕ) (i : ℕ) (h : i < length s) (k : i < length t) where
  pub same_next : get_or s i 0 ≡ get_or t i 0 → differences (drop i s) (drop i t) ≡ differences (drop (i + 1) s) (drop (i + 1) t)
  same_next e = rw (add-one i, drop-cons s i 0 h, drop-cons t i 0 k) (same_cons (get_or s i 0) (get_or t i 0) (drop (suc i) s) (drop (suc i) t) e)

  pub other-next : (get_or s i 0 ≡ get_or t i 0 → ⊥) → differences (drop i s) (drop i t) ≡ suc (differences (drop (i + 1) s) (drop (i + 1) t))
  other-next e = rw (add-one i, drop-cons s i 0 h, drop-cons t i 0 k) (other_cons (get_or s i 0) (get_or t i 0) (drop (suc i) s) (drop (suc i) t) e)

-- the cases of `admitted` and of `run`, in the order in which they are tested
module _ (k : ℕ) (s : List ℕ) where
  pub admitted-long : longest_sentence < length s → refused 13 nothing ≡ admitted k s
  admitted-long h = cc (lt-leb (length s) longest_sentence h)

  pub admitted-tag : length s ≤ longest_sentence → k ≤ highest s → refused 4 nothing ≡ admitted k s
  admitted-tag h t = cc (le-leb (length s) longest_sentence h, le-ltb (highest s) k t)

  pub admitted-all : length s ≤ longest_sentence → highest s < k → result tt ≡ admitted k s
  admitted-all h t = cc (le-leb (length s) longest_sentence h, lt-ltb (highest s) k t)

module _ (k : ℕ) (s : List ℕ) (room : ℕ) (made : List ℕ) where
  pub run-refused : (r : Result (Unit {0}) Refusal) (x : Refusal) → r ≡ Err x → outcome_of r ≡ admitted k s → admission r made ≡ run k s room made
  run-refused r x e a =
      ap (λ (y : Result (Unit {0}) Refusal). admission y made) e
      ∙ sym (refusal_then x (λ (u : Unit {0}). provided 11 (leb (length s) room) (result made)))
      ∙ ap (λ (o : Outcome (Unit {0})). and_then o (λ u. provided 11 (leb (length s) room) (result made))) (sym (ap outcome_of e) ∙ a)

  pub run_room : admitted k s ≡ result tt → room < length s → refused 11 nothing ≡ run k s room made
  run_room e r = cc (e, lt-leb (length s) room r)

  pub run-made : admitted k s ≡ result tt → length s ≤ room → result made ≡ run k s room made
  run-made e r = cc (e, le-leb (length s) room r)

-- a sentence's highest tag is below k exactly if all its tags are
pub highest-below : (k : ℕ) (w : List ℕ) → highest w < k → Below k w
highest-below k [] h = tt
highest-below k (a ∷ w) h = (omega arith, highest-below k w (omega arith))

pub below-highest : (k : ℕ) (w : List ℕ) → 0 < k → Below k w → highest w < k
below-highest k [] h b = h
below-highest k (a ∷ w) h b = omega (arith, b.0, below-highest k w h b.1)

-- the outcomes of a run: 13, 4, 11, or what is made of a sentence that is not refused
pub data RunEnds (k : ℕ) (s : List ℕ) (room : ℕ) (made : List ℕ) : Outcome (List ℕ) → Type 0 where
  too_long : RunEnds k s room made (refused 13 nothing)
  high-tag : RunEnds k s room made (refused 4 nothing)
  no_room : RunEnds k s room made (refused 11 nothing)
  made_of : Accepted k s room → RunEnds k s room made (result made)

module _ (k : ℕ) (s : List ℕ) (room : ℕ) (made : List ℕ) where
  pub run_ends : RunEnds k s room made (run k s room made)
  run_ends = by (leb (length s) longest_sentence) (ltb (highest s) k) (leb (length s) room) refl refl refl
    where
      by : (a b c : Bool) → leb (length s) longest_sentence ≡ a → ltb (highest s) k ≡ b → leb (length s) room ≡ c
          → RunEnds k s room made (and_then {A = Unit {0}} (provided 13 a (provided 4 b (result (tt {0})))) (λ x. provided 11 c (result made)))
      by true true true f g h =
          made_of
          (record {
            short = leb-true (length s) longest_sentence f;
            below = highest-below k s (ltb-true (highest s) k g);
            fits = leb-true (length s) room h;
          })
      by true true false f g h = no_room
      by true false c f g h = high-tag
      by false b c f g h = too_long

  -- a run gives its result exactly if no refusal of a sentence fits
  pub run-accepts : (w : List ℕ) → run k s room made ≡ result w → Accepted k s room × (w ≡ made)
  run-accepts w = by run_ends
    where
      by : {o : Outcome (List ℕ)} → RunEnds k s room made o → o ≡ result w → Accepted k s room × (w ≡ made)
      by (made_of a) e = (a, cc)
      by too_long e = let z : ◌≡◌ {A = ℕ} 0 1 = cc in absurd (omega arith)
      by high-tag e = let z : ◌≡◌ {A = ℕ} 0 1 = cc in absurd (omega arith)
      by no_room e = let z : ◌≡◌ {A = ℕ} 0 1 = cc in absurd (omega arith)

  pub accepted-run : 0 < k → Accepted k s room → run k s room made ≡ result made
  accepted-run h a = sym (run-made k s room made (sym (admitted-all k s a.short (below-highest k s h a.below))) a.fits)

  -- what is made matters only for a sentence of tags below k
  pub run-same : (made' : List ℕ) → (Below k s → made ≡ made') → run k s room made ≡ run k s room made'
  run-same made' e = by (leb (length s) longest_sentence) (ltb (highest s) k) refl refl
    where
      by : (a b : Bool) → leb (length s) longest_sentence ≡ a → ltb (highest s) k ≡ b → run k s room made ≡ run k s room made'
      by true true f g = ap (run k s room) (e (highest-below k s (ltb-true (highest s) k g)))
      by true false f g = cc
      by false b f g = cc

-- ---- how runs end

module _ (outcome : Outcome (List ℕ)) (sentence out : List ℕ) where
  pub ran-refused : (x : Refusal) → refusal x ≡ outcome → Ran outcome sentence out out (Err x)
  ran-refused (AtByte n i) e = record { answered = cc; wrote = cc }
  ran-refused (AtRule n i) e = record { answered = cc; wrote = cc }
  ran-refused (Bare n) e = record { answered = cc; wrote = cc }

  pub ran-changed : (made after : List ℕ) (n : ℕ) → result made ≡ outcome → Wrote made sentence out after n → Ran outcome sentence out after (Ok n)
  ran-changed made after n e w = record { answered = cc w.counted; wrote = cc w.front }
