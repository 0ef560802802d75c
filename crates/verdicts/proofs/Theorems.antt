-- What the number of a check tells a host.
use Prim.Native.Nat.{ℕ, ◌*◌, ◌%◌}
use native.Mathlib.Omega.{arith}
use mathlib.Core.Path.{◌≡◌}
use mathlib.Core.Logic.{◌↔◌}
use mathlib.Core.List.{List}
use Rattle.std.specs.Prelude.{Option, Some, None, Result, Ok, Err}
use Rattle.answers.specs.Outcome.{Outcome, result}
use Rattle.answers.specs.declared.Refusal.{Refusal}
use Rattle.packing.specs.Packed.{packed}
use Rattle.checking.specs.Check.{Pair, Alike, Shown, Answers, check_outcome}
use Rattle.checking.proofs.Theorems.{said_yes, said_no, no_differs, no_refusal}
use Rattle.verdicts.specs.Numbered.{Numbered}

-- "a refused call writes no byte of an output slice"
pub check_refused_nothing : (o : Outcome Pair) (before after : List ℕ) (number : ℕ) → Numbered o before after number → (number % 256 ≡ 0 → ⊥) → after ≡ before
check_refused_nothing o before after number h d = by h.answer h.number_is h.answers
  where
    by : (a : Result (Option ℕ) Refusal) → number ≡ packed (check_outcome a) → Answers o before after a → after ≡ before
    by (Ok None) i s = absurd (d (omega (arith, i)))
    by (Ok (Some n)) i s = absurd (d (omega (arith, i)))
    by (Err r) i s = s.1

-- where nothing is refused, 0 is given exactly if both make the same of every sentence, and any other number is the length of a sentence that is shown, times 256
module _ (o : Outcome Pair) (before after : List ℕ) (number : ℕ) (h : Numbered o before after number) (p : Pair) (e : o ≡ result p) where
  pub zero_exactly : (number ≡ 0) ↔ Alike p
  zero_exactly = by h.answer h.number_is h.answers
    where
      by : (a : Result (Option ℕ) Refusal) → number ≡ packed (check_outcome a) → Answers o before after a → (number ≡ 0) ↔ Alike p
      by (Ok None) i s = (λ z. said_yes o before after p e s, λ alike. i)
      by (Ok (Some n)) i s =
          let shown = said_no o before after p e n s in
          (λ z. absurd (omega (arith, i, shown.some)), λ alike. absurd (no_differs o before after p e n shown alike))
      by (Err r) i s = (λ z. absurd (no_refusal o p r e s.0), λ alike. absurd (no_refusal o p r e s.0))

  pub other_shows : (number ≡ 0 → ⊥) → (n : ℕ) × (number ≡ n * 256) × Shown p n before after
  other_shows d = by h.answer h.number_is h.answers
    where
      by : (a : Result (Option ℕ) Refusal) → number ≡ packed (check_outcome a) → Answers o before after a → (n : ℕ) × (number ≡ n * 256) × Shown p n before after
      by (Ok None) i s = absurd (d i)
      by (Ok (Some n)) i s = (n, omega (arith, i), said_no o before after p e n s)
      by (Err r) i s = absurd (no_refusal o p r e s.0)
