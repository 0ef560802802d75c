-- What the answer and the output slice tell of the outcome.
use Prim.Native.Nat.{ℕ}
use native.Mathlib.Omega.{arith}
use mathlib.Core.Path.{◌≡◌, refl, sym, ap, ◌∙◌}
use mathlib.Core.List.{List, ◌++◌}
use lib.ListN.{length, take, drop}
use lib.Seq.{take_at}
use Rattle.answers.specs.Outcome.{Outcome, result, refused, rule}
use Rattle.answers.specs.Slice.{long_of, written}
use Rattle.answers.specs.Answer.{refusal, Filled}
use Rattle.answers.specs.declared.Refusal.{Refusal}
use Rattle.answers.specs.declared.Refusal.TheVariants.{AtByte, AtRule, Bare}
use Rattle.std.specs.Prelude.{Ok, Err}

-- without a result the slice keeps what it holds
pub refused_keeps : (o : Outcome (List ℕ)) (before : List ℕ) → ((made : List ℕ) → o ≡ result made → ⊥) → written o before ≡ before
refused_keeps (result made) before h = absurd (h made refl)
refused_keeps (refused n p) before h = refl

-- a result stands at the front of the output slice
pub front-result : (s : ℕ) (before after : List ℕ) (o : Outcome (List ℕ)) → result s ≡ long_of o → after ≡ written o before → o ≡ result (take s after)
front-result s before after (result bytes) e w =
    let long : length bytes ≡ s = cc in
    ap result (sym (ap (take s) w ∙ take_at bytes (drop (length bytes) before) s long))
front-result s before after (refused j p) e w = let z : ◌≡◌ {A = ℕ} 0 1 = cc in absurd (omega arith)

pub long-rule : (j i : ℕ) (o : Outcome (List ℕ)) → refused j (rule i) ≡ long_of o → o ≡ refused j (rule i)
long-rule j i (result bytes) e = let z : ◌≡◌ {A = ℕ} 0 1 = cc in absurd (omega arith)
long-rule j i (refused k p) e = cc

-- how calls end that write to their output slice
pub filled-refused : (o : Outcome (List ℕ)) (out : List ℕ) (r : Refusal) → o ≡ refusal r → Filled o out out (Err r)
filled-refused o out (AtByte n i) e = record { answered = cc; wrote = cc }
filled-refused o out (AtRule n i) e = record { answered = cc; wrote = cc }
filled-refused o out (Bare n) e = record { answered = cc; wrote = cc }

pub filled-written : (o : Outcome (List ℕ)) (w out out' : List ℕ) (n : ℕ) → o ≡ result w → n ≡ length w → out' ≡ w ++ drop (length w) out
    → Filled o out out' (Ok n)
filled-written o w out out' n e long all = record { answered = cc; wrote = cc }
