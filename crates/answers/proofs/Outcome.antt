-- What has gone before, where there is a result: a test that was passed, a part that was read.
use Prim.Native.Nat.{ℕ}
use native.Mathlib.Omega.{arith}
use mathlib.Core.Path.{◌≡◌, refl}
use mathlib.Core.Bool.{Bool, true, false}
use Rattle.answers.specs.Outcome.{Outcome, result, refused, and_then, provided}
use Rattle.answers.specs.Answer.{refusal}
use Rattle.answers.specs.declared.Refusal.{Refusal}
use Rattle.answers.specs.declared.Refusal.TheVariants.{AtByte, AtRule, Bare}

pub passed : {A : Type 0} (n : ℕ) (b : Bool) (o : Outcome A) (v : A) → provided n b o ≡ result v → (b ≡ true) × (o ≡ result v)
passed n true o v e = (refl, e)
passed n false o v e = let z : ◌≡◌ {A = ℕ} 0 1 = cc in absurd (omega arith)

pub same-result : {A : Type 0} (a b : A) → ◌≡◌ {A = Outcome A} (result a) (result b) → a ≡ b
same-result a b e = cc

pub record Went {A B : Type 0} (o : Outcome A) (f : A → Outcome B) (b : B) : Type 0 where
  pub first : A
  pub read : o ≡ result first
  pub then : f first ≡ result b

pub went : {A B : Type 0} (o : Outcome A) (f : A → Outcome B) (b : B) → and_then o f ≡ result b → Went o f b
went (result a) f b e = record { first = a; read = refl; then = e }
went (refused n p) f b e = let z : ◌≡◌ {A = ℕ} 0 1 = cc in absurd (omega arith)

-- a refusal stays
pub refusal_then : {A B : Type 0} (r : Refusal) (f : A → Outcome B) → and_then (refusal r) f ≡ refusal r
refusal_then (AtByte n i) f = refl
refusal_then (AtRule n i) f = refl
refusal_then (Bare n) f = refl

-- and is no result
pub refusal_never : {A : Type 0} (r : Refusal) (a : A) → refusal r ≡ result a → ⊥
refusal_never (AtByte n i) a e = let z : ◌≡◌ {A = ℕ} 0 1 = cc in omega arith
refusal_never (AtRule n i) a e = let z : ◌≡◌ {A = ℕ} 0 1 = cc in omega arith
refusal_never (Bare n) a e = let z : ◌≡◌ {A = ℕ} 0 1 = cc in omega arith
