-- "An answer carries either its result or a refusal that names the byte, the rule or nothing" (document 01).
use Rattle.std.specs.Prelude.{ℕ, Bool, true, false}

-- what a refusal names: nothing, a byte counted from 0, a rule counted from 1
pub data Place : Type 0 where
  nothing : Place
  byte : ℕ → Place
  rule : ℕ → Place

pub data Outcome (A : Type 0) : Type 0 where
  result : A → Outcome A
  refused : ℕ → Place → Outcome A

-- the result goes on to f, and a refusal stays
abbrev pub and_then : {A B : Type 0} → Outcome A → (A → Outcome B) → Outcome B
and_then (result a) f = f a
and_then (refused n p) f = refused n p

-- goes on if the test holds, and is refused with n, naming nothing, if it does not
abbrev pub provided : {A : Type 0} → ℕ → Bool → Outcome A → Outcome A
provided n true o = o
provided n false o = refused n nothing
