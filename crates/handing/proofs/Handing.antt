-- From the answers of typing to the numbers for C.
use Prim.Native.Nat.{ℕ}
use mathlib.Core.Path.{sym, subst}
use mathlib.Core.List.{List}
use Rattle.answers.specs.Slice.{long_of}
use Rattle.answers.specs.Answer.{outcome_of}
use Rattle.packing.specs.Packed.{Legible}
use Rattle.typing.specs.Typing.{Handed, Hands}
use Rattle.typing.specs.declared.Typed.{Typed}

-- what a call answers is legible if what it is to hand back is
module _ (h : Handed) (before after : List ℕ) (typed : Typed) (hands : Hands h before after typed) where
  pub legible_typed : Legible (long_of h.put) → Legible (outcome_of typed.answer)
  legible_typed l = subst Legible (sym hands.filled.answered) l
