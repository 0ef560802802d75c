-- An open sentence as three numbers, for C.
use Rattle.std.specs.Prelude.{ℕ, ◌≡◌, Bool, true, false, not, List, eqb}
use Rattle.answers.specs.Outcome.{Outcome, result, refused, and_then}
use Rattle.answers.specs.Slice.{long_of, written}
use Rattle.packing.specs.Packed.{packed}
use Rattle.typing.specs.Typing.{Handed}
use Rattle.typing.specs.declared.Sentence.{Sentence}

pub record Numbers : Type 0 where
  pub state : ℕ
  pub given : ℕ
  pub closed : ℕ

-- 0 is open, any other number closed
abbrev pub sentence_of : Numbers → Sentence
sentence_of n = record { state = n.state; given = n.given; closed = not (eqb n.closed 0) }

-- written 0 or 1
abbrev pub flag : Bool → ℕ
flag false = 0
flag true = 1

abbrev pub numbers_of : Sentence → Numbers
numbers_of s = record { state = s.state; given = s.given; closed = flag s.closed }

-- the numbers at exit: those of the sentence that is handed back; on a refusal they keep what they were
abbrev pub handed_on : {A : Type 0} → Outcome A → Sentence → Numbers → Numbers
handed_on (result a) s n = numbers_of s
handed_on (refused j p) s n = n

-- of opening: nothing is put out
abbrev pub opened_as : Outcome Sentence → Outcome ℕ
opened_as o = and_then o (λ s. result 0)

abbrev pub opened_on : Outcome Sentence → Numbers → Numbers
opened_on (result s) n = numbers_of s
opened_on (refused j p) n = n

-- a call has ended that was to hand this back: its number, the output slice, and the three numbers
pub record TypeCall (h : Handed) (n n' : Numbers) (before after : List ℕ) (number : ℕ) : Type 0 where
  pub answered : number ≡ packed (long_of h.put)
  pub wrote : after ≡ written h.put before
  pub numbers : n' ≡ handed_on h.put h.sentence n
