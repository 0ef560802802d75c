-- Typing with the sentence still open (document 02, W2). An open sentence is the table's state, the number of tags given and whether
-- it is closed; any values may stand in it.
use Rattle.std.specs.Prelude.{ℕ, ◌+◌, ◌≡◌, true, false, not, List, leb, ltb, length}
use Rattle.limits.specs.Limits.{longest_sentence}
use Rattle.limits.specs.declared.Limits.{Limits}
use Rattle.answers.specs.Outcome.{Outcome, result, refused, and_then, provided}
use Rattle.answers.specs.Slice.{fitting}
use Rattle.answers.specs.Answer.{Filled}
use Rattle.transducers.specs.Table.{Step, row, step}
use Rattle.tables.specs.Decode.{decode_within}
use Rattle.typing.specs.declared.Sentence.{Sentence}
use Rattle.typing.specs.declared.Typed.{Typed}

-- "It opens a sentence over a table": in state 0, where a table starts, and with no tag given. "Opening can give 12", and 17 before it
abbrev pub opened : Limits → List ℕ → Outcome Sentence
opened lim table = and_then (decode_within lim table) (λ d. result (record { state = 0; given = 0; closed = false }))

-- "15: the sentence is closed; 16: its state isn't below S; [..] 15 first"
abbrev pub standing : Sentence → ℕ → Outcome (Unit {0})
standing s states = provided 15 (not s.closed) (provided 16 (ltb s.state states) (result tt))

-- a step then tests "13 where 65,535 tags or more have been given", and 4
abbrev pub admits : Sentence → ℕ → ℕ → ℕ → Outcome (Unit {0})
admits s k states a =
    and_then (standing s states) (λ x. provided 13 (ltb s.given longest_sentence) (provided 4 (ltb a k) (result tt)))

-- the step of the state on a tag: 17 and 12 come first, and 11 last, if the output slice is shorter than what is put out
abbrev pub stepped : Limits → List ℕ → Sentence → ℕ → ℕ → Outcome Step
stepped lim table s a room =
    and_then (decode_within lim table)
    (λ d. and_then (admits s d.tags (length d.table) a)
    (λ x. provided 11 (leb (length (step d.table s.state a).output) room) (result (step d.table s.state a))))

-- "closes it for the held ones": the final word of the state, or 11
abbrev pub held : Limits → List ℕ → Sentence → ℕ → Outcome (List ℕ)
held lim table s room =
    and_then (decode_within lim table) (λ d. and_then (standing s (length d.table)) (λ x. fitting room (row d.table s.state).final))

-- what a call hands back: the sentence, and the tags put out or the refusal
pub record Handed : Type 0 where
  pub sentence : Sentence
  pub put : Outcome (List ℕ)

-- "gives one tag and gets the tags put out"; "A refused step, look or close hands back the sentence unchanged"
abbrev pub moved : Sentence → Outcome Step → Handed
moved s (result v) =
    record { sentence = record { state = v.next; given = s.given + 1; closed = s.closed }; put = result v.output }
moved s (refused n p) = record { sentence = s; put = refused n p }

abbrev pub give : Limits → List ℕ → Sentence → ℕ → ℕ → Handed
give lim table s a room = moved s (stepped lim table s a room)

-- "may look at what closing now would give, and typing goes on as if it hadn't looked"
abbrev pub look : Limits → List ℕ → Sentence → ℕ → Handed
look lim table s room = record { sentence = s; put = held lim table s room }

abbrev pub shut : Sentence → Outcome (List ℕ) → Handed
shut s (result w) = record { sentence = record { state = s.state; given = s.given; closed = true }; put = result w }
shut s (refused n p) = record { sentence = s; put = refused n p }

abbrev pub close : Limits → List ℕ → Sentence → ℕ → Handed
close lim table s room = shut s (held lim table s room)

-- a call has ended: it hands the sentence back beside its answer, the number of tags put out or the refusal, and the output slice holds the
-- tags or its old bytes
pub record Hands (handed : Handed) (before after : List ℕ) (r : Typed) : Type 0 where
  pub sentence : r.sentence ≡ handed.sentence
  pub filled : Filled handed.put before after r.answer
