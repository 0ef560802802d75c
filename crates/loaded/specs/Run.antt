-- What any numbers make of a sentence. What the sentence's way meets is tested there, and nothing else is looked at.
use Rattle.std.specs.Prelude.{ℕ, ◌+◌, ◌*◌, ◌/◌, ◌%◌, true, false, ◌&&◌, List, [], ◌∷◌, ◌++◌, map, eqb, leb, ltb, length, take, drop, get_or, Result}
use Rattle.limits.specs.Limits.{fewest_tags}
use Rattle.limits.specs.Within.{within}
use Rattle.limits.specs.declared.Limits.{Limits}
use Rattle.answers.specs.Outcome.{Outcome, result, and_then, provided}
use Rattle.answers.specs.Slice.{fitting}
use Rattle.answers.specs.Answer.{Filled}
use Rattle.answers.specs.declared.Refusal.{Refusal}
use Rattle.sentences.specs.Run.{highest, admitted}
use Rattle.tables.specs.Decode.{decode_within}
use Rattle.loaded.specs.Numbers.{row_size, resting, numbers}

abbrev pub byte_of : ℕ → ℕ
byte_of n = n % 0x100

-- the three bytes above the lowest
abbrev pub above : ℕ → List ℕ
above e = byte_of (e / 0x100) ∷ byte_of (e / 0x10000) ∷ byte_of (e / 0x1000000) ∷ []

-- the word of an entry: its tags, or the tags at its place, if there are so many numbers
abbrev pub word_of : List ℕ → ℕ → Outcome (List ℕ)
word_of ns e =
    elim (leb (byte_of e) 3) [
      | true ↦ result (take (byte_of e) (above e))
      | false ↦ provided 12 (leb (e / 0x100 + byte_of e) (length ns)) (result (map byte_of (take (byte_of e) (drop (e / 0x100) ns))))
    ]

-- from the row at p, if there are so many numbers: the words on the sentence's way, joined
abbrev pub way : List ℕ → ℕ → ℕ → List ℕ → Outcome (List ℕ)
way ns k p [] = provided 12 (leb (p + row_size k) (length ns)) (word_of ns (get_or ns p 0))
way ns k p (a ∷ w) =
    provided 12 (leb (p + row_size k) (length ns))
    (and_then (word_of ns (get_or ns (p + 2 * a + 3) 0))
    (λ u. and_then (elim (eqb (get_or ns (p + 2 * a + 2) 0) resting) [ true ↦ result w | false ↦ way ns k (get_or ns (p + 2 * a + 2) 0) w ])
    (λ v. result (u ++ v))))

-- the result is as long as the sentence, and its tags are below k
abbrev pub sound : ℕ → List ℕ → List ℕ → Outcome (List ℕ)
sound k sentence made = provided 12 (eqb (length made) (length sentence)) (provided 12 (ltb (highest made) k) (result made))

-- 17, 12 for the head, then 13, 4 and 11, then 12 for the way
abbrev pub loaded_run : Limits → List ℕ → List ℕ → ℕ → Outcome (List ℕ)
loaded_run lim ns sentence room =
    let k = get_or ns 0 0 in
    within lim
    (provided 12 (leb fewest_tags k && leb k lim.tags)
    (and_then (admitted k sentence)
    (λ x. provided 11 (leb (length sentence) room) (and_then (way ns k 1 sentence) (sound k sentence)))))

-- what loading a table gives: its numbers, 17, 12, or 11 if the slice has not so many
abbrev pub load_answer : Limits → List ℕ → ℕ → Outcome (List ℕ)
load_answer lim bytes room = and_then (decode_within lim bytes) (λ d. fitting room (numbers d.tags d.table))

-- loading has ended: the answer, and the numbers at exit
abbrev pub LoadRan : Limits → List ℕ → List ℕ → List ℕ → Result ℕ Refusal → Type 0
LoadRan lim bytes before after answer = Filled (load_answer lim bytes (length before)) before after answer
