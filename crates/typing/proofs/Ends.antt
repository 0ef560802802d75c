-- How a give ends, and a look or a close, over a well-formed table: the cases in the order of their refusals.
use Prim.Native.Nat.{ℕ, ◌<◌, ◌≤◌}
use mathlib.Core.Path.{◌≡◌, refl}
use mathlib.Core.Bool.{Bool, true, false, not}
use mathlib.Core.List.{List}
use borrow.Author.Tests.{ltb-true, ltb-false, leb-false}
use lib.Dec.{leb, ltb}
use lib.ListN.{length}
use Rattle.limits.specs.Limits.{longest_sentence}
use Rattle.limits.specs.declared.Limits.{Limits}
use Rattle.answers.specs.Outcome.{Outcome, result, refused, nothing, and_then, provided}
use Rattle.transducers.specs.Table.{Step, row, step}
use Rattle.tables.specs.Decode.{Decoded, decode_within}
use Rattle.typing.specs.Typing.{stepped, held}
use Rattle.typing.specs.declared.Sentence.{Sentence}
use Rattle.typing.proofs.Stands.{Taken}

pub data GiveEnds (d : Decoded) (s : Sentence) (a room : ℕ) : Outcome Step → Type 0 where
  was_closed : GiveEnds d s a room (refused 15 nothing)
  no_state : length d.table ≤ s.state → GiveEnds d s a room (refused 16 nothing)
  too_many : longest_sentence ≤ s.given → GiveEnds d s a room (refused 13 nothing)
  no_tag : d.tags ≤ a → GiveEnds d s a room (refused 4 nothing)
  no_room :
      Taken s (length d.table) d.tags a
      → room < length (step d.table s.state a).output
      → GiveEnds d s a room (refused 11 nothing)
  gave : Taken s (length d.table) d.tags a → GiveEnds d s a room (result (step d.table s.state a))

pub data HoldEnds (d : Decoded) (s : Sentence) (room : ℕ) : Outcome (List ℕ) → Type 0 where
  was_closed : HoldEnds d s room (refused 15 nothing)
  no_state : length d.table ≤ s.state → HoldEnds d s room (refused 16 nothing)
  no_room : s.state < length d.table → room < length (row d.table s.state).final → HoldEnds d s room (refused 11 nothing)
  held_out : s.closed ≡ false → s.state < length d.table → HoldEnds d s room (result (row d.table s.state).final)

module _ (lim : Limits) (table : List ℕ) (d : Decoded) (decodes : decode_within lim table ≡ result d) (s : Sentence) where
  abbrev n : ℕ
  n = length d.table

  abbrev v : ℕ → Step
  v a = step d.table s.state a

  abbrev w : List ℕ
  w = (row d.table s.state).final

  pub give-ends : (a room : ℕ) → GiveEnds d s a room (stepped lim table s a room)
  give-ends a room =
      rw decodes
      (by s.closed (ltb s.state n) (ltb s.given longest_sentence) (ltb a d.tags) (leb (length (v a).output) room) refl refl refl refl refl)
    where
      by : (b c e f g : Bool) → s.closed ≡ b → ltb s.state n ≡ c → ltb s.given longest_sentence ≡ e → ltb a d.tags ≡ f → leb (length (v a).output) room ≡ g
          → GiveEnds d s a room
          (and_then {A = Unit {0}}
          (and_then {A = Unit {0}} (provided 15 (not b) (provided 16 c (result (tt {0})))) (λ x. provided 13 e (provided 4 f (result (tt {0})))))
          (λ x. provided 11 g (result (v a))))
      by true c e f g p q r t u = was_closed
      by false false e f g p q r t u = no_state (ltb-false s.state n q)
      by false true false f g p q r t u = too_many (ltb-false s.given longest_sentence r)
      by false true true false g p q r t u = no_tag (ltb-false a d.tags t)
      by false true true true false p q r t u =
          no_room
          (record {
            still_open = p;
            inside = ltb-true s.state n q;
            short = ltb-true s.given longest_sentence r;
            below = ltb-true a d.tags t;
          })
          (leb-false (length (v a).output) room u)
      by false true true true true p q r t u =
          gave
          (record {
            still_open = p;
            inside = ltb-true s.state n q;
            short = ltb-true s.given longest_sentence r;
            below = ltb-true a d.tags t;
          })

  pub hold_ends : (room : ℕ) → HoldEnds d s room (held lim table s room)
  hold_ends room = rw decodes (by s.closed (ltb s.state n) (leb (length w) room) refl refl refl)
    where
      by : (b c g : Bool) → s.closed ≡ b → ltb s.state n ≡ c → leb (length w) room ≡ g
          → HoldEnds d s room (and_then {A = Unit {0}} (provided 15 (not b) (provided 16 c (result (tt {0})))) (λ x. provided 11 g (result w)))
      by true c g p q u = was_closed
      by false false g p q u = no_state (ltb-false s.state n q)
      by false true false p q u = no_room (ltb-true s.state n q) (leb-false (length w) room u)
      by false true true p q u = held_out p (ltb-true s.state n q)
