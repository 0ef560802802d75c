-- Any list of calls "over one table, from an opening on and with each call given the sentence that the one before handed back" (document
-- 02, W2): what they come to.
use Rattle.std.specs.Prelude.{ℕ, List, [], ◌∷◌, ◌++◌}
use Rattle.limits.specs.declared.Limits.{Limits}
use Rattle.answers.specs.Outcome.{Outcome, result, refused}
use Rattle.typing.specs.Typing.{Handed, give, look, close}
use Rattle.typing.specs.declared.Sentence.{Sentence}

-- a call, with the length of its output slice
pub data Call : Type 0 where
  gives : ℕ → ℕ → Call
  looks : ℕ → Call
  closes : ℕ → Call

abbrev pub call : Limits → List ℕ → Sentence → Call → Handed
call lim table s (gives a room) = give lim table s a room
call lim table s (looks room) = look lim table s room
call lim table s (closes room) = close lim table s room

-- "the tags taken": the tag of a give that was not refused
abbrev pub takes : Call → Outcome (List ℕ) → List ℕ
takes (gives a room) (result w) = a ∷ []
takes (gives a room) (refused n p) = []
takes (looks room) o = []
takes (closes room) o = []

-- "the tags given out and those of the close"; those of a look are not among them
abbrev pub brings : Call → Outcome (List ℕ) → List ℕ
brings (gives a room) (result w) = w
brings (gives a room) (refused n p) = []
brings (looks room) (result w) = []
brings (looks room) (refused n p) = []
brings (closes room) (result w) = w
brings (closes room) (refused n p) = []

-- what the calls so far came to
pub record Session : Type 0 where
  pub sentence : Sentence
  pub taken : List ℕ
  pub out : List ℕ

abbrev pub proceed : Limits → List ℕ → Session → Call → Session
proceed lim table x c =
    record {
      sentence = (call lim table x.sentence c).sentence;
      taken = x.taken ++ takes c (call lim table x.sentence c).put;
      out = x.out ++ brings c (call lim table x.sentence c).put;
    }

abbrev pub proceeds : Limits → List ℕ → Session → List Call → Session
proceeds lim table x [] = x
proceeds lim table x (c ∷ cs) = proceeds lim table (proceed lim table x c) cs

-- from an opening on, which handed out the sentence
abbrev pub session : Limits → List ℕ → Sentence → List Call → Session
session lim table s cs = proceeds lim table (record { sentence = s; taken = []; out = [] }) cs
