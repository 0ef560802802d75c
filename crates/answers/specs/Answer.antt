-- Document 01's number and values for each case of the answers.
use Rattle.std.specs.Prelude.{ℕ, ◌≡◌, List, Result, Ok, Err}
use Rattle.answers.specs.Outcome.{Outcome, result, refused, nothing, byte, rule}
use Rattle.answers.specs.Slice.{long_of, written}
use Rattle.answers.specs.declared.Reason.{Reason}
use Rattle.answers.specs.declared.Reason.TheVariants.{BadCommand, BadTagCount, BadPattern, BadTag, BadPlace, SameTag, TooManyRules, BadCeiling, ShortWork, TooManyStates, ShortOutput, BadTable, LongSentence, BadEnd, Closed, BadState, BadLimit, SmallSet, LateSet, OtherTags}
use Rattle.answers.specs.declared.Refusal.{Refusal}
use Rattle.answers.specs.declared.Refusal.TheVariants.{AtByte, AtRule, Bare}

-- "Refusals in their order", and those of document 02
abbrev pub number_of : Reason → ℕ
number_of BadCommand = 1
number_of BadTagCount = 2
number_of BadPattern = 3
number_of BadTag = 4
number_of BadPlace = 5
number_of SameTag = 6
number_of TooManyRules = 7
number_of BadCeiling = 8
number_of ShortWork = 9
number_of TooManyStates = 10
number_of ShortOutput = 11
number_of BadTable = 12
number_of LongSentence = 13
number_of BadEnd = 14
number_of Closed = 15
number_of BadState = 16
number_of BadLimit = 17
number_of SmallSet = 18
number_of LateSet = 19
number_of OtherTags = 20

abbrev pub refusal : {A : Type 0} → Refusal → Outcome A
refusal (AtByte reason at) = refused (number_of reason) (byte at)
refusal (AtRule reason at) = refused (number_of reason) (rule at)
refusal (Bare reason) = refused (number_of reason) nothing

-- of any call: its result, or the refusal
abbrev pub outcome_of : {A : Type 0} → Result A Refusal → Outcome A
outcome_of (Ok a) = result a
outcome_of (Err r) = refusal r

-- a call has ended: its answer is how many numbers were written or the refusal, and the output slice holds them or its old ones
pub record Filled (outcome : Outcome (List ℕ)) (before after : List ℕ) (answer : Result ℕ Refusal) : Type 0 where
  pub answered : outcome_of answer ≡ long_of outcome
  pub wrote : after ≡ written outcome before
