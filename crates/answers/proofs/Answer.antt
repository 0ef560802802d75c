-- The numbers of the reasons tell them apart.
use Prim.Native.Nat.{ℕ}
use mathlib.Core.Path.{◌≡◌, refl, sym, ap, ◌∙◌}
use Rattle.std.specs.Prelude.{eqb, if◌then◌else◌}
use Rattle.answers.specs.Answer.{number_of}
use Rattle.answers.specs.declared.Reason.{Reason}
use Rattle.answers.specs.declared.Reason.TheVariants.{BadCommand, BadTagCount, BadPattern, BadTag, BadPlace, SameTag, TooManyRules, BadCeiling, ShortWork, TooManyStates, ShortOutput, BadTable, LongSentence, BadEnd, Closed, BadState, BadLimit, SmallSet, LateSet, OtherTags}

abbrev reason_of : ℕ → Reason
reason_of n =
    if eqb n 1 then BadCommand else
    if eqb n 2 then BadTagCount else
    if eqb n 3 then BadPattern else
    if eqb n 4 then BadTag else
    if eqb n 5 then BadPlace else
    if eqb n 6 then SameTag else
    if eqb n 7 then TooManyRules else
    if eqb n 8 then BadCeiling else
    if eqb n 9 then ShortWork else
    if eqb n 10 then TooManyStates else
    if eqb n 11 then ShortOutput else
    if eqb n 12 then BadTable else
    if eqb n 13 then LongSentence else
    if eqb n 14 then BadEnd else
    if eqb n 15 then Closed else
    if eqb n 16 then BadState else
    if eqb n 17 then BadLimit else
    if eqb n 18 then SmallSet else
    if eqb n 19 then LateSet else
    OtherTags

reason-is : (r : Reason) → reason_of (number_of r) ≡ r
reason-is BadCommand = refl
reason-is BadTagCount = refl
reason-is BadPattern = refl
reason-is BadTag = refl
reason-is BadPlace = refl
reason-is SameTag = refl
reason-is TooManyRules = refl
reason-is BadCeiling = refl
reason-is ShortWork = refl
reason-is TooManyStates = refl
reason-is ShortOutput = refl
reason-is BadTable = refl
reason-is LongSentence = refl
reason-is BadEnd = refl
reason-is Closed = refl
reason-is BadState = refl
reason-is BadLimit = refl
reason-is SmallSet = refl
reason-is LateSet = refl
reason-is OtherTags = refl

pub number-one : (r s : Reason) → number_of r ≡ number_of s → r ≡ s
number-one r s e = sym (reason-is r) ∙ ap reason_of e ∙ reason-is s
