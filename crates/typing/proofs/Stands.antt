-- Opening, and the tests of a sentence: 15 and 16, then 13 and 4.
use Prim.Native.Nat.{ℕ, ◌<◌}
use mathlib.Core.Path.{◌≡◌, refl, sym, ◌∙◌}
use mathlib.Core.Bool.{false, not}
use mathlib.Core.List.{List}
use borrow.Author.Tests.{ltb-true, not-true}
use lib.Dec.{ltb}
use lib.ListN.{length}
use Rattle.limits.specs.Limits.{longest_sentence}
use Rattle.limits.specs.declared.Limits.{Limits}
use Rattle.answers.specs.Outcome.{Outcome, result, nothing, provided}
use Rattle.answers.specs.Answer.{refusal}
use Rattle.answers.proofs.Outcome.{passed, went, refusal_never}
use Rattle.answers.specs.declared.Refusal.{Refusal}
use Rattle.tables.specs.Decode.{decode_within}
use Rattle.tables.specs.Run.{size_of}
use Rattle.tables.proofs.Outcomes.{Begun, read, not-read, not-ranged, begun}
use Rattle.transduction.proofs.Runs.{refused-alike}
use Rattle.typing.specs.Typing.{opened, standing, admits}
use Rattle.typing.specs.declared.Sentence.{Sentence}

module _ (x : Sentence) (n : ℕ) where
  -- a sentence that stands is open, and its state is one of the table's
  pub stands : standing x n ≡ result tt → (x.closed ≡ false) × (x.state < n)
  stands e =
      let a = passed 15 (not x.closed) _ tt e in
      let b = passed 16 (ltb x.state n) _ tt a.1 in
      (not-true x.closed a.0, ltb-true x.state n b.0)

  module _ (k a : ℕ) where
    abbrev then : Unit {0} → Outcome (Unit {0})
    then u = provided 13 (ltb x.given longest_sentence) (provided 4 (ltb a k) (result tt))

    -- a tag that is taken: the sentence stands, has room for it, and it is one of the table's
    pub record Taken : Type 0 where
      pub still_open : x.closed ≡ false
      pub inside : x.state < n
      pub short : x.given < longest_sentence
      pub below : a < k

    pub taken : admits x k n a ≡ result tt → Taken
    taken e =
        let s = went (standing x n) then tt e in
        let g = passed 13 (ltb x.given longest_sentence) _ tt s.then in
        let b = passed 4 (ltb a k) _ tt g.1 in
        let o = stands s.read in
        record { still_open = o.0; inside = o.1; short = ltb-true x.given longest_sentence g.0; below = ltb-true a k b.0 }

-- a sentence is opened exactly if the table is read
module _ (lim : Limits) (bs : List ℕ) where
  pub open_refused : (y : Refusal) → refusal y ≡ size_of lim bs → refusal y ≡ opened lim bs
  open_refused y e = by (begun lim bs)
    where
      by : Begun (decode_within lim bs) → refusal y ≡ opened lim bs
      by (read d f) = absurd (refusal_never y (record { tags = d.tags; states = length d.table }) (rw f at e))
      by (not-read f) = refused-alike y 12 nothing (rw f at e) ∙ sym (rw f refl)
      by (not-ranged f) = refused-alike y 17 nothing (rw f at e) ∙ sym (rw f refl)
