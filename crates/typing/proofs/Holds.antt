-- The held tags are looked at, or given out at the close: how the call ends.
use Prim.Native.Nat.{ℕ, ◌≤◌}
use native.Mathlib.Nat.{zero-add}
use native.Mathlib.Omega.{arith}
use mathlib.Core.Path.{◌≡◌, refl, sym, ap, ◌∙◌}
use mathlib.Core.Bool.{true}
use mathlib.Core.List.{List}
use borrow.Author.Tests.{le-leb}
use lib.Dec.{leb}
use lib.ListN.{length, take}
use lib.Seq.{paste, take-length}
use Rattle.limits.specs.declared.Limits.{Limits}
use Rattle.answers.specs.Outcome.{Outcome, result, refused, and_then}
use Rattle.answers.specs.Slice.{fitting, long_of, written}
use Rattle.answers.specs.Answer.{refusal, Filled}
use Rattle.answers.proofs.Outcome.{refusal_never}
use Rattle.answers.proofs.Slice.{filled-written}
use Rattle.answers.specs.declared.Refusal.{Refusal}
use Rattle.std.specs.Prelude.{Ok, Err}
use Rattle.transducers.specs.Table.{row}
use Rattle.tables.specs.Decode.{Decoded}
use Rattle.steps.specs.Entry.{count_of, place_of, TagsAt, FinalEntry}
use Rattle.transduction.specs.Parts.{CellRead}
use Rattle.typing.specs.Typing.{standing, held, close, shut, Hands}
use Rattle.typing.specs.declared.Sentence.{Sentence}
use Rattle.typing.proofs.Stands.{stands}

module _ (lim : Limits) (bs : List ℕ) (x : Sentence) (out : List ℕ) where
  abbrev outcome : Outcome (List ℕ)
  outcome = held lim bs x (length out)

  abbrev after-reading : Decoded → Outcome (List ℕ)
  after-reading d = and_then (standing x (length d.table)) (λ y. fitting (length out) (row d.table x.state).final)

  module _ (k s e : ℕ) (u : CellRead lim bs x.state 0 k s e) where
    abbrev w : List ℕ
    w = (row u.table x.state).final

    holds : held lim bs x (length out) ≡ and_then (standing x s) (λ y. fitting (length out) w)
    holds =
        rw u.decodes
        (ap (λ (n : ℕ). and_then {A = Unit {0}} (standing x n) (λ y. fitting (length out) w)) u.states)

    module _ (f : standing x s ≡ result tt) where
      cell : FinalEntry bs w e
      cell = u.final (stands x s f).1 refl

      pub held_done : count_of e ≤ length out → (out' : List ℕ) (place n : ℕ) → place ≡ place_of e → n ≡ count_of e
          → ((y : List ℕ) → length y ≡ n → TagsAt bs place y → out' ≡ paste out 0 y n) → Filled outcome out out' (Ok n)
      held_done h out' place n p c all =
          let o : leb (length w) (length out) ≡ true = le-leb (length w) (length out) (omega (arith, cell.count_is)) in
          let long : length w ≡ n = omega (arith, cell.count_is) in
          let whole : out' ≡ paste out 0 w n = all w long (rw p cell.stands) in
          let front : take n w ≡ w = ap (λ (m : ℕ). take m w) (sym long) ∙ take-length w in
          filled-written outcome w out out' n (holds ∙ rw (f, o) refl) (sym long) (whole ∙ rw (front, ← long, zero-add) refl)

  -- a close that is refused hands back what it got, and has written nothing
  pub close-refused : (out' : List ℕ) (y : Refusal) → Filled outcome out out' (Err y)
      → Hands (close lim bs x (length out)) out out' (record { sentence = x; answer = Err y })
  close-refused out' y filled = by (held lim bs x (length out)) filled.answered filled.wrote
    where
      by : (o : Outcome (List ℕ)) → refusal y ≡ long_of o → out' ≡ written o out
          → Hands (shut x o) out out' (record { sentence = x; answer = Err y })
      by (refused n p) a f = record { sentence = refl; filled = record { answered = a; wrote = f } }
      by (result v) a f = absurd (refusal_never y (length v) a)

  pub close_done : (out' : List ℕ) (n : ℕ) → Filled outcome out out' (Ok n)
      → Hands (close lim bs x (length out)) out out'
      (record { sentence = record { state = x.state; given = x.given; closed = true }; answer = Ok n })
  close_done out' n filled = by (held lim bs x (length out)) filled.answered filled.wrote
    where
      by : (o : Outcome (List ℕ)) → result n ≡ long_of o → out' ≡ written o out
          → Hands (shut x o) out out'
          (record { sentence = record { state = x.state; given = x.given; closed = true }; answer = Ok n })
      by (result v) a f = record { sentence = refl; filled = record { answered = a; wrote = f } }
      by (refused m p) a f = let z : ◌≡◌ {A = ℕ} 0 1 = cc in absurd (omega arith)
