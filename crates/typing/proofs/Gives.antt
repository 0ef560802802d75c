-- A tag is given: how the call ends.
use Prim.Native.Nat.{ℕ, ◌+◌, ◌*◌, ◌-◌, ◌/◌, ◌<◌, ◌≤◌}
use native.Mathlib.Omega.{arith}
use mathlib.Core.Path.{◌≡◌, refl, sym, ap, ◌∙◌}
use mathlib.Core.Bool.{true, false}
use mathlib.Core.List.{List, ◌++◌}
use borrow.Author.Tests.{le-leb, lt-leb}
use lib.Dec.{leb}
use lib.ListN.{length, drop, take-append-drop}
use Rattle.limits.specs.Limits.{most_tags}
use Rattle.limits.specs.declared.Limits.{Limits}
use Rattle.limits.proofs.Range.{within-result}
use Rattle.answers.specs.Outcome.{Outcome, result, and_then, provided}
use Rattle.answers.specs.Answer.{refusal}
use Rattle.answers.proofs.Slice.{filled-refused, filled-written}
use Rattle.answers.specs.declared.Refusal.{Refusal}
use Rattle.answers.specs.declared.Refusal.TheVariants.{AtByte, AtRule, Bare}
use Rattle.answers.specs.declared.Reason.TheVariants.{ShortOutput}
use Rattle.std.specs.Prelude.{Ok, Err}
use Rattle.transducers.specs.Table.{Step, Table, step}
use Rattle.tables.specs.Decode.{Decoded, decode}
use Rattle.tables.proofs.Outcomes.{read-few}
use Rattle.steps.specs.Entry.{base_of, count_of, place_of, EntryOf}
use Rattle.steps.proofs.Places.{next_of}
use Rattle.transduction.specs.Parts.{WordPut, CellRead}
use Rattle.typing.specs.Typing.{Handed, admits, stepped, moved, give, Hands}
use Rattle.typing.specs.declared.Sentence.{Sentence}
use Rattle.typing.proofs.Stands.{Taken, taken}

-- a word that was put from the front on stands at the front
pub put_front : (out out' w : List ℕ) (n : ℕ) → 0 < length w → WordPut out out' 0 w n → out' ≡ w ++ drop (length w) out
put_front out out' w n some p =
    let long : n ≡ length w = omega (arith, p.end) in
    sym (take-append-drop n out')
    ∙ ap (λ (l : List ℕ). l ++ drop n out') p.front
    ∙ ap (λ (l : List ℕ). w ++ l) (p.kept n (omega arith) (omega arith))
    ∙ ap (λ (m : ℕ). w ++ drop m out) long

-- a table that was read has few tags
pub cell-tags : (lim : Limits) {bs : List ℕ} {state column k s e : ℕ} → CellRead lim bs state column k s e → k ≤ most_tags
cell-tags lim {bs} u = omega (arith, u.valid.tags_most, (within-result lim (decode lim bs) _ u.decodes).0.few_tags)

module _ (lim : Limits) (bs : List ℕ) (x : Sentence) (a : ℕ) (out : List ℕ) where
  pub give-refused : (r : Refusal) → stepped lim bs x a (length out) ≡ refusal r
      → Hands (give lim bs x a (length out)) out out (record { sentence = x; answer = Err r })
  give-refused r e = record { sentence = by r e; filled = filled-refused _ out r (put_of r e) }
    where
      by : (r : Refusal) → stepped lim bs x a (length out) ≡ refusal r → x ≡ (give lim bs x a (length out)).sentence
      by (AtByte n i) e = rw e refl
      by (AtRule n i) e = rw e refl
      by (Bare n) e = rw e refl

      put_of : (r : Refusal) → stepped lim bs x a (length out) ≡ refusal r → (give lim bs x a (length out)).put ≡ refusal r
      put_of (AtByte n i) e = rw e refl
      put_of (AtRule n i) e = rw e refl
      put_of (Bare n) e = rw e refl

  abbrev after-reading : Decoded → Outcome Step
  after-reading d =
      and_then (admits x d.tags (length d.table) a)
      (λ y. provided 11 (leb (length (step d.table x.state a).output) (length out)) (result (step d.table x.state a)))

  module _ (k s e : ℕ) (u : CellRead lim bs x.state (1 + a) k s e) where
    abbrev t : Table
    t = u.table

    abbrev v : Step
    v = step t x.state a

    abbrev room : Unit {0} → Outcome Step
    room y = provided 11 (leb (length v.output) (length out)) (result v)

    steps : stepped lim bs x a (length out) ≡ and_then (admits x k s a) room
    steps = rw u.decodes (ap (λ (n : ℕ). and_then (admits x k n a) room) u.states)

    module _ (f : admits x k s a ≡ result tt) where
      pub is-taken : Taken x s k a
      is-taken = taken x s k a f

      cell : EntryOf bs (v.next * (k + 1) + 1) v.output e
      cell = u.steps a is-taken.inside is-taken.below refl

      inside : x.state < length t
      inside = omega (arith, is-taken.inside, u.states)

      short : length v.output < 0xff
      short =
          omega (arith, u.valid.balanced x.state a inside is-taken.below, u.valid.held x.state inside, read-few lim bs _ u.decodes)

      count : count_of e ≡ length v.output
      count = omega (arith, cell.count_is, short)

      pub take_short : length out < count_of e
          → Hands (give lim bs x a (length out)) out out (record { sentence = x; answer = Err (Bare ShortOutput) })
      take_short h =
          let o : leb (length v.output) (length out) ≡ false = lt-leb (length v.output) (length out) (omega (arith, count)) in
          give-refused (Bare ShortOutput) (steps ∙ rw (f, o) refl)

      pub take-place : (count_of e ≡ 1 → ⊥) → place_of e + 2 * count_of e ≤ length bs + 1
      take-place n = omega (arith, (cell.stands (λ o. n (omega (arith, count)))).inside, count)

      pub take_base : 1 ≤ base_of e
      take_base = omega (arith, cell.base_is)

      pub take_done : count_of e ≤ length out → (out' : List ℕ) (next n : ℕ) (after : Sentence) → n ≡ count_of e → next ≡ (base_of e - 1) / (k + 1)
          → after ≡ record { state = next; given = x.given + 1; closed = x.closed }
          → ((base : ℕ) (w : List ℕ) → EntryOf bs base w e → length w < 0xff → out' ≡ w ++ drop (length w) out)
          → Hands (give lim bs x a (length out)) out out' (record { sentence = after; answer = Ok n })
      take_done h out' next n after c b then all =
          let o : leb (length v.output) (length out) ≡ true = le-leb (length v.output) (length out) (omega (arith, count)) in
          let done : stepped lim bs x a (length out) ≡ result v = steps ∙ rw (f, o) refl in
          let g : give lim bs x a (length out) ≡ moved x (result v) = ap (moved x) done in
          let to : next ≡ v.next = b ∙ next_of v.next k (base_of e) cell.base_is in
          let moves : after ≡ record { state = v.next; given = x.given + 1; closed = x.closed } =
          then ∙ ap (λ (q : ℕ). record { state = q; given = x.given + 1; closed = x.closed }) to in
          record {
            sentence = moves ∙ sym (ap (λ (y : Handed). y.sentence) g);
            filled =
                filled-written (give lim bs x a (length out)).put v.output out out' n (ap (λ (y : Handed). y.put) g) (c ∙ count)
                (all (v.next * (k + 1) + 1) v.output cell short);
          }
