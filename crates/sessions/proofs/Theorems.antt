-- What the calls over one table come to, from an opening on (document 02, W2).
use Prim.Native.Nat.{ℕ, ◌≤◌}
use native.Mathlib.Omega.{arith}
use mathlib.Core.Path.{◌≡◌, sym, ap, ◌∙◌, subst}
use mathlib.Core.Bool.{true, false}
use mathlib.Core.List.{List, [], ◌++◌}
use lib.ListN.{length}
use Rattle.limits.specs.declared.Limits.{Limits}
use Rattle.words.specs.Word.{Below}
use Rattle.answers.specs.Outcome.{Outcome, result, refused, Place}
use Rattle.answers.proofs.Outcome.{went}
use Rattle.sentences.specs.Run.{Accepted}
use Rattle.sentences.proofs.Run.{accepted-run}
use Rattle.transducers.specs.Transducer.{puts}
use Rattle.transducers.specs.Table.{Step, shape}
use Rattle.tables.specs.Valid.{ValidTable}
use Rattle.tables.specs.Decode.{Decoded, decode_within}
use Rattle.tables.specs.Run.{table_run}
use Rattle.tables.proofs.Theorem.{decoded-within}
use Rattle.typing.specs.Typing.{opened, stepped, look}
use Rattle.typing.specs.declared.Sentence.{Sentence}
use Rattle.typing.proofs.Ends.{GiveEnds, HoldEnds, give-ends, hold_ends}
use Rattle.typing.proofs.Theorems.{look_is_close, put_refused}
use Rattle.sessions.specs.Session.{Call, gives, looks, closes, call, Session, session}
use Rattle.sessions.proofs.Session.{Kept, kept-start, kept_calls, held-ends}

-- over one table, from an opening on, whatever the calls are
module _ (lim : Limits) (table : List ℕ) (bytes : Below 0x100 table) (s : Sentence) (opens : opened lim table ≡ result s) (cs : List Call) where
  abbrev x : Session
  x = session lim table s cs

  -- the table that was opened, and what the calls have kept of it
  record Over : Type 0 where
    tables : Decoded
    decodes : decode_within lim table ≡ result tables
    valid : ValidTable lim tables.tags tables.table
    keeps : Kept tables x

  over : Over
  over =
      let w = went (decode_within lim table) _ s opens in
      let v = (decoded-within lim table w.first bytes w.read).0 in
      let start : s ≡ record { state = 0; given = 0; closed = false } = cc w.then in
      record {
        tables = w.first;
        decodes = w.read;
        valid = v;
        keeps =
            kept_calls lim table w.first w.read v (record { sentence = s; taken = []; out = [] })
            (subst (λ (y : Sentence). Kept w.first (record { sentence = y; taken = []; out = [] })) (sym start) (kept-start lim table w.first w.read v))
            cs;
      }

  -- the run makes of the tags taken what the transducer does: they are not refused
  runs : (room : ℕ) → length x.taken ≤ room → table_run lim table x.taken room ≡ result (puts (shape over.tables.table) 0 x.taken)
  runs room long =
      let d = over.tables in
      let a : Accepted d.tags x.taken room = record { short = over.keeps.short; below = over.keeps.below; fits = long } in
      rw over.decodes
      (accepted-run d.tags x.taken room (puts (shape d.table) 0 x.taken) (omega (arith, over.valid.tags_least)) a)

  -- "the tags given out and those of the close make up what the whole run gives for the tags taken"
  pub closed_is_run : x.sentence.closed ≡ true → (room : ℕ) → length x.taken ≤ room → table_run lim table x.taken room ≡ result x.out
  closed_is_run e room long = runs room long ∙ ap result (sym (over.keeps.ended e))

  -- so does what was given out with what a look shows, or a close would put out now
  pub looked_is_run : (room' : ℕ) (w : List ℕ) → (look lim table x.sentence room').put ≡ result w
      → (room : ℕ) → length x.taken ≤ room → table_run lim table x.taken room ≡ result (x.out ++ w)
  looked_is_run room' w e room long =
      runs room long ∙ ap result (sym (held-ends lim table over.tables over.decodes over.valid x over.keeps room' w e))

  -- the tags given are counted
  pub counted : x.sentence.given ≡ length x.taken
  counted = over.keeps.counts

  -- and 16 is never given: the sentence's state is one of the table's
  pub never_16 : (c : Call) (p : Place) → (call lim table x.sentence c).put ≡ refused 16 p → ⊥
  never_16 c p e = by c e
    where
      step-not : {a room : ℕ} {o : Outcome Step} → GiveEnds over.tables x.sentence a room o → o ≡ refused 16 p → ⊥
      step-not GiveEnds.was_closed e = let z : ◌≡◌ {A = ℕ} 15 16 = cc in omega arith
      step-not (GiveEnds.no_state h) e = omega (arith, h, over.keeps.inside)
      step-not (GiveEnds.too_many h) e = let z : ◌≡◌ {A = ℕ} 13 16 = cc in omega arith
      step-not (GiveEnds.no_tag h) e = let z : ◌≡◌ {A = ℕ} 4 16 = cc in omega arith
      step-not (GiveEnds.no_room t h) e = let z : ◌≡◌ {A = ℕ} 11 16 = cc in omega arith
      step-not (GiveEnds.gave t) e = let z : ◌≡◌ {A = ℕ} 0 1 = cc in omega arith

      hold_not : {o : Outcome (List ℕ)} {room : ℕ} → HoldEnds over.tables x.sentence room o → o ≡ refused 16 p → ⊥
      hold_not HoldEnds.was_closed e = let z : ◌≡◌ {A = ℕ} 15 16 = cc in omega arith
      hold_not (HoldEnds.no_state h) e = omega (arith, h, over.keeps.inside)
      hold_not (HoldEnds.no_room t h) e = let z : ◌≡◌ {A = ℕ} 11 16 = cc in omega arith
      hold_not (HoldEnds.held_out f t) e = let z : ◌≡◌ {A = ℕ} 0 1 = cc in omega arith

      by : (c : Call) → (call lim table x.sentence c).put ≡ refused 16 p → ⊥
      by (gives a room) e =
          step-not (give-ends lim table over.tables over.decodes x.sentence a room)
          (put_refused x.sentence (stepped lim table x.sentence a room) 16 p e)
      by (looks room) e = hold_not (hold_ends lim table over.tables over.decodes x.sentence room) e
      by (closes room) e =
          hold_not (hold_ends lim table over.tables over.decodes x.sentence room)
          (look_is_close lim table x.sentence room ∙ e)
