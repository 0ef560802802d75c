-- Typing: a look beside a close, and how long an output slice is enough (document 02, W2).
use Prim.Native.Nat.{ℕ, ◌+◌, ◌≤◌}
use native.Mathlib.Omega.{arith}
use mathlib.Core.Path.{◌≡◌, refl, ◌∙◌}
use mathlib.Core.List.{List}
use Rattle.limits.specs.Limits.{most_held}
use Rattle.limits.specs.declared.Limits.{Limits}
use Rattle.words.specs.Word.{Below}
use Rattle.answers.specs.Outcome.{Outcome, result, refused, nothing, Place}
use Rattle.transducers.specs.Table.{Step}
use Rattle.tables.specs.Valid.{ValidTable}
use Rattle.tables.specs.Decode.{Decoded, decode_within}
use Rattle.tables.proofs.Theorem.{decoded-within}
use Rattle.tables.proofs.Outcomes.{Begun, read, not-read, not-ranged, begun}
use Rattle.typing.specs.Typing.{stepped, held, moved, shut, give, look, close}
use Rattle.typing.specs.declared.Sentence.{Sentence}
use Rattle.typing.proofs.Ends.{GiveEnds, HoldEnds, give-ends, hold_ends}

-- "may look at what closing now would give": a look puts out what a close then would, of any sentence and over any bytes. That it changes
-- nothing, nor a refused call, are `look-nothing` and `refused-nothing` (sessions/proofs/Session.antt)
pub look_is_close : (lim : Limits) (table : List ℕ) (s : Sentence) (room : ℕ) → (look lim table s room).put ≡ (close lim table s room).put
look_is_close lim table s room = by (held lim table s room)
  where
    by : (o : Outcome (List ℕ)) → o ≡ (shut s o).put
    by (result w) = refl
    by (refused n p) = refl

-- a give is refused as its step is
pub put_refused : (s : Sentence) (o : Outcome Step) (n : ℕ) (p : Place) → (moved s o).put ≡ refused n p → o ≡ refused n p
put_refused s (result v) n p e = let z : ◌≡◌ {A = ℕ} 0 1 = cc in absurd (omega arith)
put_refused s (refused m q) n p e = cc

-- an output slice of one tag more than a state may hold is always enough for a give, one of as many for a look and a close; with the limits of
-- document 01 these are 81 and 80
module _ (lim : Limits) (table : List ℕ) (bytes : Below 0x100 table) (s : Sentence) (room : ℕ) where
  pub enough_to_give : most_held lim + 1 ≤ room → (a : ℕ) (p : Place) → (give lim table s a room).put ≡ refused 11 p → ⊥
  enough_to_give long a p e = by (begun lim table) (put_refused s (stepped lim table s a room) 11 p e)
    where
      ends : (d : Decoded) → ValidTable lim d.tags d.table → {o : Outcome Step} → GiveEnds d s a room o → o ≡ refused 11 p → ⊥
      ends d v GiveEnds.was_closed e = let z : ◌≡◌ {A = ℕ} 15 11 = cc in omega arith
      ends d v (GiveEnds.no_state h) e = let z : ◌≡◌ {A = ℕ} 16 11 = cc in omega arith
      ends d v (GiveEnds.too_many h) e = let z : ◌≡◌ {A = ℕ} 13 11 = cc in omega arith
      ends d v (GiveEnds.no_tag h) e = let z : ◌≡◌ {A = ℕ} 4 11 = cc in omega arith
      ends d v (GiveEnds.no_room t h) e =
          omega (arith, h, long, v.balanced s.state a t.inside t.below, v.held s.state t.inside)
      ends d v (GiveEnds.gave t) e = let z : ◌≡◌ {A = ℕ} 0 1 = cc in omega arith

      by : Begun (decode_within lim table) → stepped lim table s a room ≡ refused 11 p → ⊥
      by (read d f) e = ends d (decoded-within lim table d bytes f).0 (give-ends lim table d f s a room) e
      by (not-read f) e = let o : refused 12 nothing ≡ refused 11 p = rw f at e in let z : ◌≡◌ {A = ℕ} 12 11 = cc in omega arith
      by (not-ranged f) e = let o : refused 17 nothing ≡ refused 11 p = rw f at e in let z : ◌≡◌ {A = ℕ} 17 11 = cc in omega arith

  pub enough_to_close : most_held lim ≤ room → (p : Place) → (close lim table s room).put ≡ refused 11 p → ⊥
  enough_to_close long p e = by (begun lim table) (look_is_close lim table s room ∙ e)
    where
      ends : (d : Decoded) → ValidTable lim d.tags d.table → {o : Outcome (List ℕ)} → HoldEnds d s room o → o ≡ refused 11 p → ⊥
      ends d v HoldEnds.was_closed e = let z : ◌≡◌ {A = ℕ} 15 11 = cc in omega arith
      ends d v (HoldEnds.no_state h) e = let z : ◌≡◌ {A = ℕ} 16 11 = cc in omega arith
      ends d v (HoldEnds.no_room t h) e = omega (arith, h, long, v.held s.state t)
      ends d v (HoldEnds.held_out f t) e = let z : ◌≡◌ {A = ℕ} 0 1 = cc in omega arith

      by : Begun (decode_within lim table) → held lim table s room ≡ refused 11 p → ⊥
      by (read d f) e = ends d (decoded-within lim table d bytes f).0 (hold_ends lim table d f s room) e
      by (not-read f) e = let o : refused 12 nothing ≡ refused 11 p = rw f at e in let z : ◌≡◌ {A = ℕ} 12 11 = cc in omega arith
      by (not-ranged f) e = let o : refused 17 nothing ≡ refused 11 p = rw f at e in let z : ◌≡◌ {A = ℕ} 17 11 = cc in omega arith
