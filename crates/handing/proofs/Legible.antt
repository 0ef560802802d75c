-- Every outcome of typing is legible: a number for C can tell it.
use Prim.Native.Nat.{ℕ, ◌≤◌}
use native.Mathlib.Omega.{arith}
use mathlib.Core.Path.{subst}
use mathlib.Core.List.{List}
use Rattle.limits.specs.Limits.{most_held}
use Rattle.limits.specs.declared.Limits.{Limits}
use Rattle.words.specs.Word.{Below}
use Rattle.answers.specs.Outcome.{Outcome, refused, nothing}
use Rattle.answers.specs.Slice.{long_of}
use Rattle.transducers.specs.Table.{Step}
use Rattle.tables.specs.Valid.{ValidTable}
use Rattle.tables.specs.Decode.{Decoded, decode_within}
use Rattle.tables.proofs.Theorem.{decoded-within}
use Rattle.tables.proofs.Outcomes.{Begun, read, not-read, not-ranged, begun, read-few}
use Rattle.packing.specs.Packed.{Legible}
use Rattle.typing.specs.Typing.{opened, held, moved, give, close}
use Rattle.typing.specs.declared.Sentence.{Sentence}
use Rattle.typing.proofs.Ends.{GiveEnds, HoldEnds, give-ends, hold_ends}
use Rattle.typing.proofs.Theorems.{look_is_close}
use Rattle.handing.specs.Typing.{opened_as}

malformed-told : Legible (refused 12 nothing)
malformed-told = (omega arith, omega arith, λ e. omega arith)

out-told : Legible (refused 17 nothing)
out-told = (omega arith, omega arith, λ e. omega arith)

module _ (lim : Limits) (table : List ℕ) (bytes : Below 0x100 table) (s : Sentence) (room : ℕ) where
  pub legible_give : (a : ℕ) → Legible (long_of (give lim table s a room).put)
  legible_give a = by (begun lim table)
    where
      ends : (d : Decoded) → ValidTable lim d.tags d.table → most_held lim ≤ 112 → {o : Outcome Step} → GiveEnds d s a room o → Legible (long_of (moved s o).put)
      ends d v few GiveEnds.was_closed = (omega arith, omega arith, λ e. omega arith)
      ends d v few (GiveEnds.no_state h) = (omega arith, omega arith, λ e. omega arith)
      ends d v few (GiveEnds.too_many h) = (omega arith, omega arith, λ e. omega arith)
      ends d v few (GiveEnds.no_tag h) = (omega arith, omega arith, λ e. omega arith)
      ends d v few (GiveEnds.no_room t h) = (omega arith, omega arith, λ e. omega arith)
      ends d v few (GiveEnds.gave t) =
          omega (arith, v.balanced s.state a t.inside t.below, v.held s.state t.inside, few)

      by : Begun (decode_within lim table) → Legible (long_of (give lim table s a room).put)
      by (read d e) = ends d (decoded-within lim table d bytes e).0 (read-few lim table d e) (give-ends lim table d e s a room)
      by (not-read e) = rw e malformed-told
      by (not-ranged e) = rw e out-told

  pub legible_held : Legible (long_of (held lim table s room))
  legible_held = by (begun lim table)
    where
      ends : (d : Decoded) → ValidTable lim d.tags d.table → most_held lim ≤ 112 → {o : Outcome (List ℕ)} → HoldEnds d s room o → Legible (long_of o)
      ends d v few HoldEnds.was_closed = (omega arith, omega arith, λ e. omega arith)
      ends d v few (HoldEnds.no_state h) = (omega arith, omega arith, λ e. omega arith)
      ends d v few (HoldEnds.no_room t h) = (omega arith, omega arith, λ e. omega arith)
      ends d v few (HoldEnds.held_out f t) = omega (arith, v.held s.state t, few)

      by : Begun (decode_within lim table) → Legible (long_of (held lim table s room))
      by (read d e) = ends d (decoded-within lim table d bytes e).0 (read-few lim table d e) (hold_ends lim table d e s room)
      by (not-read e) = rw e malformed-told
      by (not-ranged e) = rw e out-told

  pub legible_close : Legible (long_of (close lim table s room).put)
  legible_close = subst (λ (o : Outcome (List ℕ)). Legible (long_of o)) (look_is_close lim table s room) legible_held

pub legible_open : (lim : Limits) (table : List ℕ) → Legible (opened_as (opened lim table))
legible_open lim table = by (begun lim table)
  where
    by : Begun (decode_within lim table) → Legible (opened_as (opened lim table))
    by (read d e) = rw e (omega arith)
    by (not-read e) = rw e malformed-told
    by (not-ranged e) = rw e out-told
