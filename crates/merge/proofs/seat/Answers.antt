use Prim.Native.Nat.{ℕ, ◌%◌}
use mathlib.Core.Path.{ap}
use Rattle.merge.proofs.Seats.{bucket-below, seat_old, seat_new}
use Rattle.merge.proofs.seat.Goals as goal

pub returns-then-head-ne0 : goal.returns-then-head-ne0
returns-then-head-ne0 c = let a = c.args in
    let is = ap (λ (d : ℕ). d % a.part.states) c.digest_of.ensures in
    let low = bucket-below a.part.grid a.part.base a.part.states _ a.q c.requires.seating c.requires.q_lt_n a.q in
    seat_old a.part.grid a.part.base a.part.states _ a.q c.requires.seating c.requires.q_lt_n _ _ is c.get-head.ensures c.if-head-ne0.true _ c.put.ensures

pub returns : goal.returns
returns c = let a = c.args in
    let is = ap (λ (d : ℕ). d % a.part.states) c.digest_of.ensures in
    let low = bucket-below a.part.grid a.part.base a.part.states _ a.q c.requires.seating c.requires.q_lt_n a.q in
    seat_new a.part.grid a.part.base a.part.states _ a.q c.requires.seating c.requires.q_lt_n _ _ is c.get-head.ensures c.if-head-ne0.false _ _ c.put-2.ensures c.put-3.ensures
