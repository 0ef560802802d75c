use Prim.Native.Nat.{◌+◌}
use native.Mathlib.Omega.{arith}
use Rattle.comparing.proofs.Step.{final-room, step-put}
use Rattle.comparing.proofs.put_step.Goals as goal

pub returns : goal.returns
returns c w f s = let put = c.put-to in
    let a = c.args in
    let base = c.base_of in
    let place = c.place_of in
    let count = c.count_of-count in
    let word = c.put_word in
    let room = final-room c.requires put.new.out put.result base.result place.result count.result put.ensures base.ensures place.ensures count.ensures.0 in
    step-put a.table.now a.index.now a.out.now put.new.out word.new.out w f a.e a.from put.result base.result place.result count.result s
    (omega (arith, room.1)) (put.ensures (s.cell + 1) w s.output s.short) base.ensures place.ensures count.ensures.0 word.ensures
