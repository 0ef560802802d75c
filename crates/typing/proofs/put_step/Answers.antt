use Prim.Native.Nat.{◌<◌}
use native.Mathlib.Omega.{arith}
use lib.ListN.{length}
use Rattle.typing.proofs.Gives.{put_front}
use Rattle.typing.proofs.put_step.Goals as goal

pub returns : goal.returns
returns c base w cell short = let a = c.args in
    let some : 0 < length w = omega (arith, cell.count_is) in
    put_front a.out.now c.put.new.out w c.put.result some (c.put.ensures base w cell short)
