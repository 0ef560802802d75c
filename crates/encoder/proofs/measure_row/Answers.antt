use native.Mathlib.Omega.{arith}
use Rattle.encoder.proofs.Encoding.{row_long}
use Rattle.encoder.proofs.measure_row.Goals as goal

pub returns : goal.returns
returns c = let n = c.get-n in
    let m = c.measure_steps in
    record {
      is = row_long c.args.g c.args.work.now c.args.r n.result m.result n.ensures.is m.ensures.is;
      low = omega (arith, n.ensures.small, m.ensures.low);
    }
