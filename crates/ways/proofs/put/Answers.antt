use native.Mathlib.Omega.{arith}
use Rattle.ways.proofs.Words.{put-short}
use Rattle.ways.proofs.put.Goals as goal

pub returns : goal.returns
returns c = let a = c.args in
    rw (c.then_some.ensures) (put-short a.ns.now a.e a.buf.now a.at a.n c.requires.0 (omega arith) c.requires.1)
