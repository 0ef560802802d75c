use native.Mathlib.Omega.{arith}
use lib.ListN.{length-set}
use Rattle.transduction.proofs.Output.{put_next}
use Rattle.transduction.proofs.put_word.Goals as goal

pub loop-j-preserved : goal.loop-j-preserved
loop-j-preserved c = let a = c.args in (
  simp length-set (omega arith),
  λ w h st.
      put_next a.table.now a.out.now c.loop-j.out w a.place a.at c.loop-j.j st (omega arith) (omega arith)
      (c.loop-j.invariant.1 w h st),
)
