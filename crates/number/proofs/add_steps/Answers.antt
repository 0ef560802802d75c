use native.Mathlib.Omega.{arith}
use Rattle.number.proofs.Searching.{classed-kept, adding_next, adding_end}
use Rattle.number.proofs.add_steps.Goals as goal

pub next_class-s-requires-clause-classed : goal.next_class-s-requires-clause-classed
next_class-s-requires-clause-classed c = let a = c.args in
    classed-kept a.part.grid _ _ _ _ c.requires.classed c.loop-a.invariant.kept

pub loop-a-preserved : goal.loop-a-preserved
loop-a-preserved c = let a = c.args in
    adding_next a.part.grid _ _ _ a.len a.q c.requires.classed c.requires.q_lt_n _ _ _ _ _ _ (omega arith) c.next_class-s.ensures.0 c.loop-a.invariant c.enter-to.ensures

pub returns : goal.returns
returns c = let a = c.args in
    adding_end a.part.grid _ _ _ a.len a.q c.requires.classed c.requires.q_lt_n _ _ _ (omega arith) c.loop-a.invariant
