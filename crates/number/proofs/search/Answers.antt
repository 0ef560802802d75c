use native.Mathlib.Omega.{arith}
use Rattle.number.proofs.Searching.{classed-kept, searching-start, searching-next, searching-end}
use Rattle.number.proofs.search.Goals as goal

pub loop-i-init : goal.loop-i-init
loop-i-init c = let a = c.args in
    searching-start a.part.grid _ _ _ c.requires.classed c.requires.worklist

pub add_steps-len-requires-clause-classed : goal.add_steps-len-requires-clause-classed
add_steps-len-requires-clause-classed c = let inv = c.loop-i.invariant in
    classed-kept c.args.part.grid _ _ _ _ c.requires.classed inv.kept

pub loop-i-preserved : goal.loop-i-preserved
loop-i-preserved c = let a = c.args in
    searching-next a.part.grid _ _ _ c.requires.classed _ _ _ _ _ _ (omega arith) c.member-q.ensures.0 c.loop-i.invariant c.add_steps-len.ensures

pub returns : goal.returns
returns c = let a = c.args in
    searching-end a.part.grid _ _ _ c.requires.classed _ _ _ (omega arith) c.loop-i.invariant
