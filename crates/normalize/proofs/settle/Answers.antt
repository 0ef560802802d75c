use Rattle.normalize.proofs.Lower.{lowered_then, fronted_lowered, weight_less}
use Rattle.normalize.proofs.settle.Goals as goal

pub lower_all-requires : goal.lower_all-requires
lower_all-requires c = let a = c.args in fronted_lowered a.part.grid a.work.now a.part.base a.part.states c.requires _ c.loop-part.invariant

pub loop-part-smaller : goal.loop-part-smaller
loop-part-smaller c = let a = c.args in weight_less a.part.grid a.part.base a.part.states _ _ c.lower_all.ensures.lowered (c.lower_all.ensures.falls c.loop-part-test.true)

pub loop-part-preserved : goal.loop-part-preserved
loop-part-preserved c = let a = c.args in lowered_then a.part.grid a.part.base a.part.states _ _ _ c.loop-part.invariant c.lower_all.ensures.lowered
