use Rattle.normalize.proofs.Done.{fronted, strips, finals, normalized}
use Rattle.normalize.proofs.Lower.{fronted_start}
use Rattle.normalize.proofs.normalize.Goals as goal

pub settle-requires : goal.settle-requires
settle-requires c = let a = c.args in fronted_start a.part.grid a.work.now a.part.base a.part.states c.requires _ c.start_fronts.ensures

pub strip_steps-requires : goal.strip_steps-requires
strip_steps-requires c = let a = c.args in strips a.part.grid _ a.part.base a.part.states (fronted a.part.grid a.work.now a.part.base a.part.states c.requires _ _ a.work.now a.work.now c.start_fronts.ensures c.settle.ensures) c.settle.ensures.rests

pub strip_finals-requires-clause-by_index : goal.strip_finals-requires-clause-by_index
strip_finals-requires-clause-by_index c = let a = c.args in
    let f = fronted a.part.grid a.work.now a.part.base a.part.states c.requires _ _ a.work.now a.work.now c.start_fronts.ensures c.settle.ensures in
    finals a.part.grid _ a.part.base a.part.states f c.settle.ensures.rests _ c.strip_steps.ensures

pub returns : goal.returns
returns c = let a = c.args in normalized a.part.grid a.work.now a.part.base a.part.states c.requires _ _ _ _ c.start_fronts.ensures c.settle.ensures c.strip_steps.ensures c.strip_finals.ensures
