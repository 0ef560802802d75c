use Rattle.merge.proofs.Rounds.{round_done}
use Rattle.merge.proofs.round.Goals as goal

pub returns : goal.returns
returns c = let a = c.args in round_done a.part.grid a.work.now a.part.base a.part.states a.first c.requires _ c.split.ensures _ _ c.take_over.ensures
