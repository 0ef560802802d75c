use Rattle.normalize.proofs.Lower.{turn_empty}
use Rattle.normalize.proofs.lower_state.Goals as goal

pub returns-then-get-eq0 : goal.returns-then-get-eq0
returns-then-get-eq0 c = let a = c.args in
    turn_empty a.part.grid _ a.part.base a.part.states c.requires.fronted a.q _ c.get.ensures.is c.if-get-eq0.true
