use Rattle.normalize.proofs.Lower.{turn_rest, turn_fall}
use native.Mathlib.Omega.{arith}
use Rattle.normalize.proofs.lower_step.Goals as goal

pub returns-then-j-own : goal.returns-then-j-own
returns-then-j-own c = let a = c.args in turn_fall a.part.grid a.work.now a.part.base a.part.states c.requires.fronted a.q a.a _ _ c.requires.q_lt_n.0 c.requires.q_lt_n.1 c.get-own.ensures.is c.meeting-j.ensures _ c.if-j-own.true c.put.ensures

pub returns : goal.returns
returns c = let a = c.args in turn_rest a.part.grid a.work.now a.part.base a.part.states c.requires.fronted a.q a.a _ _ c.requires.q_lt_n.0 c.requires.q_lt_n.1 c.get-own.ensures.is c.meeting-j.ensures (omega arith)
