use Rattle.merge.proofs.Names.{place-own, place-hit, place-miss, ready_link}
use native.Mathlib.Omega.{arith}
use Rattle.merge.proofs.place.Goals as goal

pub returns-then-c-q : goal.returns-then-c-q
returns-then-c-q c = let a = c.args in place-own a.part.grid a.work.now a.part.base a.part.states a.first a.q c.requires.q_lt_n c.requires.parted _ _ c.get-c.ensures.is c.if-c-q.true c.name_new.ensures

pub name_new-requires-in-Err-clause-ready : goal.name_new-requires-in-Err-clause-ready
name_new-requires-in-Err-clause-ready c = let a = c.args in ready_link a.part.grid _ _ a.part.base a.part.states c.in-Err.last _ c.requires.parted.part.ready (omega (arith, c.in-Err.ensures.naming.below)) c.put-in-Err.ensures

pub returns-in-Ok : goal.returns-in-Ok
returns-in-Ok c = let a = c.args in place-hit a.part.grid a.work.now a.part.base a.part.states a.first a.q c.requires.q_lt_n c.requires.parted _ c.in-Ok.name c.in-Ok.ensures.0 c.in-Ok.ensures.1 c.put.ensures

pub returns-in-Err : goal.returns-in-Err
returns-in-Err c = let a = c.args in place-miss a.part.grid a.work.now a.part.base a.part.states a.first a.q c.requires.q_lt_n c.requires.parted _ _ c.in-Err.last c.in-Err.ensures c.put-in-Err.ensures c.name_new-in-Err.ensures
