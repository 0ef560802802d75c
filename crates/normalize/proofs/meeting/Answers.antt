use Rattle.normalize.specs.Fronts.{front_at}
use Rattle.workspace.specs.Holds.{standing}
use mathlib.Core.List.{◌++◌}
use Prim.Native.Nat.{◌<◌}
use Rattle.normalize.proofs.Lower.{front-short, front-stops, front_goes, meeting_le}
use Rattle.workspace.proofs.Views.{final-inner, output-inner, final-size, next_at-below}
use native.Mathlib.Omega.{arith}
use Rattle.normalize.proofs.meeting.Goals as goal

pub common-requires-clause-inner : goal.common-requires-clause-inner
common-requires-clause-inner c = let a = c.args in let r = c.requires.fronted.ready in final-inner a.part.grid a.work.now a.part.base a.part.states r a.q c.requires.q_lt_n.0

pub common-requires-clause-inner_2 : goal.common-requires-clause-inner_2
common-requires-clause-inner_2 c = let a = c.args in let r = c.requires.fronted.ready in output-inner a.part.grid a.work.now a.part.base a.part.states r a.q a.a c.requires.q_lt_n.0 c.requires.q_lt_n.1

pub common-requires-clause-limit_bound : goal.common-requires-clause-limit_bound
common-requires-clause-limit_bound c = let a = c.args in let r = c.requires.fronted.ready in (omega (arith, c.get-own.ensures.is, final-size a.part.grid a.work.now a.part.base a.part.states r a.q c.requires.q_lt_n.0, c.requires.fronted.fronts a.q c.requires.q_lt_n.0), omega (arith, c.get-long.ensures.is, c.if-own-long.true))

pub returns-then-own-long : goal.returns-then-own-long
returns-then-own-long c = let a = c.args in front-short a.part.grid a.work.now a.part.base a.part.states c.requires.fronted a.q a.a _ _ c.requires.q_lt_n.0 c.requires.q_lt_n.1 c.get-own.ensures.is c.get-long.ensures.is _ c.if-own-long.true c.common.ensures

pub common-j-requires-clause-inner : goal.common-j-requires-clause-inner
common-j-requires-clause-inner c = let a = c.args in let r = c.requires.fronted.ready in final-inner a.part.grid a.work.now a.part.base a.part.states r a.q c.requires.q_lt_n.0

pub common-j-requires-clause-limit_bound : goal.common-j-requires-clause-limit_bound
common-j-requires-clause-limit_bound c = let a = c.args in let r = c.requires.fronted.ready in (omega (arith, c.get-own.ensures.is, c.if-own-long.false, final-size a.part.grid a.work.now a.part.base a.part.states r a.q c.requires.q_lt_n.0, c.requires.fronted.fronts a.q c.requires.q_lt_n.0), omega (arith, c.get-long.ensures.is))

pub returns-then-j-long : goal.returns-then-j-long
returns-then-j-long c = let a = c.args in front-stops a.part.grid a.work.now a.part.base a.part.states c.requires.fronted a.q a.a _ _ c.requires.q_lt_n.0 c.requires.q_lt_n.1 c.get-own.ensures.is c.get-long.ensures.is _ (omega arith) c.common-j.ensures c.if-j-long.true

pub common-requires-2-clause-inner : goal.common-requires-2-clause-inner
common-requires-2-clause-inner c = let a = c.args in let r = c.requires.fronted.ready in
    let to : c.get-next.result < a.part.states = omega (arith, c.get-next.ensures.is, next_at-below a.part.grid a.work.now a.part.base a.part.states r a.q a.a c.requires.q_lt_n.0 c.requires.q_lt_n.1) in final-inner a.part.grid a.work.now a.part.base a.part.states r a.q c.requires.q_lt_n.0

pub common-requires-2-clause-inner_2 : goal.common-requires-2-clause-inner_2
common-requires-2-clause-inner_2 c = let a = c.args in let r = c.requires.fronted.ready in
    let to : c.get-next.result < a.part.states = omega (arith, c.get-next.ensures.is, next_at-below a.part.grid a.work.now a.part.base a.part.states r a.q a.a c.requires.q_lt_n.0 c.requires.q_lt_n.1) in final-inner a.part.grid a.work.now a.part.base a.part.states r c.get-next.result to

pub common-requires-2-clause-limit_bound : goal.common-requires-2-clause-limit_bound
common-requires-2-clause-limit_bound c = let a = c.args in let r = c.requires.fronted.ready in
    let to : c.get-next.result < a.part.states = omega (arith, c.get-next.ensures.is, next_at-below a.part.grid a.work.now a.part.base a.part.states r a.q a.a c.requires.q_lt_n.0 c.requires.q_lt_n.1) in (
      omega (arith, c.get-own.ensures.is, c.if-own-long.false, c.min.ensures, final-size a.part.grid a.work.now a.part.base a.part.states r a.q c.requires.q_lt_n.0, c.requires.fronted.fronts a.q c.requires.q_lt_n.0),
      omega (arith, c.get-other.ensures.is, c.min.ensures, final-size a.part.grid a.work.now a.part.base a.part.states r c.get-next.result to, c.requires.fronted.fronts c.get-next.result to),
    )

pub overflow_add-result : goal.overflow_add-result
overflow_add-result c = let a = c.args in
    let S = standing a.part.grid a.work.now a.part.base a.part.states in
    omega (
      arith,
      c.get-own.ensures.is,
      c.get-own.ensures.small,
      front_goes a.part.grid a.work.now a.part.base a.part.states c.requires.fronted a.q a.a _ _ c.requires.q_lt_n.0 c.requires.q_lt_n.1 c.get-own.ensures.is c.get-long.ensures.is _ (omega arith) c.common-j.ensures _ _ _ _ (omega arith) c.get-next.ensures.is c.get-other.ensures.is c.min.ensures c.common-2.ensures,
      meeting_le a.part.grid a.work.now a.part.base a.part.states c.requires.fronted a.q c.requires.q_lt_n.0 (S.output a.q a.a ++ front_at a.part.grid a.work.now a.part.base a.part.states (S.next a.q a.a)),
    )

pub returns : goal.returns
returns c = let a = c.args in front_goes a.part.grid a.work.now a.part.base a.part.states c.requires.fronted a.q a.a _ _ c.requires.q_lt_n.0 c.requires.q_lt_n.1 c.get-own.ensures.is c.get-long.ensures.is _ (omega arith) c.common-j.ensures _ _ _ _ (omega arith) c.get-next.ensures.is c.get-other.ensures.is c.min.ensures c.common-2.ensures
