use Prim.Native.Nat.{◌+◌}
use Rattle.workspace.proofs.Words.{word-length}
use Rattle.workspace.specs.Cells.{word}
use lib.ListN.{length-drop}
use Rattle.normalize.proofs.Strips.{got_to, got_in, got_past}
use native.Mathlib.Omega.{arith}
use Rattle.normalize.proofs.strip_step.Goals as goal

pub append-requires-clause-from_le_to : goal.append-requires-clause-from_le_to
append-requires-clause-from_le_to c = let a = c.args in
    let i = got_to a.part.grid a.work.now a.part.base a.q a.a c.requires _ _ _ _ c.get-own.ensures.is c.get-long.ensures.is c.get-next.ensures.is c.get-other.ensures.is _ c.drop_front.ensures.kept in
    (omega arith, i.1, omega (arith, i.3, c.drop_front.ensures.size, length-drop c.get-own.result (word a.part.grid a.work.now (a.part.base + a.q) a.a 1), word-length a.part.grid a.work.now (a.part.base + a.q) a.a 1, c.get-long.ensures.is))

pub returns-then-own-long : goal.returns-then-own-long
returns-then-own-long c = let a = c.args in got_in a.part.grid a.work.now a.part.base a.q a.a c.requires _ _ _ _ c.get-own.ensures.is c.get-long.ensures.is c.get-next.ensures.is c.get-other.ensures.is _ _ c.if-own-long.true c.drop_front.ensures c.append.ensures

pub returns : goal.returns
returns c = let a = c.args in got_past a.part.grid a.work.now a.part.base a.q a.a c.requires _ _ _ _ c.get-own.ensures.is c.get-long.ensures.is c.get-next.ensures.is c.get-other.ensures.is _ _ (omega arith) c.clear.ensures c.append-2.ensures
