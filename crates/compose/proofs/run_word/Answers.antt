use native.Mathlib.Omega.{arith}
use Rattle.compose.proofs.Runs.{Reading, reading, running-next, running-end}
use Rattle.compose.proofs.run_word.Goals as goal
use Rattle.compose.proofs.run_word.Goals.{After-get-tag}

-- the tag that is read, and where its step stands
read : (c : After-get-tag) → Reading c.args.g c.args.work.now c.loop-i.work c.args.base c.args.m c.args.r c.args.c c.args.s c.args.r2 c.args.c2 c.args.s2 c.loop-i.i c.loop-i.state c.get-tag.result
read c = reading c.args.g _ _ _ _ _ _ _ _ _ _ c.requires _ _ _ c.get-tag.result c.loop-i.invariant (omega (arith, c.get-n.ensures.is)) c.get-tag.ensures

pub overflow_add-base : goal.overflow_add-base
overflow_add-base c = omega (arith, (read (goal.at.overflow_add-base c).After-get-tag).from.row, c.requires.sized.rows_small)

pub append_word-requires-clause-inner : goal.append_word-requires-clause-inner
append_word-requires-clause-inner c = (read (goal.at.append_word-requires-clause-inner c).After-get-tag).from

pub append_word-requires-clause-s_bound : goal.append_word-requires-clause-s_bound
append_word-requires-clause-s_bound c = (read (goal.at.append_word-requires-clause-s_bound c).After-get-tag).room

pub overflow_add-base-in-loop-i : goal.overflow_add-base-in-loop-i
overflow_add-base-in-loop-i c = omega (arith, (read (goal.at.overflow_add-base-in-loop-i c).After-get-tag).from.row, c.requires.sized.rows_small)

pub get-state-requires-clause-fact : goal.get-state-requires-clause-fact
get-state-requires-clause-fact c = let from = (read (goal.at.get-state-requires-clause-fact c).After-get-tag).from in
    record { row = from.row; cell = from.cell; entry = omega (arith, from.inside) }

pub loop-i-preserved : goal.loop-i-preserved
loop-i-preserved c = running-next c.args.g _ _ _ _ _ _ _ _ _ _ c.requires _ _ _ _ c.loop-i.invariant (omega (arith, c.get-n.ensures.is)) _ _
    (read (goal.at.loop-i-preserved c).After-get-tag) c.append_word.ensures c.get-state.ensures

pub returns : goal.returns
returns c = running-end c.args.g _ _ _ _ _ _ _ _ _ _ c.requires _ _ _ c.loop-i.invariant (omega (arith, c.get-n.ensures.is))
