use native.Mathlib.Omega.{arith}
use Prim.Native.Nat.{◌<◌}
use lib.ListN.{length}
use Rattle.equivalence.specs.Tables.{table_in}
use Rattle.equivalence.proofs.Tables.{few, bound, left-low, right-low, entry_in, base_some, left-next, next_in, right-next, left_next_low, right_next_low}
use Rattle.equivalence.proofs.Trying.{follows_from}
use Rattle.equivalence.proofs.follow.Goals as goal
use Rattle.equivalence.proofs.follow.Goals.{Start}

-- `equivalence::follow` meets its contract.
-- the states are in their ranges
left_at : (st : Start) → st.args.p < length (table_in st.args.both.lim st.args.both.table.now)
left_at c = omega (arith, c.requires.p_value.0, left-low c.requires.tables.0 c.requires.searching.0 c.args.i c.requires.searching.1)

right_at : (st : Start) → st.args.q < st.args.both.rows
right_at c = omega (arith, c.requires.p_value.1, right-low c.requires.tables.0 c.requires.searching.0 c.args.i c.requires.searching.1)

pub entry_of-e-requires : goal.entry_of-e-requires
entry_of-e-requires c = let a = c.args in
    entry_in c.requires.tables.0 a.p a.q a.a (left_at (goal.at.entry_of-e-requires c).Start) (right_at (goal.at.entry_of-e-requires c).Start) c.requires.searching.2

pub next_state-left-requires : goal.next_state-left-requires
next_state-left-requires c = let a = c.args in
    base_some c.requires.tables.0 a.p a.q a.a (left_at (goal.at.next_state-left-requires c).Start) (right_at (goal.at.next_state-left-requires c).Start) c.requires.searching.2 _ c.entry_of-e.ensures

pub get-right-requires-clause-fact : goal.get-right-requires-clause-fact
get-right-requires-clause-fact c = let a = c.args in
    next_in c.requires.tables.0 a.p a.q a.a (left_at (goal.at.get-right-requires-clause-fact c).Start) (right_at (goal.at.get-right-requires-clause-fact c).Start) c.requires.searching.2

pub link-requires : goal.link-requires
link-requires c = let a = c.args in
    let ok = c.requires.tables.0 in
    let e = c.entry_of-e in
    let l = left-next ok a.p a.q a.a (left_at (goal.at.link-requires c).Start) (right_at (goal.at.link-requires c).Start) c.requires.searching.2 e.result _ e.ensures c.next_state-left.ensures in
    let r = right-next ok a.p a.q a.a (left_at (goal.at.link-requires c).Start) (right_at (goal.at.link-requires c).Start) c.requires.searching.2 _ c.get-right.ensures.is in
    let ll = left_next_low ok a.p a.q a.a (left_at (goal.at.link-requires c).Start) (right_at (goal.at.link-requires c).Start) c.requires.searching.2 in
    let rl = right_next_low ok a.p a.q a.a (left_at (goal.at.link-requires c).Start) (right_at (goal.at.link-requires c).Start) c.requires.searching.2 in
    let n = bound ok c.requires.searching.0 in
    (c.requires.tables.1.labels_long, omega (arith, l, ll), omega (arith, r, rl), omega (arith, n, few ok), omega (arith, n, c.requires.tables.1.pairs_long))

pub returns : goal.returns
returns c = let a = c.args in
    let ok = c.requires.tables.0 in
    let e = c.entry_of-e in
    let l = left-next ok a.p a.q a.a (left_at (goal.at.returns c).Start) (right_at (goal.at.returns c).Start) c.requires.searching.2 e.result _ e.ensures c.next_state-left.ensures in
    let r = right-next ok a.p a.q a.a (left_at (goal.at.returns c).Start) (right_at (goal.at.returns c).Start) c.requires.searching.2 _ c.get-right.ensures.is in
    follows_from ok c.requires.searching.0 c.requires.tables.1 c.requires.searching.1 c.requires.searching.2 a.p a.q c.requires.p_value.0 c.requires.p_value.1 c.requires.p_value.2 _ _ _ _ _ l r c.link.ensures
