use Prim.Native.Nat.{◌+◌, ◌*◌}
use native.Mathlib.Omega.{arith}
use mathlib.Core.Path.{sym}
use Rattle.workspace.specs.Cells.{InRows}
use Rattle.workspace.proofs.Regions.{kept_then}
use Rattle.compose.proofs.Pairs.{slots, spare_inside, composable_kept, first-same, second_same, composed}
use Rattle.compose.proofs.Reached.{searching-next}
use Rattle.compose.proofs.compose.Goals as goal

pub begin-requires : goal.begin-requires
begin-requires c = let a = c.args in
    slots a.g _ _ _ _ _ _ c.requires

pub row-len-requires-clause-composable : goal.row-len-requires-clause-composable
row-len-requires-clause-composable c = let a = c.args in
    let u = c.begin.ensures in
    let start = composable_kept a.g _ _ _ _ _ _ c.requires _ (spare_inside a.g _ _ _ _ _ _ c.requires _ u.kept) in
    let inv = c.loop-i.invariant in
    let s = c.member-s.ensures in
    composable_kept a.g _ _ _ _ _ _ start _ inv.kept

pub loop-i-preserved : goal.loop-i-preserved
loop-i-preserved c = let a = c.args in
    let u = c.begin.ensures in
    let start = composable_kept a.g _ _ _ _ _ _ c.requires _ (spare_inside a.g _ _ _ _ _ _ c.requires _ u.kept) in
    let inv = c.loop-i.invariant in
    searching-next a.g _ _ _ _ _ _ _ _ _ _ (omega arith) c.member-s.ensures.0 inv
    (rw (first-same a.g _ _ _ _ _ _ start _ inv.kept, second_same a.g _ _ _ _ _ _ start _ inv.kept) at c.row-len.ensures)

pub returns : goal.returns
returns c = let a = c.args in
    let u = c.begin.ensures in
    let start = composable_kept a.g _ _ _ _ _ _ c.requires _ (spare_inside a.g _ _ _ _ _ _ c.requires _ u.kept) in
    let inv = c.loop-i.invariant in
    let bk = spare_inside a.g _ _ _ _ _ _ c.requires _ u.kept in
    let made = composed a.g _ _ _ _ _ _ start _ _ _ (omega arith) inv in
    record {
      few = made.few;
      kept = kept_then a.g (InRows a.base (a.base + a.n * a.m)) _ _ _ bk inv.kept;
      stands = rw (sym (first-same a.g _ _ _ _ _ _ c.requires _ bk), sym (second_same a.g _ _ _ _ _ _ c.requires _ bk)) made.stands;
    }
