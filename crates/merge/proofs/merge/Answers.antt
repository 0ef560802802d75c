use Rattle.merge.proofs.Seats.{part_seated}
use Rattle.merge.proofs.Rounds.{worded_first, worded_next, still-next, round_falls, merged_done}
use Rattle.workspace.proofs.Regions.{kept-none, kept_then, kept_wider}
use Rattle.workspace.specs.Entries.{CLASS, LINK}
use Rattle.workspace.specs.Cells.{Spare}
use native.Mathlib.Omega.{arith}
use Prim.Native.Nat.{◌+◌}
use Rattle.merge.proofs.merge.Goals as goal

pub round-requires : goal.round-requires
round-requires c = let a = c.args in part_seated a.part.grid a.part.base a.part.states a.work.now _ c.requires.ready c.requires.early c.start_classes.ensures

pub loop-part-init : goal.loop-part-init
loop-part-init c = let a = c.args in
    let s = part_seated a.part.grid a.part.base a.part.states a.work.now _ c.requires.ready c.requires.early c.start_classes.ensures in
    (kept-none a.part.grid _ _, c.round.ensures.part, worded_first a.part.grid _ _ a.part.base a.part.states s _ c.round.ensures)

pub loop-part-smaller : goal.loop-part-smaller
loop-part-smaller c = let a = c.args in
    round_falls a.part.grid _ _ a.part.base a.part.states c.loop-part.invariant.1 _ _ c.round-in-loop-part.ensures c.loop-part-test.true

pub loop-part-preserved : goal.loop-part-preserved
loop-part-preserved c = let a = c.args in (
  kept_then a.part.grid _ _ _ _ c.loop-part.invariant.0 c.round-in-loop-part.ensures.kept,
  c.round-in-loop-part.ensures.part,
  worded_next a.part.grid _ _ a.part.base a.part.states c.loop-part.invariant.1 _ c.loop-part.invariant.2 c.round-in-loop-part.ensures,
)

pub returns : goal.returns
returns c = let a = c.args in
    let R = Spare a.part.grid a.part.base (a.part.base + a.part.states) CLASS (LINK + 1) in
    let inv = c.loop-part.invariant in
    let last = c.round-in-loop-part.ensures in
    merged_done a.part.grid _ _ a.part.base a.part.states c.requires.ready
    (kept_then a.part.grid R _ _ _ (kept_then a.part.grid R _ _ _ (kept_wider a.part.grid R _ _ _ c.start_classes.ensures.kept (λ r c e i. (i.0, i.1, i.2, i.3, omega (arith, i.4)))) c.round.ensures.kept) (kept_then a.part.grid R _ _ _ inv.0 last.kept))
    last.part (worded_next a.part.grid _ _ a.part.base a.part.states inv.1 _ inv.2 last) (still-next a.part.grid _ _ a.part.base a.part.states inv.1 _ last c.loop-part-test.false)
