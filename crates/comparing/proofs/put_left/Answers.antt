use native.Mathlib.Omega.{arith}
use mathlib.Core.Path.{◌∙◌}
use Rattle.comparing.proofs.Rows.{final_bytes}
use Rattle.comparing.proofs.Step.{of_table, left-room, left_puttable, left-put}
use Rattle.comparing.proofs.put_left.Goals as goal

pub put_cells-requires-clause-sized : goal.put_cells-requires-clause-sized
put_cells-requires-clause-sized c = let a = c.args in
    let more = c.saturating_sub-ahead in
    let held = c.get in
    let entry = c.entry_of in
    let count = c.count_of-held in
    let room = left-room c.requires entry.result count.result held.result entry.ensures count.ensures.0 held.ensures.is more.result more.ensures in (c.requires.ready.sized, final_bytes c.requires.ready c.requires.few_tags a.q c.requires.right)

pub put_cells-requires-clause-count_bound : goal.put_cells-requires-clause-count_bound
put_cells-requires-clause-count_bound c = let a = c.args in
    let more = c.saturating_sub-ahead in
    let held = c.get in
    let entry = c.entry_of in
    let count = c.count_of-held in
    let room = left-room c.requires entry.result count.result held.result entry.ensures count.ensures.0 held.ensures.is more.result more.ensures in (omega (arith, more.ensures, held.ensures.is), omega (arith, room))

pub put_step-requires : goal.put_step-requires
put_step-requires c = let more = c.saturating_sub-ahead in
    let held = c.get in
    let count = c.count_of-held in
    let entry = c.entry_of in
    let step = c.entry_of-e in
    let first = c.put_cells in
    left_puttable c.requires entry.result count.result held.result entry.ensures count.ensures.0 held.ensures.is more.result more.ensures step.result
    first.new.out step.ensures first.auto.out

pub returns : goal.returns
returns c t indexed below = let more = c.saturating_sub-ahead in
    let held = c.get in
    let count = c.count_of-held in
    let entry = c.entry_of in
    let step = c.entry_of-e in
    let first = c.put_cells in
    let second = c.put_step in
    left-put (of_table c.requires t indexed below) entry.result count.result held.result entry.ensures count.ensures.0 held.ensures.is more.result more.ensures
    first.new.out second.new.out step.result second.result step.ensures (second.auto.out ∙ first.auto.out) first.ensures second.ensures
