use native.Mathlib.Omega.{arith}
use mathlib.Core.Path.{◌∙◌}
use Rattle.comparing.proofs.Step.{of_table, right-room, right-put}
use Rattle.comparing.proofs.put_right.Goals as goal

pub put_row-requires-clause-q_lt_n : goal.put_row-requires-clause-q_lt_n
put_row-requires-clause-q_lt_n c = let more = c.saturating_sub-ahead in
    let held = c.get in
    let entry = c.entry_of-f in
    let count = c.count_of in (c.requires.right, c.requires.tag, omega (arith, right-room c.requires entry.result count.result held.result entry.ensures count.ensures.0 held.ensures.is more.result more.ensures))

pub returns : goal.returns
returns c t indexed below = let more = c.saturating_sub-ahead in
    let held = c.get in
    let count = c.count_of in
    let entry = c.entry_of-f in
    let place = c.place_of in
    let first = c.put_word in
    let second = c.put_row in
    right-put (of_table c.requires t indexed below) entry.result count.result held.result entry.ensures count.ensures.0 held.ensures.is more.result more.ensures
    first.new.out second.new.out place.result second.result place.ensures (second.auto.out ∙ first.auto.out) first.ensures second.ensures
