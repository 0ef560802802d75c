use native.Mathlib.Omega.{arith}
use mathlib.Core.Path.{refl}
use Rattle.workspace.specs.Entries.{NEXT, FINAL}
use Rattle.workspace.specs.Cells.{at}
use Rattle.encoder.proofs.Encoding.{inner_in}
use Rattle.comparing.proofs.Rows.{final_bytes, output_bytes, next_low, both_count, row_put}
use Rattle.comparing.proofs.put_row.Goals as goal

pub put_cells-requires-clause-sized : goal.put_cells-requires-clause-sized
put_cells-requires-clause-sized c = let a = c.args in
    let bytes = output_bytes c.requires.ready.0 c.requires.ready.1 a.q a.a c.requires.q_lt_n.0 c.requires.q_lt_n.1 in
    let count = both_count c.requires.ready.0 c.requires.ready.1 a.q a.a c.requires.q_lt_n.0 c.requires.q_lt_n.1 (at a.g a.work.now a.q a.a NEXT) refl in
    (c.requires.ready.0.sized, bytes)

pub put_cells-requires-clause-count_bound : goal.put_cells-requires-clause-count_bound
put_cells-requires-clause-count_bound c = let a = c.args in
    let bytes = output_bytes c.requires.ready.0 c.requires.ready.1 a.q a.a c.requires.q_lt_n.0 c.requires.q_lt_n.1 in
    let count = both_count c.requires.ready.0 c.requires.ready.1 a.q a.a c.requires.q_lt_n.0 c.requires.q_lt_n.1 (at a.g a.work.now a.q a.a NEXT) refl in
    (omega (arith, c.get-count.ensures.is), omega (arith, c.get-count.ensures.is, count, c.requires.q_lt_n.2))

pub get-held-requires-clause-fact : goal.get-held-requires-clause-fact
get-held-requires-clause-fact c = let a = c.args in
    let low = next_low c.requires.ready.0 c.requires.ready.1 a.q a.a c.requires.q_lt_n.0 c.requires.q_lt_n.1 c.get-next.result c.get-next.ensures.is in
    inner_in a.g a.work.now c.get-next.result a.g.tags FINAL (final_bytes c.requires.ready.0 c.requires.ready.1 c.get-next.result low).inner

pub put_cells-requires-2-clause-sized : goal.put_cells-requires-2-clause-sized
put_cells-requires-2-clause-sized c = let a = c.args in
    let next = c.get-next in
    let low = next_low c.requires.ready.0 c.requires.ready.1 a.q a.a c.requires.q_lt_n.0 c.requires.q_lt_n.1 next.result next.ensures.is in
    let count = both_count c.requires.ready.0 c.requires.ready.1 a.q a.a c.requires.q_lt_n.0 c.requires.q_lt_n.1 next.result next.ensures.is in (c.requires.ready.0.sized, final_bytes c.requires.ready.0 c.requires.ready.1 next.result low)

pub put_cells-requires-2-clause-count_bound : goal.put_cells-requires-2-clause-count_bound
put_cells-requires-2-clause-count_bound c = let a = c.args in
    let next = c.get-next in
    let low = next_low c.requires.ready.0 c.requires.ready.1 a.q a.a c.requires.q_lt_n.0 c.requires.q_lt_n.1 next.result next.ensures.is in
    let count = both_count c.requires.ready.0 c.requires.ready.1 a.q a.a c.requires.q_lt_n.0 c.requires.q_lt_n.1 next.result next.ensures.is in (omega (arith, c.get-held.ensures.is), omega (arith, c.get-held.ensures.is, c.get-count.ensures.is, count, c.requires.q_lt_n.2))

pub returns : goal.returns
returns c = let a = c.args in
    let count = c.get-count in
    let first = c.put_cells in
    let next = c.get-next in
    let held = c.get-held in
    let second = c.put_cells-2 in
    row_put c.requires.ready.0 c.requires.ready.1 a.q a.a c.requires.q_lt_n.0 c.requires.q_lt_n.1 next.result next.ensures.is a.out.now first.new.out second.new.out a.from
    count.result held.result count.ensures.is held.ensures.is c.requires.q_lt_n.2 first.auto.out first.ensures second.ensures
