use native.Mathlib.Omega.{arith}
use Rattle.transduction.proofs.Runs.{run-ready, run-front}
use Rattle.transduction.proofs.run_loaded.Goals as goal

pub transduce-requires : goal.transduce-requires
transduce-requires c = let a = c.args in
    run-ready a.lim a.table.now a.sentence.now a.out.now a.k a.index.now c.requires c.in_ok-admit.ensures

pub slice_bounds-count_changes-end : goal.slice_bounds-count_changes-end
slice_bounds-count_changes-end c = let a = c.args in
    omega (arith, (run-ready a.lim a.table.now a.sentence.now a.out.now a.k a.index.now c.requires c.in_ok-admit.ensures).room)

pub slice_bounds-count_changes-end-2 : goal.slice_bounds-count_changes-end-2
slice_bounds-count_changes-end-2 c = let a = c.args in
    run-front a.lim a.table.now a.sentence.now a.out.now a.k a.index.now c.requires c.in_ok-admit.ensures c.transduce.new.out c.transduce.ensures

pub count_changes-requires : goal.count_changes-requires
count_changes-requires c = let a = c.args in
    run-front a.lim a.table.now a.sentence.now a.out.now a.k a.index.now c.requires c.in_ok-admit.ensures c.transduce.new.out c.transduce.ensures
