use mathlib.Core.Path.{refl}
use Rattle.cascades.specs.Rule.{Cascade, ending}
use Rattle.books.specs.Arrays.{Arrays, arrays, cascade_of}
use Rattle.builder.proofs.Ending.{in_rows}
use Rattle.checker.proofs.Judging.{answers_judged}
use Rattle.checker.proofs.check_built.Goals as goal
use Rattle.checker.proofs.check_built.Goals.{Start}

-- `checker::check_built` meets its contract.
abbrev the_arrays : Start → Arrays
the_arrays st = arrays st.args.rules.now st.args.sets.now

abbrev cascade : Start → Cascade
cascade st = ending st.args.end (cascade_of st.args.g.tags (the_arrays st) st.args.m)

pub returns-clause-said : goal.returns-clause-said
returns-clause-said c = let u = c.build_rows in
    answers_judged c.args.lim c.args.table.now (cascade (goal.at.returns-clause-said c).Start) c.args.out.now c.args.g u.new.work c.in_ok-rows.rows (in_rows c.args.g u.new.work 256 (cascade (goal.at.returns-clause-said c).Start) u.result u.ensures.built c.in_ok-rows.rows c.in_ok-rows.was) refl _ c.judge.result c.judge.ensures
