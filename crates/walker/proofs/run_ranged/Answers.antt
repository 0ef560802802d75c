use native.Mathlib.Omega.{arith}
use Rattle.std.proofs.lemmas.Result.{err_from_is_err_and}
use Rattle.walker.proofs.Runs.{loaded-refused, loaded-accepted, loaded-way}
use Rattle.walker.proofs.run_ranged.Goals as goal

pub returns-in_err-admit : goal.returns-in_err-admit
returns-in_err-admit c = let a = c.args in
    let h = c.number_at-head in
    let p = err_from_is_err_and c.from_residual.result c.from_residual.ensures.1 in
    rw (p.1, p.2) (loaded-refused a.lim c.requires a.loaded.now a.sentence.now a.out.now h.result h.ensures.0 (omega arith) (omega arith) _ c.in_err-admit.ensures)

pub run_accepted-requires : goal.run_accepted-requires
run_accepted-requires c = let a = c.args in
    let h = c.number_at-head in
    (loaded-accepted a.lim c.requires a.loaded.now a.sentence.now a.out.now h.result h.ensures.0 (omega arith) (omega arith) c.in_ok-admit.ensures, omega (arith, c.requires.few_tags))

pub returns : goal.returns
returns c = let a = c.args in
    let h = c.number_at-head in
    loaded-way a.lim c.requires a.loaded.now a.sentence.now a.out.now h.result h.ensures.0 (omega arith) (omega arith) c.in_ok-admit.ensures _ _ c.run_accepted.ensures
