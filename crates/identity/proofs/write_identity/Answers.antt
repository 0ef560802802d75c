use native.Mathlib.Omega.{arith}
use Rattle.minimal.specs.TableOf.{identity}
use Rattle.workspace.proofs.Holds.{stepping_end, holds-table}
use Rattle.identity.proofs.Row.{roomy, inside, only}
use Rattle.identity.proofs.write_identity.Goals as goal

pub returns-clause-holds : goal.returns-clause-holds
returns-clause-holds c = let g = c.args.g in
    let row =
    stepping_end g 0 identity 0 (omega arith) (roomy g c.requires.rows_nonzero.1) _ _ _
    c.write_steps.ensures c.clear.ensures
    in holds-table g _ 0 identity (omega arith) (inside g.tags) (roomy g c.requires.rows_nonzero.1) (λ q h. only g _ q h row.state)
