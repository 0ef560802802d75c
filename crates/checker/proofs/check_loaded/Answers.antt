use native.Mathlib.Omega.{arith}
use mathlib.Core.Path.{◌∙◌}
use Rattle.tables.proofs.Words.{below_of}
use Rattle.decoder.proofs.Loading.{is-loaded}
use Rattle.checker.proofs.Stages.{is-given}
use Rattle.checker.proofs.check_loaded.Goals as goal

pub check_read-requires-clause-readable : goal.check_read-requires-clause-readable
check_read-requires-clause-readable c = let l = c.load in
    let w = c.from in
    let u = is-loaded c.args.lim c.args.table.now c.args.size.tags _ l.result l.ensures (c.if-not-load.false) in (c.requires.readable.0, is-given c.args.lim c.args.table.now c.args.size.tags c.args.k c.args.size.states _ c.requires.readable.1 (below_of 0x100 c.args.table.now (λ i. omega (arith, c.type_inv.table i))) u (c.if-size-from.false ∙ w.ensures))
