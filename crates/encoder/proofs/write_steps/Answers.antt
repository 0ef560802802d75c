use native.Mathlib.Omega.{arith}
use mathlib.Core.Path.{◌∙◌}
use lib.ListN.{length}
use Rattle.tables.specs.Bytes.{step_bytes}
use Rattle.encoder.specs.Encoding.{step_in}
use Rattle.encoder.proofs.Encoding.{parts_room, parts_wrote}
use Rattle.encoder.proofs.write_steps.Goals as goal

pub write_step-to-requires-clause-a_lt_tags : goal.write_step-to-requires-clause-a_lt_tags
write_step-to-requires-clause-a_lt_tags c = let l = c.loop-a in (
  omega arith,
  parts_room step_bytes (step_in c.args.g c.args.work.now c.args.r) l.a c.args.g.tags c.args.from l.to (length l.out)
      (omega arith) (omega (arith, c.requires.r_in_bounds)) l.invariant.1.end,
)

pub loop-a-preserved : goal.loop-a-preserved
loop-a-preserved c = let l = c.loop-a in
    let w = c.write_step-to in
    let f = step_in c.args.g c.args.work.now c.args.r in (
      w.auto.out ∙ l.invariant.0,
      parts_wrote step_bytes f c.args.out.now l.out w.new.out c.args.from l.to w.result l.a l.invariant.1 w.ensures,
    )
