use Rattle.workspace.proofs.Words.{word_push}
use native.Mathlib.Omega.{arith}
use Rattle.workspace.proofs.push.Goals as goal

pub returns : goal.returns
returns c = word_push c.args.g c.args.work.now c.put.new.work c.put-2.new.work
    c.args.r c.args.c c.args.s c.get-n.result c.args.tag
    c.get-n.ensures.is c.requires.fact.cell (omega arith)
    c.put.ensures c.put-2.ensures
