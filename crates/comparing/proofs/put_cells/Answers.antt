use native.Mathlib.Omega.{arith}
use mathlib.Core.Path.{◌∙◌}
use lib.ListN.{length-set}
use Rattle.workspace.specs.Cells.{word}
use Rattle.workspace.proofs.Words.{word-length}
use Rattle.encoder.proofs.Encoding.{tag_got}
use Rattle.comparing.proofs.Words.{paste_next}
use Rattle.comparing.proofs.put_cells.Goals as goal

pub byte-requires : goal.byte-requires
byte-requires c = let l = c.loop-i in
    let a = c.args in
    (tag_got a.g a.work.now a.r a.c a.s l.i c.get-tag.result c.requires.sized.1 (omega arith) c.get-tag.ensures).1

pub loop-i-preserved : goal.loop-i-preserved
loop-i-preserved c = let l = c.loop-i in
    let a = c.args in
    let got = tag_got a.g a.work.now a.r a.c a.s l.i c.get-tag.result c.requires.sized.1 (omega arith) c.get-tag.ensures in (
      simp length-set (omega arith),
      paste_next a.out.now l.out (word a.g a.work.now a.r a.c a.s) a.from l.i c.byte.result (omega arith)
          (omega (arith, word-length a.g a.work.now a.r a.c a.s)) (c.byte.ensures ∙ got.0) l.invariant.1,
    )
