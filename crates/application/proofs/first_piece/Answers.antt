use native.Mathlib.Omega.{arith}
use Rattle.std.proofs.Common.{◌≡◌, length, subst}
use Rattle.application.specs.Pieces.{FirstPiece}
use Rattle.application.proofs.Pieces.{passed-more, ends-here, ends_nowhere}
use Rattle.application.proofs.first_piece.Goals as goal

pub returns-then-a-end : goal.returns-then-a-end
returns-then-a-end c =
    let l = c.loop-i in
    let a = c.args in
    ends-here a.end a.s.now l.i l.invariant (omega arith) c.if-a-end.true

pub loop-i-preserved : goal.loop-i-preserved
loop-i-preserved c =
    let l = c.loop-i in
    let a = c.args in
    passed-more a.end a.s.now l.i l.invariant (omega arith) c.if-a-end.false

pub returns : goal.returns
returns c =
    let l = c.loop-i in
    let a = c.args in
    let whole : l.i ≡ length a.s.now = omega arith in
    subst (FirstPiece a.s.now a.end) whole (ends_nowhere a.end a.s.now l.i l.invariant (omega arith))
