use Rattle.transducers.specs.Table.{shape}
use Rattle.workspace.specs.Holds.{standing}
use Rattle.comparing.proofs.Step.{step-apart}
use Rattle.comparing.proofs.step_agrees.Goals as goal

pub returns-then-count-put_right : goal.returns-then-count-put_right
returns-then-count-put_right c t indexed below = let a = c.args in
    let left = c.put_left-count in
    let right = c.put_right in
    step-apart (shape t) (standing a.g a.work.now 0 a.n) a.p a.q a.a left.new.out right.new.out left.result right.result
    (left.ensures t indexed below) (right.ensures t indexed below) c.if-count-put_right.true
