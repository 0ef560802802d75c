use native.Mathlib.Omega.{arith}
use mathlib.Core.Path.{◌≡◌, ap, ◌∙◌}
use Rattle.matcher.specs.Next.{goes, restarts}
use Rattle.onerule.proofs.Words.{restarts-below}
use Rattle.onerule.proofs.Behind.{border_before, behind_before}
use Rattle.onerule.proofs.LengthsStates.step.Goals as goal

pub overflow_add-back : goal.overflow_add-back
overflow_add-back c = let a = c.args in
    let s = c.requires.serves in
    omega (arith, c.requires.q_in.1, c.requires.sized.0.rows_small, border_before a.g a.work.now _ _ a.base _ _ a.q _ s c.requires.q_in.0 (s.borders_are.entry a.q (omega (arith, c.requires.q_in.0, s.few))))

pub next_of-grown-requires-clause-behind : goal.next_of-grown-requires-clause-behind
next_of-grown-requires-clause-behind c = let a = c.args in
    let s = c.requires.serves in
    behind_before a.g _ _ _ a.base _ _ a.q _ s c.requires.q_in.0 (s.borders_are.entry a.q (omega (arith, c.requires.q_in.0, s.few))) c.requires.q_in.1 c.requires.earlier

pub returns-clause-next : goal.returns-clause-next
returns-clause-next c = let a = c.args in
    let u = a.pattern.tags.now in
    let count = a.self.now.count in
    let is : c.restart-next.result ≡ restarts count a.pattern.end a.a (goes u a.q a.a) = c.restart-next.ensures ∙ ap (restarts count a.pattern.end a.a) c.next_of-grown.ensures in
    (is, omega (arith, restarts-below u count a.pattern.end a.q a.a (omega (arith, c.requires.q_in.0, c.requires.serves.few)), c.requires.serves.short))
