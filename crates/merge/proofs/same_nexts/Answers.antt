use Rattle.merge.proofs.Keys.{all-next}
use Rattle.words.proofs.Decides.{decides_no}
use Rattle.merge.specs.Classes.{class_of}
use Rattle.workspace.proofs.Views.{next_is, next_at-below}
use Rattle.workspace.specs.Holds.{standing}
use mathlib.Core.Path.{◌≡◌, sym, ap, ◌∙◌}
use native.Mathlib.Omega.{arith}
use Rattle.merge.proofs.same_nexts.Goals as goal

pub get-requires : goal.get-requires
get-requires c = let a = c.args in omega (arith, c.get-p2.ensures.is, next_at-below a.part.grid a.work.now a.part.base a.part.states c.requires.ready a.p c.loop-a.a c.requires.p_lt_n.0 (omega arith))

pub get-requires-in-loop-a : goal.get-requires-in-loop-a
get-requires-in-loop-a c = let a = c.args in omega (arith, c.get-q2.ensures.is, next_at-below a.part.grid a.work.now a.part.base a.part.states c.requires.ready a.q c.loop-a.a c.requires.p_lt_n.1 (omega arith))

pub returns-then-get : goal.returns-then-get
returns-then-get c = let a = c.args in decides_no _ (λ all. c.if-get.true (c.get.ensures.is ∙ ap (class_of a.part.grid a.work.now a.part.base) (c.get-p2.ensures.is ∙ next_is a.part.grid a.work.now a.part.base a.part.states c.requires.ready a.p c.loop-a.a c.requires.p_lt_n.0 (omega arith)) ∙ all c.loop-a.a (omega arith)
    ∙ sym (c.get-in-loop-a.ensures.is ∙ ap (class_of a.part.grid a.work.now a.part.base) (c.get-q2.ensures.is ∙ next_is a.part.grid a.work.now a.part.base a.part.states c.requires.ready a.q c.loop-a.a c.requires.p_lt_n.1 (omega arith)))))

pub loop-a-preserved : goal.loop-a-preserved
loop-a-preserved c = let a = c.args in all-next (λ b. class_of a.part.grid a.work.now a.part.base ((standing a.part.grid a.work.now a.part.base a.part.states).next a.p b) ≡ class_of a.part.grid a.work.now a.part.base ((standing a.part.grid a.work.now a.part.base a.part.states).next a.q b)) c.loop-a.a c.loop-a.invariant
    (sym (c.get.ensures.is ∙ ap (class_of a.part.grid a.work.now a.part.base) (c.get-p2.ensures.is ∙ next_is a.part.grid a.work.now a.part.base a.part.states c.requires.ready a.p c.loop-a.a c.requires.p_lt_n.0 (omega arith))) ∙ c.if-get.false
    ∙ c.get-in-loop-a.ensures.is ∙ ap (class_of a.part.grid a.work.now a.part.base) (c.get-q2.ensures.is ∙ next_is a.part.grid a.work.now a.part.base a.part.states c.requires.ready a.q c.loop-a.a c.requires.p_lt_n.1 (omega arith)))
