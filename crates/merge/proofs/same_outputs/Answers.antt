use Rattle.merge.proofs.Keys.{all-next}
use Rattle.words.proofs.Decides.{decides_no}
use Rattle.workspace.proofs.Views.{output_is, output-inner}
use Rattle.workspace.specs.Holds.{standing}
use mathlib.Core.Path.{◌≡◌, sym, ◌∙◌}
use native.Mathlib.Omega.{arith}
use Rattle.merge.proofs.same_outputs.Goals as goal

pub same_words-requires-clause-inner : goal.same_words-requires-clause-inner
same_words-requires-clause-inner c = let a = c.args in output-inner a.part.grid a.work.now a.part.base a.part.states c.requires.ready a.p c.loop-a.a c.requires.p_lt_n.0 (omega arith)

pub same_words-requires-clause-inner_2 : goal.same_words-requires-clause-inner_2
same_words-requires-clause-inner_2 c = let a = c.args in output-inner a.part.grid a.work.now a.part.base a.part.states c.requires.ready a.q c.loop-a.a c.requires.p_lt_n.1 (omega arith)

pub returns-then-not-same_words : goal.returns-then-not-same_words
returns-then-not-same_words c = let a = c.args in decides_no _ (λ all. c.same_words.ensures.not (c.if-not-same_words.true) (output_is a.part.grid a.work.now a.part.base a.part.states c.requires.ready a.p c.loop-a.a c.requires.p_lt_n.0 (omega arith) ∙ all c.loop-a.a (omega arith) ∙ sym (output_is a.part.grid a.work.now a.part.base a.part.states c.requires.ready a.q c.loop-a.a c.requires.p_lt_n.1 (omega arith))))

pub loop-a-preserved : goal.loop-a-preserved
loop-a-preserved c = let a = c.args in all-next (λ b. (standing a.part.grid a.work.now a.part.base a.part.states).output a.p b ≡ (standing a.part.grid a.work.now a.part.base a.part.states).output a.q b) c.loop-a.a c.loop-a.invariant
    (sym (output_is a.part.grid a.work.now a.part.base a.part.states c.requires.ready a.p c.loop-a.a c.requires.p_lt_n.0 (omega arith)) ∙ c.same_words.ensures.so (c.if-not-same_words.false) ∙ output_is a.part.grid a.work.now a.part.base a.part.states c.requires.ready a.q c.loop-a.a c.requires.p_lt_n.1 (omega arith))
