use mathlib.Core.Path.{sym, ◌∙◌}
use Rattle.merge.proofs.Keys.{key_other, key_words}
use Rattle.workspace.proofs.Views.{final_is, final-inner}
use Rattle.merge.proofs.alike.Goals as goal

pub same_words-requires-clause-inner : goal.same_words-requires-clause-inner
same_words-requires-clause-inner c = let a = c.args in final-inner a.part.grid a.work.now a.part.base a.part.states c.requires.ready a.p c.requires.p_lt_n.0

pub same_words-requires-clause-inner_2 : goal.same_words-requires-clause-inner_2
same_words-requires-clause-inner_2 c = let a = c.args in final-inner a.part.grid a.work.now a.part.base a.part.states c.requires.ready a.q c.requires.p_lt_n.1

pub returns-then-not-same_words : goal.returns-then-not-same_words
returns-then-not-same_words c = let a = c.args in key_other a.part.grid _ a.part.base a.part.states a.p a.q a.first (c.if-not-first.false) (λ e. c.same_words.ensures.not (c.if-not-same_words.true) (final_is a.part.grid a.work.now a.part.base a.part.states c.requires.ready a.p c.requires.p_lt_n.0 ∙ e ∙ sym (final_is a.part.grid a.work.now a.part.base a.part.states c.requires.ready a.q c.requires.p_lt_n.1)))

pub returns : goal.returns
returns c = let a = c.args in key_words a.part.grid _ a.part.base a.part.states a.p a.q a.first _ (c.if-not-first.false) (sym (final_is a.part.grid a.work.now a.part.base a.part.states c.requires.ready a.p c.requires.p_lt_n.0) ∙ c.same_words.ensures.so (c.if-not-same_words.false) ∙ final_is a.part.grid a.work.now a.part.base a.part.states c.requires.ready a.q c.requires.p_lt_n.1) c.same_outputs.ensures
