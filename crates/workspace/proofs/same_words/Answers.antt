use Rattle.workspace.proofs.Fronts.{words_decided, words-other}
use mathlib.Core.Path.{◌∙◌}
use Rattle.workspace.proofs.same_words.Goals as goal

pub returns-then-n-get : goal.returns-then-n-get
returns-then-n-get c = let a = c.args in words-other a.g a.work.now _ _ _ _ _ _ _ _ c.get-n.ensures.is c.get.ensures.is c.if-n-get.true

pub returns : goal.returns
returns c = let a = c.args in words_decided a.g a.work.now _ _ _ _ _ _ _ _ c.get-n.ensures.is (c.if-n-get.false ∙ c.get.ensures.is) c.common.ensures
