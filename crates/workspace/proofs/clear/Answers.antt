use Rattle.workspace.proofs.Words.{word_clear}
use Rattle.workspace.proofs.clear.Goals as goal

pub returns : goal.returns
returns c = word_clear c.args.g _ _ _ _ _ c.put.ensures
