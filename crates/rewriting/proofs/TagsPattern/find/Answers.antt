use Rattle.rewriting.proofs.Rewriting.{found_plain}
use Rattle.rewriting.proofs.TagsPattern.find.Goals as goal

pub returns : goal.returns
returns c = found_plain _ _ _ c.find.ensures
