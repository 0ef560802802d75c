use mathlib.Core.Path.{sym}
use Rattle.cascades.proofs.Pattern.{plain-length}
use Rattle.rewriting.proofs.TagsPattern.len.Goals as goal

pub returns : goal.returns
returns c = sym (plain-length c.args.self.now.row.now)
