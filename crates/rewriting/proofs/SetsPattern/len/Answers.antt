use mathlib.Core.Path.{sym}
use lib.ListN.{take}
use Rattle.cascades.proofs.Pattern.{places-length}
use Rattle.rewriting.proofs.SetsPattern.len.Goals as goal

pub returns : goal.returns
returns c = let p = c.args.self.now in
    sym (places-length p.row.now (take p.count p.sets.now))
