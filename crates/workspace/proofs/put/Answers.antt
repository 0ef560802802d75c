use Rattle.workspace.proofs.Places.{put-at}
use Rattle.workspace.proofs.put.Goals as goal

pub returns : goal.returns
returns c = let a = c.args in put-at a.g a.work.now c.requires.sized a.r a.c a.e c.requires.fact c.index_of-i.result a.v c.index_of-i.ensures.value
