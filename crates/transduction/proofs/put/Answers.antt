use native.Mathlib.Omega.{arith}
use borrow.Author.Rules.{rules}
use Rattle.transduction.proofs.Output.{put-many}
use Rattle.transduction.proofs.put.Goals as goal

pub returns : goal.returns
returns c base w cell short = let a = c.args in
    put-many a.out.now a.at (omega arith) a.table.now w base a.e cell short c.tag_of.result c.count_of-count.result c.place_of.result c.put_word.new.out (search rules) (omega arith) (search rules) (omega arith) c.put_word.ensures
