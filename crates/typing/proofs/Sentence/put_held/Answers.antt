use borrow.Author.Rules.{rules}
use native.Mathlib.Omega.{arith}
use mathlib.Core.Path.{sym}
use Rattle.typing.proofs.Holds.{held_done}
use Rattle.typing.proofs.Sentence.put_held.Goals as goal

pub returns : goal.returns
returns c = let a = c.args in
    let found = c.in_ok-found.found in
    held_done a.lim a.table.now a.self a.out.now found.size.tags found.size.states found.entry c.in_ok-found.ensures (sym c.in_ok-stand.ensures) (omega arith) c.put_word.new.out c.place_of.result c.count_of-count.result (search rules) (search rules) c.put_word.ensures
