use borrow.Author.Rules.{rules}
use native.Mathlib.Omega.{arith}
use mathlib.Core.Path.{sym, subst}
use lib.ListN.{length}
use Rattle.typing.specs.Typing.{give, Hands}
use Rattle.typing.specs.declared.Typed.{Typed}
use Rattle.typing.proofs.Gives.{cell-tags, take_short, take-place, take_base, take_done}
use Rattle.typing.proofs.Sentence.take.Goals as goal

pub next_state-requires : goal.next_state-requires
next_state-requires c = let a = c.args in
    let f = a.found in
    (take_base a.lim a.table.now a.self a.tag a.out.now f.size.tags f.size.states f.entry c.requires (sym c.in_default.ensures), cell-tags a.lim c.requires)

pub returns-then-out-count : goal.returns-then-out-count
returns-then-out-count c = let a = c.args in
    let f = a.found in
    subst (λ (y : Typed). Hands (give a.lim a.table.now a.self a.tag (length a.out.now)) a.out.now a.out.now y) (sym c.refuse-then-out-count.ensures)
    (take_short a.lim a.table.now a.self a.tag a.out.now f.size.tags f.size.states f.entry c.requires (sym c.in_default.ensures) (omega arith))

pub put_step-requires : goal.put_step-requires
put_step-requires c = let a = c.args in
    let f = a.found in
    (take-place a.lim a.table.now a.self a.tag a.out.now f.size.tags f.size.states f.entry c.requires (sym c.in_default.ensures), omega arith)

pub returns : goal.returns
returns c = let a = c.args in
    let f = a.found in
    take_done a.lim a.table.now a.self a.tag a.out.now f.size.tags f.size.states f.entry c.requires (sym c.in_default.ensures) (omega arith) c.put_step.new.out c.next_state.result c.count_of-count.result c.advance-after.result (search rules) c.next_state.ensures c.advance-after.ensures c.put_step.ensures
