use mathlib.Core.Path.{sym, subst}
use lib.ListN.{length}
use Rattle.typing.specs.Typing.{close, Hands}
use Rattle.typing.specs.declared.Typed.{Typed}
use Rattle.typing.proofs.Holds.{close-refused, close_done}
use Rattle.typing.proofs.Sentence.close.Goals as goal

pub returns-in-Err : goal.returns-in-Err
returns-in-Err c = let a = c.args in
    let out = c.put_held.new.out in
    subst (λ (y : Typed). Hands (close a.lim a.table.now a.self (length a.out.now)) a.out.now out y) (sym c.refuse.ensures)
    (close-refused a.lim a.table.now a.self a.out.now out c.in-Err.given c.in-Err.ensures)

pub returns-in-Ok : goal.returns-in-Ok
returns-in-Ok c = let a = c.args in
    close_done a.lim a.table.now a.self a.out.now c.put_held.new.out c.in-Ok.held c.in-Ok.ensures
