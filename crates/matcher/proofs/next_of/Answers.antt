use Rattle.matcher.proofs.Next.{goes_on, goes_back}
use mathlib.Core.Path.{◌∙◌, sym}
use lib.ListN.{length}
use native.Mathlib.Omega.{arith}
use Prim.Native.Nat.{◌<◌}
use Rattle.matcher.proofs.next_of.Goals as goal

pub returns-then-from-a : goal.returns-then-from-a
returns-then-from-a c = let a = c.args in goes_on a.u.now a.j a.a (omega arith) (sym c.from.ensures ∙ c.if-from-a.true)

pub returns : goal.returns
returns c = let a = c.args in
    let some : 0 < a.j = omega arith in
    let short : a.j < length a.u.now = omega arith in
    c.get.ensures.is ∙ c.requires.behind.next_is some short a.a c.requires.depth_nonzero.1
    ∙ goes_back a.u.now a.j a.a short (λ e. c.if-from-a.false (c.from.ensures ∙ e)) some
