use lib.ListN.{get_or}
use mathlib.Core.Path.{ap, ◌∙◌}
use native.Mathlib.Omega.{arith}
use Rattle.workspace.proofs.Places.{got_at}
use Rattle.workspace.proofs.get.Goals as goal

pub returns : goal.returns
returns c = let a = c.args in got_at a.g a.work.now c.requires.sized a.r a.c a.e c.requires.fact _
    (c.from.ensures ∙ ap (λ i. get_or a.work.now i 0) c.index_of-i.ensures.value) (omega (arith, c.from.ensures, c.type_inv.work c.index_of-i.result))
