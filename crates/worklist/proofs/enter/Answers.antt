use native.Mathlib.Omega.{arith}
use mathlib.Core.Path.{sym, ◌∙◌}
use Rattle.worklist.proofs.Marks.{enter_old, enter_room, enter_new}
use Rattle.worklist.proofs.enter.Goals as goal

pub returns-then-seen-ne0 : goal.returns-then-seen-ne0
returns-then-seen-ne0 c = enter_old c.args.g _ _ _ _ c.args.s c.requires.worklist c.requires.s_lt_n _ c.get-seen.ensures c.if-seen-ne0.true

pub put-requires : goal.put-requires
put-requires c = omega (arith, enter_room c.args.g _ _ _ _ c.args.s c.requires.worklist c.requires.s_lt_n (sym c.get-seen.ensures.is ∙ c.if-seen-ne0.false))

pub put-requires-2 : goal.put-requires-2
put-requires-2 c = omega (arith, enter_room c.args.g _ _ _ _ c.args.s c.requires.worklist c.requires.s_lt_n (sym c.get-seen.ensures.is ∙ c.if-seen-ne0.false), c.put.ensures.kept.long)

pub returns : goal.returns
returns c = enter_new c.args.g _ _ _ _ c.args.s c.requires.worklist c.requires.s_lt_n (sym c.get-seen.ensures.is ∙ c.if-seen-ne0.false) _ _ c.put.ensures c.put-2.ensures
