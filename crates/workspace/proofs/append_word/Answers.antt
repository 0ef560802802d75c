use Prim.Native.Nat.{ℕ}
use Rattle.workspace.proofs.Words.{written_is}
use Rattle.workspace.proofs.Appending.{part-whole}
use Rattle.workspace.specs.Cells.{word}
use mathlib.Core.List.{List, ◌++◌}
use mathlib.Core.Path.{ap}
use Rattle.workspace.proofs.append_word.Goals as goal

pub returns : goal.returns
returns c = let a = c.args in written_is a.g _ _ _ _ _ _ _ (ap (λ (l : List ℕ). word a.g a.work.now a.r2 a.c2 a.s2 ++ l) (part-whole a.g a.work.now a.r a.c a.s _ c.get-n.ensures.is)) c.append.ensures
