use Rattle.workspace.specs.Cells.{Sized, Cleared}
use Rattle.workspace.proofs.clear_notes.Given as goal

abbrev pub invariant-loop-q : goal.invariant-loop-q
invariant-loop-q l = Sized l.g l.work × Cleared l.g l.initial.work l.work l.base l.n l.e l.q
