use mathlib.Core.List.{◌++◌}
use lib.ListN.{take}
use Rattle.workspace.specs.Cells.{word, Written}
use Rattle.outputs.proofs.push_all.Given as goal

abbrev pub invariant-loop-tag : goal.invariant-loop-tag
invariant-loop-tag l = Written l.g l.initial.work l.work l.r l.c l.s (word l.g l.initial.work l.r l.c l.s ++ take l.tag-index l.tags)
