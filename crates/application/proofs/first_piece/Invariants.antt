use lib.ListN.{take}
use Rattle.words.proofs.Pieces.{Without}
use Rattle.application.proofs.first_piece.Given as goal

abbrev pub invariant-loop-i : goal.invariant-loop-i
invariant-loop-i l = Without l.end (take l.i l.s)
