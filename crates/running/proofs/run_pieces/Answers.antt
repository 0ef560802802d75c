use native.Mathlib.Omega.{arith}
use mathlib.Core.Path.{sym}
use Rattle.limits.specs.Limits.{no_end}
use Rattle.words.proofs.Word.{below_mono}
use Rattle.sentences.specs.Run.{run}
use Rattle.sentences.proofs.Run.{run-accepts}
use Rattle.running.proofs.Run.{run-admitted}
use Rattle.running.proofs.run_pieces.Goals as goal

pub write_pieces-requires-clause-below : goal.write_pieces-requires-clause-below
write_pieces-requires-clause-below c =
    let s = c.args.sentence.now in
    let a = c.admit in
    let ok = (run-accepts c.args.k s c.args.room s s (sym (run-admitted a.result (run c.args.k s c.args.room s) s (a.ensures s) c.in_ok-admit.field-0 c.in_ok-admit.was))).0 in
    (below_mono c.args.k no_end s c.requires.k_le_no_end.0 ok.below, omega (arith, ok.fits, c.requires.k_le_no_end.1))
