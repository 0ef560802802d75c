use mathlib.Core.Path.{sym}
use lib.ListN.{length}
use Rattle.sentences.specs.Run.{run}
use Rattle.sentences.proofs.Run.{run-accepts}
use Rattle.running.proofs.Run.{run-admitted}
use Rattle.running.proofs.run_rules.Goals as goal

pub write_rules-requires-clause-sentence_in_bounds : goal.write_rules-requires-clause-sentence_in_bounds
write_rules-requires-clause-sentence_in_bounds c =
    let s = c.args.sentence.now in
    let a = c.admit in
    let room = length c.args.out.now in
    (run-accepts c.args.k s room s s (sym (run-admitted a.result (run c.args.k s room s) s (a.ensures s) c.in_ok-admit.field-0 c.in_ok-admit.was))).0.fits
