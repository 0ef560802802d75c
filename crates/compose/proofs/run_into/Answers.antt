use Rattle.compose.proofs.Runs.{runs_clear, ran_clear}
use Rattle.compose.proofs.run_into.Goals as goal

pub run_word-requires : goal.run_word-requires
run_word-requires c = runs_clear c.args.g _ _ _ _ _ _ _ _ _ _ _ c.requires c.clear.ensures

pub returns : goal.returns
returns c = ran_clear c.args.g _ _ _ _ _ _ _ _ _ _ _ c.requires c.clear.ensures _ _ c.run_word.ensures
