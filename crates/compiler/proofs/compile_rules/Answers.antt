use Rattle.books.specs.Arrays.{Arrays, arrays}
use Rattle.endings.proofs.Ending.{usable}
use Rattle.compiler.proofs.compile_rules.Goals as goal
use Rattle.compiler.proofs.compile_rules.Goals.{Start}

-- `compiler::compile_rules` meets its contract.
abbrev the_arrays : Start → Arrays
the_arrays st = arrays st.args.rules.now st.args.sets.now

pub bad_end-requires : goal.bad_end-requires
bad_end-requires c = usable c.args.k c.args.m (the_arrays (goal.at.bad_end-requires c).Start) c.requires.held
