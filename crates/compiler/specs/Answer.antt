-- What the work slice holds at exit of the compile call. `compile_answer` says which bytes or which refusal.
use Rattle.std.specs.Prelude.{ℕ, List, ◌++◌, drop, replicate}
use Rattle.limits.specs.declared.Limits.{Limits}
use Rattle.answers.specs.Outcome.{Outcome, result, refused}
use Rattle.cascades.specs.Rule.{Cascade}
use Rattle.compilation.specs.Compile.{entries}

-- by what was tested before a state was built: "The work slice keeps its numbers on every refusal that comes before 10; on 10, 11 and
-- success its first required entries are zero and the rest unchanged"
abbrev pub worked : Limits → ℕ → Outcome Cascade → List ℕ → List ℕ
worked lim n (result c) work = replicate (entries lim n c) 0 ++ drop (entries lim n c) work
worked lim n (refused j p) work = work
