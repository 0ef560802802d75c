use Prim.Native.Nat.{ℕ, ◌≤◌}
use native.Mathlib.Omega.{arith}
use mathlib.Core.Path.{refl, sym, ap}
use mathlib.Core.List.{List}
use lib.ListN.{length}
use Rattle.answers.specs.Outcome.{Outcome}
use Rattle.answers.specs.Slice.{long_of, written}
use Rattle.starter.proofs.Starter.{bytes, answers, short, front}
use Rattle.starter.proofs.write_table.Goals as goal

-- `starter::write_table` meets its contract.
pub returns-then-out-lt731-clause-answer : goal.returns-then-out-lt731-clause-answer
returns-then-out-lt731-clause-answer c = let out = c.args.out.now in
    let e = sym (short (length out) (omega arith)) in
    ap long_of e

-- `starter::write_table` meets its contract.
pub returns-then-out-lt731-clause-out : goal.returns-then-out-lt731-clause-out
returns-then-out-lt731-clause-out c = let out = c.args.out.now in
    let e = sym (short (length out) (omega arith)) in
    ap (λ (o : Outcome (List ℕ)). written o out) e

-- the computed test: the array is the table
pub returns-clause-answer : goal.returns-clause-answer
unfolding bytes
returns-clause-answer c = let out = c.args.out.now in
    let enough : 731 ≤ length out = omega arith in
    ap long_of (sym (answers (length out) enough))

-- the computed test: the array is the table
pub returns-clause-out : goal.returns-clause-out
unfolding bytes
returns-clause-out c = let out = c.args.out.now in
    let enough : 731 ≤ length out = omega arith in
    front _ out _ c.copy.ensures enough refl
