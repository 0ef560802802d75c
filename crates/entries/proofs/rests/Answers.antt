use Prim.Native.Nat.{ℕ, ◌+◌}
use Rattle.std.proofs.Common.{arith, rules, tests}
use Rattle.std.proofs.lemmas.Iterator.{cases_from_all, YieldsList-from_range}
use lib.ListN.{get_or}
use Rattle.entries.specs.State.{Stays}
use Rattle.entries.proofs.Resting.{rests-decided}
use Rattle.entries.proofs.rests.Goals as goal

pub returns-then-count_of-eq0 : goal.returns-then-count_of-eq0
returns-then-count_of-eq0 c = let a = c.args in
    let Yes = λ (x : ℕ). Stays (get_or a.index.now (a.cell + 1 + x) 0) (a.cell + 1) x in
    let all = cases_from_all _ _ _ Yes (λ (x : ℕ). Yes x → ⊥) c.all.ensures.ran (YieldsList-from_range 0 a.k a.k (cc) (omega arith)) (λ x q k. search (rules, tests)) (λ x q k. search (rules, tests)) in
    rests-decided a.index.now a.k a.cell c.all.result (search rules) all
