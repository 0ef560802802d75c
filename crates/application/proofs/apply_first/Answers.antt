use Prim.Native.Nat.{ℕ}
use native.Mathlib.Omega.{arith}
use mathlib.Core.List.{List, ◌++◌}
use mathlib.Core.Path.{ap}
use lib.ListN.{drop}
use Rattle.cascades.specs.Rewrite.{apply_all}
use Rattle.cascades.proofs.Rewrite.{apply_all-long}
use Rattle.books.specs.Arrays.{arrays, rules_of}
use Rattle.traces.specs.Trace.{numbers_of}
use Rattle.traces.proofs.Theorems.{numbers-long}
use Rattle.application.proofs.Pieces.{begun_piece, begun_numbers}
use Rattle.application.proofs.Rules.{numbers-there}
use Rattle.application.proofs.apply_first.Goals as goal

pub returns-clause-s : goal.returns-clause-s
returns-clause-s c =
    let a = c.args in
    let p = c.first_piece-n in
    let rs = rules_of (arrays a.rules.now a.sets.now) a.m in
    begun_piece a.end (apply_all rs) (apply_all-long rs) a.s.now _ p.result p.ensures (ap (λ (y : List ℕ). y ++ drop p.result a.s.now) c.apply_afresh.ensures.s)

pub returns-clause-v : goal.returns-clause-v
returns-clause-v c beside =
    let a = c.args in
    let x = c.apply_afresh in
    let l = c.min-noted in
    let p = c.first_piece-n in
    let rs = rules_of (arrays a.rules.now a.sets.now) a.m in
    begun_numbers a.end (apply_all rs) (apply_all-long rs) a.s.now _ p.result p.ensures (ap (λ (y : List ℕ). y ++ drop p.result a.s.now) x.ensures.s)
    (numbers_of rs) (numbers-long rs) a.v.now _ beside
    (numbers-there rs a.s.now a.v.now _ p.result l.result p.ensures.inside (omega (arith, beside)) l.ensures x.ensures.v)
