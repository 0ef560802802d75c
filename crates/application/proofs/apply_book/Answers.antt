use Prim.Native.Nat.{ℕ}
use mathlib.Core.Path.{ap, ◌∙◌}
use lib.ListN.{replicate}
use Rattle.cascades.specs.Rewrite.{apply_all}
use Rattle.books.specs.Arrays.{arrays, rules_of}
use Rattle.traces.specs.Trace.{beside, trace_from, numbers_of}
use Rattle.application.proofs.Pieces.{one_piece}
use Rattle.application.proofs.apply_book.Goals as goal

pub returns-then-end-eq-NO_END-clause-s : goal.returns-then-end-eq-NO_END-clause-s
returns-then-end-eq-NO_END-clause-s c =
    let a = c.args in
    let rs = rules_of (arrays a.rules.now a.sets.now) a.m in
    c.apply_afresh.ensures.s ∙ one_piece a.end (apply_all rs) a.s.now c.if-end-eq-NO_END.true c.requires.below

pub returns-then-end-eq-NO_END-clause-v : goal.returns-then-end-eq-NO_END-clause-v
returns-then-end-eq-NO_END-clause-v c long =
    let a = c.args in
    let rs = rules_of (arrays a.rules.now a.sets.now) a.m in
    c.apply_afresh.ensures.v ∙ ap (λ (n : ℕ). (trace_from 1 rs (beside a.s.now (replicate n 0))).numbers) long
    ∙ one_piece a.end (numbers_of rs) a.s.now c.if-end-eq-NO_END.true c.requires.below
