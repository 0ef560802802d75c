use Prim.Native.Nat.{ℕ}
use native.Mathlib.Omega.{arith}
use mathlib.Core.Path.{subst, ◌∙◌}
use lib.ListN.{length}
use Rattle.std.specs.Prelude.{None}
use Rattle.words.proofs.Word.{below_at}
use Rattle.ways.specs.Walk.{PutWord, Put}
use Rattle.ways.proofs.Turns.{walked_none, entry_at, next-at, turn_stops, turn_off}
use Rattle.ways.proofs.walk.Goals as goal

pub returns-then-ns-row : goal.returns-then-ns-row
returns-then-ns-row c = let a = c.args in
    walked_none a.ns.now a.k a.sentence.now a.buf.now (omega arith)

pub number_at-requires : goal.number_at-requires
number_at-requires c = let l = c.loop-i in
    omega (arith, c.from.ensures, l.invariant.inside, below_at c.args.k c.args.sentence.now l.i (omega arith) c.requires.below)

pub number_at-p-requires : goal.number_at-p-requires
number_at-p-requires c = let l = c.loop-i in
    omega (arith, c.from.ensures, l.invariant.inside, below_at c.args.k c.args.sentence.now l.i (omega arith) c.requires.below)

pub returns-in_default : goal.returns-in_default
returns-in_default c = let a = c.args in
    let l = c.loop-i in
    let w = c.from in
    let e = c.number_at.ensures.0 ∙ entry_at a.ns.now a.sentence.now l.p w.result l.i w.ensures in
    turn_stops a.ns.now a.k a.sentence.now a.buf.now l.buf l.i l.at l.p l.invariant c.requires.fits (omega arith) c.put.new.buf
    (subst (λ (x : ℕ). Put a.ns.now x l.buf c.put.new.buf l.at (length a.sentence.now) None) e c.in_default.ensures)

pub returns-then-p-ne-RESTING : goal.returns-then-p-ne-RESTING
returns-then-p-ne-RESTING c = let a = c.args in
    let l = c.loop-i in
    let w = c.from in
    let to = c.in-Some.to in
    let x = c.number_at-p in
    let e = c.number_at.ensures.0 ∙ entry_at a.ns.now a.sentence.now l.p w.result l.i w.ensures in
    let next = x.ensures.0 ∙ next-at a.ns.now a.sentence.now l.p w.result l.i w.ensures in
    turn_off a.ns.now a.k a.sentence.now a.buf.now l.buf l.i l.at l.p l.invariant c.requires.fits (omega arith) c.put.new.buf to
    (subst (λ (x : ℕ). PutWord a.ns.now x l.buf c.put.new.buf l.at to) e c.in-Some.ensures.ends.1) x.result next (λ e. c.if-p-ne-RESTING.true e) (omega (arith, x.ensures.1, c.min-limit.ensures))
