use Prim.Native.Nat.{ℕ}
use mathlib.Core.Path.{subst}
use mathlib.Core.List.{List}
use lib.Seq.{take-length}
use Rattle.std.proofs.lemmas.Result.{err_from_is_err_and}
use Rattle.books.specs.Arrays.{arrays}
use Rattle.books.specs.Resume.{Whole}
use Rattle.tagger.proofs.Run.{both_run, applicable}
use Rattle.tagger.proofs.run_within.Goals as goal

pub run_pieces-requires-clause-usable : goal.run_pieces-requires-clause-usable
run_pieces-requires-clause-usable c =
    let s = c.args in
    let r = c.read_into in
    let a = arrays r.new.rules r.new.sets in
    let w : Whole s.lim s.book.now a r.result = subst (λ (x : List ℕ). Whole s.lim x a r.result) (take-length s.book.now) r.ensures in
    applicable s.book.now a r.result w c.requires.1 c.in_ok-count.count c.in_ok-count.was

pub returns-in_err-changes-clause-v : goal.returns-in_err-changes-clause-v
returns-in_err-changes-clause-v c =
    let s = c.args in
    let r = c.read_into in
    let a = arrays r.new.rules r.new.sets in
    let w : Whole s.lim s.book.now a r.result = subst (λ (x : List ℕ). Whole s.lim x a r.result) (take-length s.book.now) r.ensures in
    let u = c.run_pieces in
    let both = both_run s.book.now a r.result w c.requires.1 s.end s.sentence.now s.room s.out.now s.v.now c.in_ok-count.count u.new.out u.new.v u.result c.in_ok-count.was (u.ensures.out, u.ensures.v) in
    let p = err_from_is_err_and c.from_residual-in_err-changes.result c.from_residual-in_err-changes.ensures.1 in
    rw (p.1, p.2) both.1
