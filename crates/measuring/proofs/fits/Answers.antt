use native.Mathlib.Omega.{arith}
use borrow.Author.Tests.{leb-true, leb-false}
use Rattle.loaded.proofs.Count.{numbers-few}
use Rattle.measuring.proofs.fits.Goals as goal

pub returns-then-bytes-room : goal.returns-then-bytes-room
returns-then-bytes-room c = λ lim bs l e all.
    let a = c.args in
    record {
      so = λ t. omega (arith, all, numbers-few a.size.tags l.table l.valid);
      not = λ t h. omega (arith, leb-false a.bytes a.room t);
    }

pub returns-else-bytes-room : goal.returns-else-bytes-room
returns-else-bytes-room c = λ lim bs l e all.
    let a = c.args in
    let n = c.measure.ensures lim bs l e in
    record {
      so = λ t. omega (arith, n, leb-true c.measure.result a.room t);
      not = λ t h. omega (arith, n, leb-false c.measure.result a.room t, h);
    }
