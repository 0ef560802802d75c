use native.Mathlib.Omega.{arith}
use lib.ListN.{length}
use Rattle.books.specs.Arrays.{arrays}
use Rattle.compiler.proofs.Reading.{read-readable}
use Rattle.checker.proofs.check_within.Goals as goal

pub check_rules-requires : goal.check_rules-requires
check_rules-requires c = let a = c.args in
    let r = c.read_into in
    read-readable a.lim c.requires a.book.now a.end 256 (length a.work.now) (omega arith) (omega arith) (arrays r.new.rules r.new.sets) r.result r.ensures c.in-Ok.count c.in-Ok.is
