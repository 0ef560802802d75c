use lib.ListN.{length}
use Rattle.limits.specs.Limits.{standard}
use Rattle.verdicts.proofs.Legible.{legible_check}
use Rattle.nedzsuka.proofs.nedzsuka_check_table.Goals as goal

pub pack_check-requires : goal.pack_check-requires
pack_check-requires c = let a = c.args in
    let u = c.check_table-answer in
    legible_check standard a.book.now a.end a.table.now (length a.work.now) (length a.out.now) a.out.now _ u.result u.ensures.answer
