use native.Mathlib.Omega.{arith}
use Rattle.equivalence.proofs.Tables.{few}
use Rattle.equivalence.proofs.Search.{both_some, begun, found_at, words_of, word-few, shown}
use Rattle.equivalence.proofs.compare.Goals as goal

pub link-requires : goal.link-requires
link-requires c = let ok = c.requires.0 in
    let n = c.number_labels in
    (omega (arith, few ok, n.ensures.long), omega (arith, both_some ok), omega (arith, both_some ok), omega arith, omega arith)

pub seek-requires-clause-searching : goal.seek-requires-clause-searching
seek-requires-clause-searching c = let ok = c.requires.0 in
    let n = c.number_labels in
    let l = c.link in
    begun ok _ _ _ _ _ _ n.ensures l.ensures

pub write_sentence-requires : goal.write_sentence-requires
write_sentence-requires c = let ok = c.requires.0 in
    let apart = found_at ok c.in-Err.field-0 c.seek.result c.in-Err.is c.seek.ensures in
    (words_of ok apart, omega arith, apart.tag, omega (arith, word-few ok apart, c.requires.1))

pub returns-in-Err : goal.returns-in-Err
returns-in-Err c = let ok = c.requires.0 in
    let apart = found_at ok c.in-Err.field-0 c.seek.result c.in-Err.is c.seek.ensures in
    shown ok apart c.args.out.now _ _ c.write_sentence.ensures
