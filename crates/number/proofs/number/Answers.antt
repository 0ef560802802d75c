use Rattle.number.proofs.Searching.{slots, classed-kept}
use Rattle.number.proofs.Rows.{ordered, too_many, all-rows}
use Rattle.number.proofs.number.Goals as goal

pub begin-requires : goal.begin-requires
begin-requires c = slots c.args.part.grid _ _ _ c.requires.classed

pub search-count-requires-clause-classed : goal.search-count-requires-clause-classed
search-count-requires-clause-classed c = let a = c.args in
    classed-kept a.part.grid _ _ _ _ c.requires.classed c.begin.ensures.kept

pub returns-then-ceiling-count : goal.returns-then-ceiling-count
returns-then-ceiling-count c = let a = c.args in
    too_many a.part.grid _ _ _ _ _ a.to a.ceiling _ c.requires.classed c.requires.ceiling_bound c.begin.ensures.kept c.search-count.ensures c.if-ceiling-count.true

pub number_rows-requires-clause-ordered : goal.number_rows-requires-clause-ordered
number_rows-requires-clause-ordered c = let a = c.args in
    ordered a.part.grid _ _ _ _ _ a.to a.ceiling _ c.requires.classed c.requires.ceiling_bound c.begin.ensures.kept c.search-count.ensures

pub returns : goal.returns
returns c = let a = c.args in
    all-rows a.part.grid _ _ _ _ _ a.to a.ceiling _ c.requires.classed c.requires.ceiling_bound c.begin.ensures.kept c.search-count.ensures _ c.if-ceiling-count.false c.number_rows.ensures
