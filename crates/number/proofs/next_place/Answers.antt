use Rattle.number.proofs.Rows.{state-low, next-marked, place_is}
use Rattle.number.proofs.next_place.Goals as goal

pub next_class-s-requires-clause-q_lt_n : goal.next_class-s-requires-clause-q_lt_n
next_class-s-requires-clause-q_lt_n c = let a = c.args in
    (state-low a.part.grid _ _ _ _ _ _ _ c.requires.rowing, c.requires.a_lt_tags)

pub place_of-requires-clause-s_lt_n : goal.place_of-requires-clause-s_lt_n
place_of-requires-clause-s_lt_n c = let a = c.args in
    (c.next_class-s.ensures.1, next-marked a.part.grid _ _ _ _ _ _ _ c.requires.rowing a.a _ c.requires.a_lt_tags c.next_class-s.ensures.0)

pub returns : goal.returns
returns c = let a = c.args in
    place_is a.part.grid _ _ _ _ _ _ _ c.requires.rowing a.a _ c.requires.a_lt_tags c.next_class-s.ensures.0 _ c.place_of.ensures
