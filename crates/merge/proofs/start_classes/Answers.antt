use Rattle.merge.proofs.Seats.{seating-start}
use Rattle.merge.proofs.start_classes.Goals as goal

pub seat_all-requires : goal.seat_all-requires
seat_all-requires c = let a = c.args in
    (seating-start a.part.grid a.part.base a.part.states _ _ c.requires c.clear_notes.ensures).seating
