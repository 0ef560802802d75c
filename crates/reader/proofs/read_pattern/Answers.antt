use Prim.Native.Nat.{◌<◌}
use native.Mathlib.Omega.{arith}
use lib.ListN.{length}
use Rattle.books.specs.Arrays.{Arrays, arrays}
use Rattle.books.proofs.Arrays.{sets-room}
use Rattle.books.proofs.Resume.{places-end, places_done}
use Rattle.std.proofs.lemmas.Result.{err_from_is_err_and}
use Rattle.reader.proofs.read_pattern.Goals as goal
use Rattle.reader.proofs.read_pattern.Goals.{Start}

-- `reader::read_pattern` meets its contract.
abbrev held : Start → Arrays
held st = arrays st.args.rules.now st.args.sets.now

room : (st : Start) → st.args.m < length st.args.sets.now
room st = omega (arith, st.requires.from_in_bounds.2, sets-room (held st) st.requires.shaped st.requires.from_in_bounds.5)

pub returns-in_err-places : goal.returns-in_err-places
returns-in_err-places c =
    let st = (goal.at.returns-in_err-places c).Start in
    let h = c.requires.from_in_bounds in
    let got = c.read_places in
    let p = err_from_is_err_and c.from_residual.result c.from_residual.ensures.1 in
    rw (p.1, p.2)
    (places-end c.args.lim c.args.s.now c.args.k c.args.m c.args.from (held st) c.requires.shaped h.2 h.3 h.4 _ _ got.result got.ensures (room st) c.in_err-places.field-0.0 c.in_err-places.was)

pub overflow_cast-rules : goal.overflow_cast-rules
overflow_cast-rules c =
    let i = (c.read_places.ensures.inside _ c.in_ok-places.was).2 in
    omega (arith, i.few, i.inside)

pub returns : goal.returns
returns c =
    let st = (goal.at.returns c).Start in
    let h = c.requires.from_in_bounds in
    let got = c.read_places in
    places_done c.args.lim c.args.s.now c.args.k c.args.m c.args.from (held st) c.requires.shaped h.2 h.3 h.4 _ _ got.result got.ensures (room st) c.in_ok-places.places c.in_ok-places.was
