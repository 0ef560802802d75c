use mathlib.Core.Path.{refl}
use Rattle.books.specs.Arrays.{Arrays, arrays}
use Rattle.books.proofs.Resume.{other-ends, book_opened, ends-whole}
use Rattle.std.proofs.lemmas.Result.{err_from_is_err_and}
use Rattle.std.specs.Prelude.{Err}
use Rattle.reader.proofs.read_plain_into.Goals as goal
use Rattle.reader.proofs.read_plain_into.Goals.{Start}

-- `reader::read_plain_into` meets its contract.
abbrev held : Start → Arrays
held st = arrays st.args.rules.now st.args.sets.now

pub returns-in_err-count : goal.returns-in_err-count
returns-in_err-count c =
    let o = c.open_book in
    let x = c.in_err-count.field-0.0 in
    let p = err_from_is_err_and c.from_residual.result c.from_residual.ensures.1 in
    rw (p.1, p.2)
    (ends-whole c.args.s.now _ _ (Err x) refl (other-ends _ _ _ 2 _ x o.result c.in_err-count.was (o.ensures.resumes (held (goal.at.returns-in_err-count c).Start) c.requires.shaped.0) refl))

pub read_plain-requires-clause-in_bounds : goal.read_plain-requires-clause-in_bounds
read_plain-requires-clause-in_bounds c =
    let o = c.open_book in
    let on = book_opened c.args.s.now _ o.result _ (o.ensures.resumes (held (goal.at.read_plain-requires-clause-in_bounds c).Start) c.requires.shaped.0) o.ensures.empty c.in_ok-count.was in
    (on.0, c.requires.shaped.1)

pub returns : goal.returns
returns c =
    let o = c.open_book in
    let on = book_opened c.args.s.now _ o.result _ (o.ensures.resumes (held (goal.at.returns c).Start) c.requires.shaped.0) o.ensures.empty c.in_ok-count.was in
    ends-whole c.args.s.now _ _ c.read_plain.result on.2 c.read_plain.ensures
