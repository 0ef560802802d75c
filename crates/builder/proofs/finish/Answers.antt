use Prim.Native.Nat.{ℕ}
use native.Mathlib.Omega.{arith}
use mathlib.Core.Path.{◌≡◌, refl, ap}
use mathlib.Core.List.{List}
use lib.ListN.{length}
use Rattle.transducers.specs.Table.{Table}
use Rattle.tables.specs.Bytes.{encode}
use Rattle.encoder.specs.Encoding.{rows_in}
use Rattle.workspace.specs.Holds.{table_at}
use Rattle.builder.proofs.Ending.{rows_in_lem, writable, too_short, fits}
use Rattle.builder.proofs.finish.Goals as goal
use Rattle.builder.proofs.finish.Goals.{Start}

-- `builder::finish` meets its contract.
abbrev bytes : Start → List ℕ
bytes st = encode st.args.g.tags (table_at st.args.g st.args.work.now 0 st.args.n)

same : (c : Start) → length (encode c.args.g.tags (rows_in c.args.g c.args.work.now 0 c.args.n)) ≡ length (bytes c)
same c = ap (λ (t : Table). length (encode c.args.g.tags t)) (rows_in_lem c.args.g c.args.work.now 0 c.args.n)

pub measure-size-requires : goal.measure-size-requires
measure-size-requires c = writable c.args.g c.args.work.now c.args.n c.requires.ready c.requires.tags_bound.0 c.requires.tags_bound.1

pub returns-then-out-size : goal.returns-then-out-size
returns-then-out-size c = too_short (bytes (goal.at.returns-then-out-size c).Start) c.args.out.now (omega (arith, c.measure-size.ensures, same (goal.at.returns-then-out-size c).Start)) _ refl

pub write_table-requires-clause-writable : goal.write_table-requires-clause-writable
write_table-requires-clause-writable c = writable c.args.g c.args.work.now c.args.n c.requires.ready c.requires.tags_bound.0 c.requires.tags_bound.1

pub returns : goal.returns
returns c = fits (bytes (goal.at.returns c).Start) c.args.out.now _ _ (omega (arith, c.measure-size.ensures, same (goal.at.returns c).Start))
    (rw (← rows_in_lem c.args.g c.args.work.now 0 c.args.n) c.write_table.ensures)
