use Prim.Native.Nat.{ℕ, ◌+◌}
use mathlib.Core.List.{List, [], ◌∷◌, ◌++◌}
use Rattle.tables.specs.Bytes.{joined, row_bytes}
use Rattle.encoder.specs.Encoding.{rows_in}
use Rattle.encoder.proofs.Encoding.{wrote-head, wrote-is, encode-is}
use Rattle.encoder.proofs.write_table.Goals as goal
use Rattle.encoder.proofs.write_table.Goals.{Start}

-- `encoder::write_table` meets its contract.
abbrev rows : Start → List ℕ
rows c = joined row_bytes (rows_in c.args.part.grid c.args.work.now c.args.part.base c.args.part.states)

pub returns : goal.returns
returns c = let w = c.write_rows-to in
    let k = c.byte in
    let h = c.byte-2 in
    let l = c.byte-3 in
    let o = w.new.out in
    wrote-is c.args.out.now _ 0 (w.result + 1) (0x30 ∷ k.result ∷ h.result ∷ l.result ∷ (rows (goal.at.returns c).Start ++ (0 ∷ []))) _
    (encode-is c.args.part.grid c.args.work.now c.args.part.base c.args.part.states k.result h.result l.result k.ensures h.ensures l.ensures)
    (wrote-head c.args.out.now o 0x30 k.result h.result l.result (rows (goal.at.returns c).Start) w.result w.ensures)
