use Prim.Native.Nat.{ℕ}
use mathlib.Core.Path.{◌≡◌, sym, ap, ◌∙◌}
use mathlib.Core.List.{List, ◌∷◌, ◌++◌}
use lib.ListN.{length}
use Rattle.tables.specs.Bytes.{tagged, joined, step_bytes, row_bytes}
use Rattle.workspace.specs.Cells.{word}
use Rattle.workspace.proofs.Words.{word-length}
use Rattle.encoder.specs.Encoding.{steps_in, row_in}
use Rattle.encoder.proofs.Encoding.{wrote_two, wrote_then, wrote-is}
use Rattle.encoder.proofs.write_row.Goals as goal
use Rattle.encoder.proofs.write_row.Goals.{Start}

-- `encoder::write_row` meets its contract.
abbrev final : Start → List ℕ
final c = tagged 0x32 (word c.args.g c.args.work.now c.args.r c.args.g.tags 7)

abbrev steps : Start → List ℕ
steps c = joined step_bytes (steps_in c.args.g c.args.work.now c.args.r)

pub returns : goal.returns
returns c = let n = c.get-n in
    let l = c.byte in
    let w = c.write_word-to in
    let v = c.write_steps in
    let o = w.new.out in
    let p = v.new.out in
    let e : l.result ≡ length (word c.args.g c.args.work.now c.args.r c.args.g.tags 7) =
    l.ensures ∙ n.ensures.is ∙ sym (word-length c.args.g c.args.work.now c.args.r c.args.g.tags 7)
    in
    wrote-is c.args.out.now p c.args.from v.result (0x31 ∷ l.result ∷ (final (goal.at.returns c).Start ++ steps (goal.at.returns c).Start)) (row_bytes (row_in c.args.g c.args.work.now c.args.r))
    (ap (λ (x : ℕ). 0x31 ∷ x ∷ (final (goal.at.returns c).Start ++ steps (goal.at.returns c).Start)) e)
    (wrote_then c.args.out.now o p c.args.from w.result v.result (0x31 ∷ l.result ∷ final (goal.at.returns c).Start) (steps (goal.at.returns c).Start)
    (wrote_two c.args.out.now o c.args.from 0x31 l.result (final (goal.at.returns c).Start) w.result w.ensures) v.ensures)
