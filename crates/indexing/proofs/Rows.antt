-- States at a place of the bytes, and their entries.
use Prim.Native.Nat.{ℕ, ◌+◌, ◌*◌, ◌<◌, ◌≤◌, ◌-◌}
use native.Mathlib.Omega.{arith}
use mathlib.Core.Path.{◌≡◌, refl, sym}
use mathlib.Core.List.{List, [], ◌∷◌}
use lib.ListN.{length, drop, get_or, length-drop, length-append}
use lib.Seq.{drop-drop}
use borrow.Author.Tests.{eq-eqb, le-leb}
use Rattle.transducers.specs.Table.{Row, no_step}
use Rattle.tables.specs.Bytes.{tagged, joined, step_bytes, row_bytes}
use Rattle.tables.specs.Decode.{word, malformed, many, read_step, read_row}
use Rattle.tables.proofs.Words.{length-tagged}
use Rattle.tables.proofs.Parts.{row_at}
use Rattle.steps.specs.Entry.{EntryOf, FinalEntry}
use Rattle.steps.specs.Part.{PartRead, SameBelow}
use Rattle.std.specs.Prelude.{Option, Some, None}
use Rattle.steps.proofs.Places.{drop_two, kept_at, row_inside}
use Rattle.indexing.specs.Entries.{StepEntries, RowEntries}

pub row_kept :
    (k q i : ℕ) (x y bs : List ℕ) (r : Row)
    → i < q
    → SameBelow (q * (k + 1)) x y
    → RowEntries k bs x (i * (k + 1)) r
    → RowEntries k bs y (i * (k + 1)) r
row_kept k q i x y bs r h f c =
    let lo = q * (k + 1) in
    let all = row_inside i q k lo h (omega arith) in
    record {
      final = kept_at (λ e. FinalEntry bs r.final e) lo (i * (k + 1)) x y f (omega arith) c.final;
      steps =
          λ a g.
          let v = get_or r.steps a no_step in
          kept_at (λ e. EntryOf bs (v.next * (k + 1) + 1) v.output e) lo (i * (k + 1) + 1 + a) x y f (omega arith) (c.steps a g);
    }

-- a state at a place
module _ (most k s : ℕ) (bs : List ℕ) (at : ℕ) where
  pub row-short : length bs - at < 2 → read_row most k s (drop at bs) ≡ malformed
  row-short h = short (drop at bs) (rw length-drop h)
    where
      short : (l : List ℕ) → length l < 2 → read_row most k s l ≡ malformed
      short [] h = refl
      short (x ∷ []) h = refl
      short (x ∷ y ∷ l) h = absurd (omega arith)

  module _ (h : 2 ≤ length bs - at) where
    two_bytes : drop at bs ≡ get_or bs at 0 ∷ get_or bs (at + 1) 0 ∷ drop (at + 2) bs
    two_bytes = drop_two bs at (omega arith)

    module _ (e : get_or bs at 0 ≡ 0x31) (few : get_or bs (at + 1) 0 ≤ most) where
      steps_case : (x n : ℕ) (l : List ℕ) → x ≡ 0x31 → n ≤ most → length (word 0x32 k l) ≡ n
          → many (read_step k s) step_bytes k (drop (length (tagged 0x32 (word 0x32 k l))) l) ≡ malformed
          → read_row most k s (x ∷ n ∷ l) ≡ malformed
      steps_case x n l e g c m = rw (eq-eqb x 0x31 e, le-leb n most g, eq-eqb (length (word 0x32 k l)) n c) (rw m refl)

      module _
          (ix : List ℕ)
          (cell end : ℕ)
          (count : length (word 0x32 k (drop (at + 2) bs)) ≡ get_or bs (at + 1) 0)
          (ends : end ≡ at + 2 + 2 * length (word 0x32 k (drop (at + 2) bs)))
          (final : FinalEntry bs (word 0x32 k (drop (at + 2) bs)) (get_or ix cell 0))
        where
          behind : drop end bs ≡ drop (length (tagged 0x32 (word 0x32 k (drop (at + 2) bs)))) (drop (at + 2) bs)
          behind = rw (ends, ← length-tagged 0x32 (word 0x32 k (drop (at + 2) bs))) (sym (drop-drop (length (tagged 0x32 (word 0x32 k (drop (at + 2) bs)))) (at + 2) bs))

          pub row-whole : (r : Option ℕ) → PartRead (many (read_step k s) step_bytes k) (joined step_bytes) (StepEntries k bs ix (cell + 1)) bs end r
              → PartRead (read_row most k s) row_bytes (RowEntries k bs ix cell) bs at r
          row-whole None m =
              rw two_bytes (steps_case (get_or bs at 0) (get_or bs (at + 1) 0) (drop (at + 2) bs) e few count (rw behind at m))
          row-whole (Some to) p =
              let w = word 0x32 k (drop (at + 2) bs) in
              record {
                value = record { final = w; steps = p.value };
                reads = rw (two_bytes, e) (row_at most k s (get_or bs (at + 1) 0) (drop (at + 2) bs) p.value few count (rw behind at p.reads));
                end = omega (arith, p.end, ends, length-append (tagged 0x32 w) (joined step_bytes p.value), length-tagged 0x32 w);
                inside = p.inside;
                holds = record { final = final; steps = p.holds };
              }
