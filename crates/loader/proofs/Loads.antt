-- The end of loading: 17, 12, 11, or the numbers at the front of the slice.
use Prim.Native.Nat.{ℕ, ◌+◌, ◌*◌, ◌≤◌, ◌<◌}
use native.Mathlib.Omega.{arith}
use mathlib.Core.Path.{◌≡◌, sym, ap, ◌∙◌}
use mathlib.Core.Bool.{Bool, true, false}
use mathlib.Core.List.{List, ◌++◌}
use borrow.Author.Tests.{le-leb, lt-leb}
use lib.Dec.{leb}
use lib.ListN.{length, drop, get_or, set, length-append}
use lib.Seq.{sets, sets-eq}
use Rattle.limits.specs.declared.Limits.{Limits}
use Rattle.words.specs.Word.{Below}
use Rattle.words.proofs.Regions.{sets_more, sets-sets}
use Rattle.answers.specs.Outcome.{Outcome, result, and_then, provided}
use Rattle.answers.specs.Slice.{fitting}
use Rattle.std.specs.Prelude.{Ok, Err}
use Rattle.answers.specs.declared.Refusal.TheVariants.{Bare}
use Rattle.answers.specs.declared.Reason.TheVariants.{ShortOutput}
use Rattle.std.proofs.Common.{Fits, w8}
use Rattle.words.specs.Decides.{Decides}
use Rattle.tables.proofs.Words.{below_of}
use Rattle.answers.proofs.Slice.{filled-refused, filled-written}
use Rattle.transducers.specs.Table.{Table}
use Rattle.tables.specs.Bytes.{joined, encode}
use Rattle.tables.specs.Decode.{Decoded}
use Rattle.tables.proofs.Theorem.{decoded-within}
use Rattle.decoder.specs.Index.{Head, Loaded, LoadedIf}
use Rattle.decoder.proofs.Loading.{is-loaded, states-read}
use Rattle.loaded.specs.Numbers.{row_at, row_behind, first_resting, rows_numbers, numbers}
use Rattle.loaded.specs.Run.{load_answer, LoadRan}
use Rattle.loaded.proofs.Rows.{rows_numbers-length}
use Rattle.loaded.proofs.Count.{numbers-few}
use Rattle.entries.specs.State.{Base}
use Rattle.rows.specs.Parts.{Source, RowsWritten}

abbrev loading : ℕ → Decoded → Outcome (List ℕ)
loading room d = fitting room (numbers d.tags d.table)

-- a table was read into the index, and it was tested whether its numbers have room
pub record Measured (lim : Limits) (bs ix : List ℕ) (k s : ℕ) (before : List ℕ) (b : Bool) : Type 0 where
  pub head : Head lim bs k s
  pub bytes : Below 0x100 bs
  pub loaded : Loaded lim bs k ix
  pub room-is : Decides b (length (numbers k loaded.table) ≤ length before)

pub measured : (lim : Limits) (bs ix : List ℕ) (k s : ℕ) (before : List ℕ) (r b : Bool) → Head lim bs k s → ((i : ℕ) → Fits w8 (get_or bs i 0)) → LoadedIf r lim bs k ix → r ≡ true
    → ((lim : Limits) (bs' : List ℕ) (l : Loaded lim bs' k ix) → length l.table ≡ s → length bs ≡ length (encode k l.table) → Decides b (length (numbers k l.table) ≤ length before))
    → Measured lim bs ix k s before b
measured lim bs ix k s before r b head small read so told =
    let bytes = below_of 0x100 bs (λ i. omega (arith, small i)) in
    let l = is-loaded lim bs k ix r read so in
    record {
      head = head;
      bytes = bytes;
      loaded = l;
      room-is = told lim bs l (states-read bs ix k s head bytes l) (ap length (decoded-within lim bs (record { tags = k; table = l.table }) bytes l.decodes).1);
    }

module _ {lim : Limits} {bs ix : List ℕ} {k s : ℕ} {before : List ℕ} {b : Bool} (m : Measured lim bs ix k s before b) where
  abbrev l : Loaded lim bs k ix
  l = m.loaded

  abbrev t : Table
  t = l.table

  abbrev ns : List ℕ
  ns = numbers k t

  abbrev rows : List ℕ
  rows = rows_numbers k (first_resting t (length t) 0) (row_at k (length t)) t

  abbrev tags : List ℕ
  tags = joined row_behind t

  pub states : length t ≡ s
  states = states-read bs ix k s m.head m.bytes l

  loads : (c : Bool) → leb (length ns) (length before) ≡ c → load_answer lim bs (length before) ≡ provided 11 c (result ns)
  loads c e =
      ap (λ (o : Outcome Decoded). and_then o (loading (length before))) l.decodes
      ∙ ap (λ (x : Bool). provided 11 x (result ns)) e

  -- the slice is too short
  pub load_short : b ≡ false → LoadRan lim bs before before (Err (Bare ShortOutput))
  load_short e =
      filled-refused (load_answer lim bs (length before)) before (Bare ShortOutput)
      (loads false (lt-leb (length ns) (length before) (omega (arith, m.room-is.not e))))

  rows_long : length rows ≡ length t * (2 * k + 2)
  rows_long = rows_numbers-length bs k (first_resting t (length t) 0) t (row_at k (length t)) l.valid.whole

  pub numbers-long : length ns ≡ row_at k s + length tags
  numbers-long = omega (arith, length-append rows tags, rows_long, ap (λ (n : ℕ). n * (2 * k + 2)) states)

  -- it is not
  pub some-room : b ≡ true → 0 < length before
  some-room e = omega (arith, m.room-is.so e, numbers-long)

  abbrev pub source : b ≡ true → (room : ℕ) → room ≡ length before → s * (k + 1) ≤ length ix → Source bs ix k s room
  source e room same entries =
      let two = decoded-within lim bs (record { tags = k; table = t }) m.bytes l.decodes in
      record {
        lim = lim;
        ranged = m.head.ranged;
        table = t;
        valid = l.valid;
        cells = l.cells;
        long = states;
        entries = entries;
        places = omega (arith, numbers-long, numbers-few k t l.valid, ap length two.1, m.head.few_bytes);
        fits = omega (arith, numbers-long, m.room-is.so e);
      }

  place : row_at k s ≡ 1 + length rows
  place = omega (arith, rows_long, ap (λ (n : ℕ). n * (2 * k + 2)) states)

  front : (after : List ℕ) (rested to : ℕ) → length ns ≤ length before → Base k (first_resting t s 0) rested
      → RowsWritten t k s rested (set before 0 k) after to → after ≡ ns ++ drop (length ns) before
  front after rested to fits base w =
      let as-defined : rows_numbers k (first_resting t s 0) (row_at k s) t ≡ rows = ap (λ (i : ℕ). rows_numbers k (first_resting t i 0) (row_at k i) t) (sym states) in
      let z : 0 + length ns ≡ length ns = omega arith in
      w.wrote (first_resting t s 0) base ∙ ap (λ (v : List ℕ). sets (sets (set before 0 k) (row_at k s) tags) 1 v) as-defined
      ∙ sets-sets (set before 0 k) 1 rows (row_at k s) tags (omega (arith, place))
      ∙ ap (λ (i : ℕ). sets (sets (set before 0 k) 1 rows) i tags) place
      ∙ sym (sets_more (set before 0 k) 1 rows tags)
      ∙ sets-eq ns before 0 (omega (arith, fits))
      ∙ ap (λ (i : ℕ). ns ++ drop i before) z

  -- the numbers have been written
  pub load_whole : b ≡ true → (after : List ℕ) (rested to : ℕ)
      → ((lim : Limits) (bs' : List ℕ) (l : Loaded lim bs' k ix) → length l.table ≡ s → rested ≡ first_resting l.table s 0 * (k + 1) + 1)
      → RowsWritten t k s rested (set before 0 k) after to → LoadRan lim bs before after (Ok to)
  load_whole e after rested to base w =
      let fits = m.room-is.so e in
      filled-written (load_answer lim bs (length before)) ns before after to (loads true (le-leb (length ns) (length before) fits)) (w.place_is ∙ sym numbers-long)
      (front after rested to fits (base lim bs l states) w)
