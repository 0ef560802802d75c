-- The end of building: the table's bytes written or refused.
use Prim.Native.Nat.{ℕ, ◌+◌, ◌≤◌, ◌<◌}
use native.Mathlib.Omega.{arith}
use mathlib.Core.Path.{◌≡◌, refl, sym, ap, ◌∙◌, subst}
use mathlib.Core.List.{List}
use borrow.Author.Tests.{le-leb, lt-leb}
use lib.ListN.{length}
use lib.Seq.{sets-eq}
use Rattle.words.proofs.Word.{below_mono}
use Rattle.answers.specs.Outcome.{Outcome, refused, nothing, and_then}
use Rattle.answers.specs.Slice.{fitting}
use Rattle.workspace.specs.declared.Grid.{Grid}
use Rattle.workspace.specs.Entries.{FINAL}
use Rattle.workspace.specs.Cells.{word}
use Rattle.workspace.specs.Holds.{Ready, table_at}
use Rattle.workspace.proofs.Views.{final_is, final-size, final-inner, output_is, output-inner, in_table}
use Rattle.encoder.specs.Encoding.{BytesWritten, rows_in, Writable}
use Rattle.words.specs.Word.{Below}
use Rattle.answers.specs.Answer.{refusal, outcome_of, Filled}
use Rattle.cascades.specs.Rule.{Cascade}
use Rattle.compilation.specs.Compile.{compile_cascade}
use Rattle.answers.specs.declared.Refusal.{Refusal}
use Rattle.answers.specs.declared.Refusal.TheVariants.{AtByte, AtRule, Bare}
use Rattle.transducers.specs.Table as tables
use Rattle.tables.specs.Bytes.{encode}
use Rattle.builder.specs.Rows.{TableInRows, BuiltRows}
use Rattle.std.specs.Prelude.{Result, Ok, Err}

-- the rows as the encoder reads them are the table that they hold
pub rows_in_lem : (g : Grid) (W : List ℕ) (base n : ℕ) → rows_in g W base n ≡ table_at g W base n
unfolding table_at
rows_in_lem g W base n = refl

-- what rows that hold a table need to be written as bytes
module _ (g : Grid) (W : List ℕ) (n : ℕ) (ok : Ready g W 0 n) (tags : g.tags < 0x100) (deep : g.depth ≤ 0x100) where
  pub writable : Writable g W 0 n
  writable =
      record {
        sized = ok.sized;
        rows = λ q h.
            record {
              sized = ok.sized;
              outputs = λ a ha.
                  record {
                    inner = output-inner g W 0 n ok q a h ha;
                    small = below_more (word g W (0 + q) a 1) (rw (output_is g W 0 n ok q a h ha) (ok.sound.output_below q a (in_table g W 0 n ok q h) ha));
                  };
              final =
                  record {
                    inner = final-inner g W 0 n ok q h;
                    small = below_more (word g W (0 + q) g.tags FINAL) (rw (final_is g W 0 n ok q h) (ok.sound.final_below q (in_table g W 0 n ok q h)));
                  };
              few = omega (arith, final-size g W 0 n ok q h, ok.held q (in_table g W 0 n ok q h), ok.room);
            };
        room = ok.inside;
        tags = tags;
        states = ok.small;
      }
    where
      below_more : (w : List ℕ) → Below g.tags w → Below 0x100 w
      below_more w h = below_mono g.tags 0x100 w (omega arith) h

-- 11, or the bytes at the front of the output slice
pub too_short : (bytes out : List ℕ) → length out < length bytes → (r : Result ℕ Refusal) → outcome_of r ≡ refused 11 nothing
    → Filled (fitting (length out) bytes) out out r
too_short bytes out h r e = record { answered = cc (e, lt-leb (length bytes) (length out) h); wrote = cc (lt-leb (length bytes) (length out) h) }

pub fits : (bytes out after : List ℕ) (end : ℕ) → length bytes ≤ length out → BytesWritten out after 0 bytes end → Filled (fitting (length out) bytes) out after (Ok end)
fits bytes out after end h w =
    record {
      answered = let e : end ≡ length bytes = omega (arith, w.end) in cc (e, le-leb (length bytes) (length out) h);
      wrote =
          let z : 0 + length bytes ≡ length bytes = omega arith in
          w.is ∙ sets-eq bytes out 0 (omega arith) ∙ cc (z, le-leb (length bytes) (length out) h);
    }

-- what a table that stands in rows, or is refused, comes to
module _ (g : Grid) (W : List ℕ) (ceiling : ℕ) (c : Cascade) (b : Result ℕ Refusal) (ok : BuiltRows g W ceiling c b) where
  pub in_rows : (n : ℕ) → b ≡ Ok n → TableInRows g W ceiling c n
  in_rows n e = subst (BuiltRows g W ceiling c) e ok

  pub not-built : (r : Refusal) → b ≡ Err r → compile_cascade ceiling c ≡ refusal r
  not-built r e = subst (BuiltRows g W ceiling c) e ok

  pub gave_bytes : (n : ℕ) → b ≡ Ok n → (out after : List ℕ) (r : Result ℕ Refusal)
      → Filled (fitting (length out) (encode g.tags (table_at g W 0 n))) out after r
      → Filled (and_then (compile_cascade ceiling c) (λ t. fitting (length out) (encode g.tags t))) out after r
  gave_bytes n e out after r gave =
      subst (λ (x : Outcome (List ℕ)). Filled x out after r)
      (ap (λ (x : Outcome tables.Table). and_then x (λ t. fitting (length out) (encode g.tags t))) (sym (in_rows n e).is)) gave

  pub gave-refused : (r : Refusal) → b ≡ Err r → (out : List ℕ)
      → Filled (and_then (compile_cascade ceiling c) (λ t. fitting (length out) (encode g.tags t))) out out (Err r)
  gave-refused r e out = by r (not-built r e)
    where
      by : (r : Refusal) → compile_cascade ceiling c ≡ refusal r → Filled (and_then (compile_cascade ceiling c) (λ t. fitting (length out) (encode g.tags t))) out out (Err r)
      by (AtByte j p) e = record { answered = cc (e); wrote = cc (e) }
      by (AtRule j p) e = record { answered = cc (e); wrote = cc (e) }
      by (Bare j) e = record { answered = cc (e); wrote = cc (e) }
