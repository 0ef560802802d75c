-- The words of a state that stands in a row of the work slice.
use Prim.Native.Nat.{ℕ, ◌+◌, ◌≤◌, ◌<◌}
use native.Mathlib.Nat.{zero-add}
use native.Mathlib.Omega.{arith}
use mathlib.Core.Path.{◌≡◌, ap, ◌∙◌}
use mathlib.Core.List.{List, [], ◌∷◌}
use lib.ListN.{length, take, length-append}
use lib.Seq.{paste}
use Rattle.words.specs.Word.{Below}
use Rattle.words.proofs.Word.{below_mono}
use Rattle.limits.specs.Limits.{most_tags}
use Rattle.transducers.specs.Transducer.{Shape, puts}
use Rattle.workspace.specs.declared.Grid.{Grid}
use Rattle.workspace.specs.Entries.{NEXT, OUTPUT, FINAL}
use Rattle.workspace.specs.Cells.{at, word}
use Rattle.workspace.specs.Holds.{Ready, standing}
use Rattle.workspace.proofs.Views.{in_table, final_is, final-size, final-inner, output_is, output-size, output-inner, next_is, next_below}
use Rattle.encoder.specs.Encoding.{Bytes}
use Rattle.comparing.specs.Step.{FrontPut}
use Rattle.comparing.proofs.Words.{put-part, put_whole, put_then}

module _ {g : Grid} {W : List ℕ} {n : ℕ} (ready : Ready g W 0 n) (few : g.tags ≤ most_tags) where
  abbrev T : Shape
  T = standing g W 0 n

  below-byte : (w : List ℕ) → Below g.tags w → Below 0x100 w
  below-byte w h = below_mono g.tags 0x100 w (omega arith) h

  -- a row's words and their lengths
  module _ (q : ℕ) (h : q < n) where
    final-word : word g W q g.tags FINAL ≡ T.final q
    final-word = rw (zero-add q) at (final_is g W 0 n ready q h)

    pub final-count : at g W q g.tags FINAL ≡ length (T.final q)
    final-count = rw (zero-add q) at (final-size g W 0 n ready q h)

    pub final_bytes : Bytes g W q g.tags FINAL
    final_bytes =
        record {
          inner = rw (zero-add q) at (final-inner g W 0 n ready q h);
          small = below-byte (word g W q g.tags FINAL) (rw final-word (ready.sound.final_below q (in_table g W 0 n ready q h)));
        }

    -- the front of the final word has been put
    pub final-put : (out after : List ℕ) (m : ℕ) → m ≤ length (T.final q) → after ≡ paste out 0 (word g W q g.tags FINAL) m → FrontPut out after 0 (take m (T.final q)) m
    final-put out after m le is = rw (zero-add m) at (put-part out after 0 (T.final q) m le (omega arith) (rw final-word at is))

  -- a step and its words
  module _ (q a : ℕ) (h : q < n) (ha : a < g.tags) where
    output-word : word g W q a OUTPUT ≡ T.output q a
    output-word = rw (zero-add q) at (output_is g W 0 n ready q a h ha)

    output-count : at g W q a OUTPUT ≡ length (T.output q a)
    output-count = rw (zero-add q) at (output-size g W 0 n ready q a h ha)

    next-state : at g W q a NEXT ≡ T.next q a
    next-state = rw (zero-add q) at (next_is g W 0 n ready q a h ha)

    pub output_bytes : Bytes g W q a OUTPUT
    output_bytes =
        record {
          inner = rw (zero-add q) at (output-inner g W 0 n ready q a h ha);
          small = below-byte (word g W q a OUTPUT) (rw output-word (ready.sound.output_below q a (in_table g W 0 n ready q h) ha));
        }

    module _ (next : ℕ) (to : next ≡ at g W q a NEXT) where
      pub next_low : next < n
      next_low = omega (arith, next-state, next_below g W 0 n ready q a h ha)

      next-final : T.final next ≡ T.final (T.next q a)
      next-final = ap T.final (to ∙ next-state)

      -- how many tags both words have
      pub both_count : at g W q a OUTPUT + at g W next g.tags FINAL ≡ length (puts T q (a ∷ []))
      both_count =
          omega (
            arith,
            output-count,
            final-count next next_low,
            ap length next-final,
            length-append (T.output q a) (T.final (T.next q a)),
          )

      -- both words have been put
      pub row_put :
          (out mid last : List ℕ) (from count held : ℕ)
          → count ≡ at g W q a OUTPUT
          → held ≡ at g W next g.tags FINAL
          → from + length (puts T q (a ∷ [])) ≤ length out
          → length mid ≡ length out
          → mid ≡ paste out from (word g W q a OUTPUT) count
          → last ≡ paste mid (from + count) (word g W next g.tags FINAL) held
          → FrontPut out last from (puts T q (a ∷ [])) (from + count + held)
      row_put out mid last from count held c d room long first second =
          let size : held ≡ length (T.final (T.next q a)) = d ∙ final-count next next_low ∙ ap length next-final in
          put_then out mid from last (T.output q a) (T.final (T.next q a)) (from + count) (from + count + held)
          (put_whole out mid from (T.output q a) count (c ∙ output-count) (omega arith) (rw output-word at first))
          (put_whole mid last (from + count) (T.final (T.next q a)) held size (omega (arith, both_count)) (rw (final-word next next_low ∙ next-final) at second))
