-- Demand 2: "Every sentence not refused becomes what the published definition makes of it, through the book or through its table".
-- `book_run` and `table_run` are what the two runs answer and write.
use Prim.Native.Nat.{ℕ}
use native.Mathlib.Omega.{arith}
use mathlib.Core.Path.{◌≡◌, sym, ap, ◌∙◌}
use mathlib.Core.Logic.{◌↔◌}
use mathlib.Core.List.{List}
use Rattle.words.specs.Word.{Below}
use Rattle.limits.specs.declared.Limits.{Limits}
use Rattle.limits.proofs.Range.{range_in, within-is, within-result}
use Rattle.answers.specs.Outcome.{Outcome, result, and_then}
use Rattle.answers.proofs.Outcome.{went}
use Rattle.sentences.specs.Run.{run}
use Rattle.sentences.proofs.Run.{run-accepts, accepted-run, run-same}
use Rattle.cascades.specs.Rewrite.{behavior}
use Rattle.books.specs.Ending.{read_ending}
use Rattle.books.proofs.Ending.{reads-ending}
use Rattle.tagging.specs.Run.{book_run}
use Rattle.transducers.specs.Transducer.{puts}
use Rattle.transducers.specs.Table.{shape}
use Rattle.tables.specs.Decode.{decode_within}
use Rattle.tables.specs.Run.{table_run}
use Rattle.tables.proofs.Theorem.{decoded-within}
use Rattle.compilation.specs.Compile.{compile_answer}
use Rattle.compilation.specs.Demand.{BookMakes, TableMakes}
use Rattle.compilation.proofs.Demand.{compiled}

module _ (sentence : List ℕ) (room : ℕ) (made : List ℕ) where
  -- a book's run gives a result exactly if the book is valid and the sentence not refused, and it is what the rules leave
  pub book_makes : (lim : Limits) (book : List ℕ) (end : ℕ) → (book_run lim book end sentence room ≡ result made) ↔ BookMakes lim book end sentence room made
  book_makes lim book end = (to, from)
    where
      after : Outcome (List ℕ)
      after = and_then (read_ending lim book end) (λ b. run b.tags sentence room (behavior b sentence))

      to : book_run lim book end sentence room ≡ result made → BookMakes lim book end sentence room made
      to e =
          let r = within-result lim after made e in
          let t = went (read_ending lim book end) (λ b. run b.tags sentence room (behavior b sentence)) made r.1 in
          let c = t.first in
          let a = run-accepts c.tags sentence room (behavior c sentence) made t.then in
          record { ranged = r.0; cascade = c; reads = t.read; accepted = a.0; made_is = a.1 }

      from : BookMakes lim book end sentence room made → book_run lim book end sentence room ≡ result made
      from h =
          let c = h.cascade in
          let v = (reads-ending book end c h.reads).0 in
          let r = accepted-run c.tags sentence room (behavior c sentence) (omega (arith, v.book_valid.enough_tags)) h.accepted in
          within-is lim after h.ranged ∙ rw h.reads (r ∙ ap result (sym h.made_is))

  -- a table's run likewise: what the table's transducer puts out
  pub table-makes : (lim : Limits) (bytes : List ℕ) → Below 0x100 bytes → (table_run lim bytes sentence room ≡ result made) ↔ TableMakes lim bytes sentence room made
  table-makes lim bytes b = (to, from)
    where
      to : table_run lim bytes sentence room ≡ result made → TableMakes lim bytes sentence room made
      to e =
          let t = went (decode_within lim bytes) (λ d. run d.tags sentence room (puts (shape d.table) 0 sentence)) made e in
          let d = t.first in
          let a = run-accepts d.tags sentence room (puts (shape d.table) 0 sentence) made t.then in
          record { decoded = d; decodes = t.read; accepted = a.0; made_is = a.1 }

      from : TableMakes lim bytes sentence room made → table_run lim bytes sentence room ≡ result made
      from h =
          let d = h.decoded in
          let v = (decoded-within lim bytes d b h.decodes).0 in
          let r = accepted-run d.tags sentence room (puts (shape d.table) 0 sentence) (omega (arith, v.tags_least)) h.accepted in
          rw h.decodes (r ∙ ap result (sym h.made_is))

-- the run of a compiled table is the run of its book, for every sentence and every output slice, the refusals included
pub same-run : (lim : Limits) (book : List ℕ) (end n work room : ℕ) (bytes : List ℕ) → compile_answer lim book end n work room ≡ result bytes
    → (sentence : List ℕ) (slice : ℕ) → table_run lim bytes sentence slice ≡ book_run lim book end sentence slice
same-run lim book end n work room bytes e sentence slice =
    let c = compiled lim book end n work room bytes e in
    let b = c.cascade in
    let t = c.smallest.table in
    let r =
    run-same b.tags sentence slice (puts (shape t) 0 sentence) (behavior b sentence) (c.smallest.does sentence)
    in
    rw (range_in lim c.premises.ranged, c.smallest.decodes, c.premises.reads) r
