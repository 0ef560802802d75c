-- Loaded tables, about the functions for C: from nothing but their contracts.
use Prim.Native.Nat.{ℕ, ◌/◌, ◌%◌, ◌≤◌}
use native.Mathlib.Omega.{arith}
use mathlib.Core.Path.{◌≡◌, refl, sym, ap, ◌∙◌}
use mathlib.Core.Logic.{◌↔◌}
use mathlib.Core.Bool.{Bool, true, false}
use mathlib.Core.List.{List, ◌++◌}
use lib.Dec.{leb}
use lib.ListN.{length, take, drop}
use Rattle.limits.specs.Limits.{standard}
use Rattle.words.specs.Word.{Below}
use Rattle.answers.specs.Outcome.{Outcome, result, and_then, provided}
use Rattle.answers.specs.Slice.{fitting, long_of, written}
use Rattle.answers.proofs.Slice.{front-result}
use Rattle.sentences.specs.Run.{changed}
use Rattle.tagging.specs.Run.{book_run}
use Rattle.tables.specs.Decode.{Decoded, decode}
use Rattle.tables.specs.Run.{Size, table_run}
use Rattle.tables.proofs.Outcomes.{Read, gave, refuses, read-decode}
use Rattle.loaded.specs.Numbers.{numbers}
use Rattle.loaded.specs.Run.{loaded_run, load_answer}
use Rattle.loaded.proofs.Theorems.{runs_as_table, enough}
use Rattle.packing.specs.Packed.{packed}
use Rattle.sizing.specs.Sizes.{table_size, table_sizes}
use Rattle.nedzsuka.proofs.Legible.{legible_load}
use Rattle.nedzsuka.proofs.Demand.{CompileCall, RunCall, means_result, refused_writes, same-run}

-- what the contract of nedzsuka_load_table says
pub record LoadCall (table before after : List ℕ) (number : ℕ) : Type 0 where
  pub answered : number ≡ packed (long_of (load_answer standard table (length before)))
  pub wrote : after ≡ written (load_answer standard table (length before)) before

module _ (table before after : List ℕ) (number : ℕ) (call : LoadCall table before after number) where
  -- a refused call writes nothing
  pub load_refused_nothing : (number % 256 ≡ 0 → ⊥) → after ≡ before
  load_refused_nothing h =
      call.wrote
      ∙ refused_writes (load_answer standard table (length before)) before length number
      (λ ns e. call.answered ∙ ap (λ (o : Outcome (List ℕ)). packed (long_of o)) e) h

  abbrev loading : Outcome Decoded → Outcome (List ℕ)
  loading o = and_then o (λ d. fitting (length before) (numbers d.tags d.table))

  abbrev sizing : Outcome Decoded → Outcome Size
  sizing o = and_then o (λ d. result (record { tags = d.tags; states = length d.table }))

  -- 12 is answered exactly where nedzsuka_read_table answers it
  pub load_12 : (number ≡ 12) ↔ (packed (table_sizes table) ≡ 12)
  load_12 = by (read-decode standard table)
    where
      eleven : (ns : List ℕ) (t : Bool) → packed (long_of (provided 11 t (result ns))) ≡ 12 → ⊥
      eleven ns true e = omega (arith, e)
      eleven ns false e = omega (arith, e)

      by : Read (decode standard table) → (number ≡ 12) ↔ (packed (table_sizes table) ≡ 12)
      by (gave d e) =
          let ns = numbers d.tags d.table in (
            λ f. absurd (eleven ns (leb (length ns) (length before)) (sym (call.answered ∙ ap (λ (o : Outcome Decoded). packed (long_of (loading o))) e) ∙ f)),
            λ f. absurd (omega (arith, sym (ap (λ (o : Outcome Decoded). packed (table_size (sizing o))) e) ∙ f)),
          )
      by (refuses e) = (
        λ f. ap (λ (o : Outcome Decoded). packed (table_size (sizing o))) e,
        λ f. call.answered ∙ ap (λ (o : Outcome Decoded). packed (long_of (loading o))) e,
      )

  module _ (bytes : Below 0x100 table) where
    outcome-is : number % 256 ≡ 0 → load_answer standard table (length before) ≡ result (take (number / 256) after)
    outcome-is e =
        let o = means_result (long_of (load_answer standard table (length before))) (legible_load table bytes (length before)) number call.answered e in
        front-result (number / 256) before after (load_answer standard table (length before)) (sym o) call.wrote

    -- beyond the numbers that were written the slice keeps its own
    pub load_keeps : number % 256 ≡ 0 → after ≡ take (number / 256) after ++ drop (length (take (number / 256) after)) before
    load_keeps e = call.wrote ∙ ap (λ (o : Outcome (List ℕ)). written o before) (outcome-is e)

    -- as many numbers as the table has bytes are always enough
    pub load_enough : length table ≤ length before → number ≡ 11 → ⊥
    load_enough long eleven = by (read-decode standard table)
      where
        by : Read (decode standard table) → ⊥
        by (gave d e) =
            let z = ap sizing e in
            let l = enough standard table bytes (length before) long _ z in
            omega (arith, sym eleven ∙ call.answered ∙ ap (λ (o : Outcome (List ℕ)). packed (long_of o)) l.1)
        by (refuses e) = omega (arith, sym eleven ∙ call.answered ∙ ap (λ (o : Outcome Decoded). packed (long_of (loading o))) e)

    -- the numbers that were written, with anything behind them, run as the table does: the number and the bytes of every call
    pub loaded-run : number % 256 ≡ 0 → (tail sentence out by-loaded by-table : List ℕ) (loaded-number table-number : ℕ)
        → RunCall (loaded_run standard (take (number / 256) after ++ tail) sentence (length out)) sentence out by-loaded loaded-number
        → RunCall (table_run standard table sentence (length out)) sentence out by-table table-number
        → (loaded-number ≡ table-number) × (by-loaded ≡ by-table)
    loaded-run e tail sentence out by-loaded by-table loaded-number table-number r q =
        let same = runs_as_table standard table bytes (length before) (take (number / 256) after) (outcome-is e) tail sentence (length out) in (
          r.answered ∙ ap (λ (o : Outcome (List ℕ)). packed (changed sentence o)) same ∙ sym q.answered,
          r.wrote ∙ ap (λ (o : Outcome (List ℕ)). written o out) same ∙ sym q.wrote,
        )

-- compiled, loaded and run: the number and the bytes of nedzsuka_run_book_ending
pub loaded_book : (book : List ℕ) (end n : ℕ) (work room table : List ℕ) (compile-number : ℕ) → CompileCall standard book end n work room table compile-number → compile-number % 256 ≡ 0
    → Below 0x100 (take (compile-number / 256) table)
    → (before after : List ℕ) (number : ℕ) → LoadCall (take (compile-number / 256) table) before after number → number % 256 ≡ 0
    → (tail sentence out by-loaded by_book : List ℕ) (loaded-number book-number : ℕ)
    → RunCall (loaded_run standard (take (number / 256) after ++ tail) sentence (length out)) sentence out by-loaded loaded-number
    → RunCall (book_run standard book end sentence (length out)) sentence out by_book book-number
    → (loaded-number ≡ book-number) × (by-loaded ≡ by_book)
loaded_book book end n work room table compile-number c ok bytes before after number l loaded tail sentence out by-loaded by_book loaded-number book-number r q =
    let o = table_run standard (take (compile-number / 256) table) sentence (length out) in
    let by-table : RunCall o sentence out (written o out) (packed (changed sentence o)) = record { answered = refl; wrote = refl } in
    let a = loaded-run _ before after number l bytes loaded tail sentence out by-loaded (written o out) loaded-number (packed (changed sentence o)) r by-table in
    let b = same-run standard book end n work room table compile-number c ok sentence out (written o out) by_book (packed (changed sentence o)) book-number by-table q in
    (a.0 ∙ b.0, a.1 ∙ b.1)
