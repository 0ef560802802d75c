-- The starter table as C sees it: numbers and bytes, from the contracts alone (document 02, W7).
use Prim.Native.Nat.{ℕ, ◌*◌, ◌/◌, ◌%◌, ◌≤◌, ◌<◌}
use native.Mathlib.Omega.{arith}
use mathlib.Core.Path.{◌≡◌, sym, ap, ◌∙◌}
use mathlib.Core.Bool.{false}
use mathlib.Core.List.{List, ◌++◌}
use lib.ListN.{length, take, drop, replicate, length-replicate}
use Rattle.limits.specs.Limits.{most_states, no_end, standard}
use Rattle.limits.specs.Work.{work_entries}
use Rattle.answers.specs.Outcome.{Outcome}
use Rattle.answers.specs.Slice.{long_of, written}
use Rattle.tagging.specs.Run.{book_run}
use Rattle.tables.specs.Run.{table_run}
use Rattle.packing.specs.Packed.{packed}
use Rattle.starter.specs.Starter.{starter_book, starter_answer}
use Rattle.starter.proofs.Starter.{bytes, answers, short, long, at_every_ceiling}
use Rattle.nedzsuka.proofs.Demand as demand
use Rattle.nedzsuka.proofs.Demand.{CompileCall, RunCall}

-- what the contract of nedzsuka_starter_table says
pub record StarterCall (before after : List ℕ) (number : ℕ) : Type 0 where
  pub answered : number ≡ packed (long_of (starter_answer (length before)))
  pub wrote : after ≡ written (starter_answer (length before)) before

module _ (before after : List ℕ) (number : ℕ) (call : StarterCall before after number) where
  -- it answers and writes what nedzsuka_compile does for the starter book, "wherever the ceiling is 3 to 256 and the slices are long enough"
  pub as_compiled : (n : ℕ) (work : List ℕ) → 3 ≤ n → n ≤ most_states → work_entries standard false n 48 1 ≤ length work
      → CompileCall standard starter_book no_end n work before after number
  as_compiled n work l m w =
      let e = sym (at_every_ceiling n (length work) (length before) l m w) in
      record {
        answered = call.answered ∙ ap (λ (o : Outcome (List ℕ)). packed (long_of o)) e;
        wrote = call.wrote ∙ ap (λ (o : Outcome (List ℕ)). written o before) e;
      }

  -- 731 × 256 with the table in front of the slice; or 11, and nothing is written
  pub fits : 731 ≤ length before → (number ≡ 731 * 256) × (after ≡ bytes ++ drop 731 before)
  fits l =
      let e = answers (length before) l in (
        omega (arith, call.answered ∙ ap (λ (o : Outcome (List ℕ)). packed (long_of o)) e, long),
        call.wrote ∙ ap (λ (o : Outcome (List ℕ)). written o before) e ∙ ap (λ (m : ℕ). bytes ++ drop m before) long,
      )

  pub too_short : length before < 731 → (number ≡ 11) × (after ≡ before)
  too_short l =
      let e = short (length before) l in
      (call.answered ∙ ap (λ (o : Outcome (List ℕ)). packed (long_of o)) e, call.wrote ∙ ap (λ (o : Outcome (List ℕ)). written o before) e)

  -- the run of the table in front of the slice answers the number and writes the bytes of the run of the starter book, for every sentence
  pub same-run : number % 256 ≡ 0
      → (sentence out by-table by_book : List ℕ) (table-number book-number : ℕ)
      → RunCall (table_run standard (take (number / 256) after) sentence (length out)) sentence out by-table table-number
      → RunCall (book_run standard starter_book no_end sentence (length out)) sentence out by_book book-number
      → (table-number ≡ book-number) × (by-table ≡ by_book)
  same-run =
      let n = work_entries standard false 3 48 1 in
      let work : List ℕ = replicate n 0 in
      let enough : n ≤ length work = omega (arith, length-replicate {A = ℕ} n 0) in
      demand.same-run standard starter_book no_end 3 work before after number (as_compiled 3 work (omega arith) (omega arith) enough)
