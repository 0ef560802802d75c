-- The starter table: computed at the lowest ceiling; and from demand 3, at every ceiling and of every sentence.
use Prim.Native.Nat.{ℕ, ◌≤◌, ◌<◌}
use native.Mathlib.Omega.{arith}
use mathlib.Core.Path.{◌≡◌, refl, sym, ap, ◌∙◌}
use mathlib.Core.Bool.{false}
use mathlib.Core.List.{List, ◌++◌}
use borrow.Author.Tests.{le-leb, lt-leb}
use lib.ListN.{length, drop}
use Rattle.limits.specs.Limits.{no_end, standard}
use Rattle.limits.specs.Work.{work_entries}
use Rattle.limits.proofs.Range.{standard_range}
use Rattle.answers.specs.Outcome.{Outcome, result, refused, nothing, provided}
use Rattle.answers.specs.Slice.{fitting, written}
use Rattle.books.specs.Ending.{read_ending}
use Rattle.tagging.specs.Run.{book_run}
use Rattle.minimal.specs.TableOf.{table_of}
use Rattle.tables.specs.Bytes.{encode}
use Rattle.tables.specs.Run.{table_run}
use Rattle.compilation.specs.Compile.{compile_answer}
use Rattle.compilation.specs.Demand.{Premises, Compiled}
use Rattle.compilation.proofs.Demand as demand
use Rattle.compilation.proofs.Runs as runs
use Rattle.starter.specs.Starter.{starter_cascade, starter_book, starter_answer, AtEveryCeiling}

unfoldable pub bytes : List ℕ
bytes = encode starter_cascade.tags (table_of starter_cascade)

-- ---- computed

pub reads : read_ending standard starter_book no_end ≡ result starter_cascade
reads = refl

pub computed : (room : ℕ) → starter_answer room ≡ fitting room bytes
unfolding bytes starter_answer
computed room = refl

pub long : length bytes ≡ 731
unfolding bytes
long = refl

-- ---- from that

pub answers : (room : ℕ) → 731 ≤ room → starter_answer room ≡ result bytes
answers room l = computed room ∙ ap (λ t. provided 11 t (result bytes)) (le-leb (length bytes) room (omega (arith, long)))

-- as an equation with compile
compiles : compile_answer standard starter_book no_end 3 (work_entries standard false 3 48 1) 731 ≡ result bytes
unfolding starter_answer
compiles = answers 731 (omega arith)

pub short : (room : ℕ) → room < 731 → starter_answer room ≡ refused 11 nothing
short room l = computed room ∙ ap (λ t. provided 11 t (result bytes)) (lt-leb (length bytes) room (omega (arith, long)))

-- what is written where an array stands in front of the slice, and is the table
pub front : (array before after : List ℕ) → after ≡ array ++ drop (length array) before → 731 ≤ length before → array ≡ bytes
    → after ≡ written (starter_answer (length before)) before
front array before after w l e =
    w ∙ ap (λ x. x ++ drop (length x) before) e ∙ ap (λ (o : Outcome (List ℕ)). written o before) (sym (answers (length before) l))

-- "it is what the compiler gives for that book, with no end tag, wherever the ceiling is 3 to 256 and the slices are long enough"
pub at_every_ceiling : AtEveryCeiling
at_every_ceiling n work room l m w =
    let p : Premises standard starter_book no_end n work starter_cascade = record { ranged = standard_range; reads = reads; some = omega arith; most = m; long = w } in
    demand.greater_ceiling standard starter_book no_end 3 (work_entries standard false 3 48 1) 731 bytes compiles n work room starter_cascade l p
    ∙ sym (computed room)

-- so demand 3 holds of it,
pub compiled : Compiled standard starter_book no_end 3 (work_entries standard false 3 48 1) bytes
compiled = demand.compiled standard starter_book no_end 3 (work_entries standard false 3 48 1) 731 bytes compiles

-- and its run is the run of the book, for every sentence and every output slice
pub same-run : (sentence : List ℕ) (slice : ℕ) → table_run standard bytes sentence slice ≡ book_run standard starter_book no_end sentence slice
same-run = runs.same-run standard starter_book no_end 3 (work_entries standard false 3 48 1) 731 bytes compiles
