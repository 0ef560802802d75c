-- Demands 1, 2 and 3 about the functions for C: from nothing but their contracts, about the numbers that they answer and the bytes in their
-- output slices. A number's lower 8 bits are its remainder by 256, and the rest is its quotient.
use Prim.Native.Nat.{ℕ, zero, suc, ◌+◌, ◌*◌, ◌/◌, ◌%◌, ◌≤◌, ◌<◌}
use native.Mathlib.Omega.{arith}
use mathlib.Core.Path.{◌≡◌, refl, sym, ap, ◌∙◌}
use mathlib.Core.Logic.{◌↔◌}
use mathlib.Core.List.{List, ◌++◌}
use lib.ListN.{length, take, drop}
use Rattle.limits.specs.declared.Limits.{Limits}
use Rattle.words.specs.Word.{Below, differences}
use Rattle.answers.specs.Outcome.{Outcome, result, refused, nothing, byte, rule}
use Rattle.answers.specs.Slice.{long_of, written}
use Rattle.answers.proofs.Slice.{refused_keeps, front-result, long-rule}
use Rattle.sentences.specs.Run.{changed}
use Rattle.cascades.specs.Rule.{Cascade}
use Rattle.books.specs.Ending.{read_ending}
use Rattle.tagging.specs.Run.{book_run}
use Rattle.tables.specs.Run.{table_run}
use Rattle.compilation.specs.Compile.{compile_answer}
use Rattle.compilation.specs.Demand.{PartNeedsMore, Shortest, Alike, Premises, SmallestTable, Compiled, Named, BookMakes, TableMakes}
use Rattle.compilation.proofs.Demand as demand
use Rattle.compilation.proofs.Runs as runs
use Rattle.packing.specs.Packed.{packed, taken, unpacked, handed, Legible}
use Rattle.packing.proofs.Number.{unpacked-packed}
use Rattle.nedzsuka.proofs.Legible.{legible_book, legible_table, legible_compile}

-- what the contract of nedzsuka_compile_within says of the number and the output slice; nedzsuka_compile_ending's says it with document 01's
-- limits, and nedzsuka_compile's with no-end besides
pub record CompileCall (lim : Limits) (book : List ℕ) (end n : ℕ) (work before after : List ℕ) (number : ℕ) : Type 0 where
  pub answered : number ≡ packed (long_of (compile_answer lim book end n (length work) (length before)))
  pub wrote : after ≡ written (compile_answer lim book end n (length work) (length before)) before

-- and those of nedzsuka_run_book, nedzsuka_run_table and nedzsuka_run_loaded, where the run has this outcome
pub record RunCall (outcome : Outcome (List ℕ)) (sentence before after : List ℕ) (number : ℕ) : Type 0 where
  pub answered : number ≡ packed (changed sentence outcome)
  pub wrote : after ≡ written outcome before

-- ---- from numbers to outcomes

module _ (o : Outcome ℕ) (legible : Legible o) (number : ℕ) (answered : number ≡ packed o) where
  -- the number is the outcome
  pub means : unpacked number ≡ handed o
  means = ap unpacked answered ∙ unpacked-packed o legible

  handed-result : (p : Outcome ℕ) (u : ℕ) → result u ≡ handed p → p ≡ result u
  handed-result (result m) u e = cc
  handed-result (refused m nothing) u e = let z : ◌≡◌ {A = ℕ} 0 1 = cc in absurd (omega arith)
  handed-result (refused m (byte b)) u e = let z : ◌≡◌ {A = ℕ} 0 1 = cc in absurd (omega arith)
  handed-result (refused m (rule i)) u e = let z : ◌≡◌ {A = ℕ} 0 1 = cc in absurd (omega arith)

  pub means_result : number % 256 ≡ 0 → o ≡ result (number / 256)
  means_result e = handed-result o (number / 256) (sym (ap (λ (x : ℕ). taken x (number / 256)) e) ∙ means)

  means_rule : (i : ℕ) → number ≡ i * 256 + 10 → o ≡ refused 10 (rule i)
  means_rule i e = by o legible i (sym (ap (λ (x : ℕ). taken x (number / 256)) low ∙ ap (taken 10) high) ∙ means)
    where
      low : number % 256 ≡ 10
      low = omega (arith, e)

      high : number / 256 ≡ i
      high = omega (arith, e)

      by : (p : Outcome ℕ) → Legible p → (i : ℕ) → taken 10 i ≡ handed p → p ≡ refused 10 (rule i)
      by (result m) l zero e = let z : ◌≡◌ {A = ℕ} 0 1 = cc in absurd (omega arith)
      by (result m) l (suc i) e = let z : ◌≡◌ {A = ℕ} 0 1 = cc in absurd (omega arith)
      by (refused m nothing) l zero e = let z : m ≡ 10 = cc in absurd (l.2 z)
      by (refused m nothing) l (suc i) e = let z : ◌≡◌ {A = ℕ} 0 1 = cc in absurd (omega arith)
      by (refused m (byte b)) l zero e = let z : m ≡ 10 = cc in absurd (l.2 z)
      by (refused m (byte b)) l (suc i) e = let z : ◌≡◌ {A = ℕ} 0 1 = cc in absurd (omega arith)
      by (refused m (rule j)) l zero e = let z : ◌≡◌ {A = ℕ} 0 1 = cc in absurd (omega arith)
      by (refused m (rule j)) l (suc i) e = sym e

-- a refusal's number has lower bits that are not 0, and what is refused writes nothing
pub refused_writes : (o : Outcome (List ℕ)) (before : List ℕ) (value : List ℕ → ℕ) (number : ℕ)
    → ((made : List ℕ) → o ≡ result made → number ≡ value made * 256 + 0)
    → (number % 256 ≡ 0 → ⊥) → written o before ≡ before
refused_writes o before value number e h = refused_keeps o before (λ made f. h (omega (arith, e made f)))

-- ---- compile

module _ (lim : Limits) (book : List ℕ) (end n : ℕ) (work before after : List ℕ) (number : ℕ) (call : CompileCall lim book end n work before after number) where
  abbrev outcome : Outcome (List ℕ)
  outcome = compile_answer lim book end n (length work) (length before)

  -- what the lower 8 bits and the rest say, is the outcome
  pub number_means : unpacked number ≡ handed (long_of (compile_answer lim book end n (length work) (length before)))
  number_means = means (long_of outcome) (legible_compile lim book end n (length work) (length before)) number call.answered

  outcome-is : number % 256 ≡ 0 → compile_answer lim book end n (length work) (length before) ≡ result (take (number / 256) after)
  outcome-is e =
      let o = means_result (long_of outcome) (legible_compile lim book end n (length work) (length before)) number call.answered e in
      front-result (number / 256) before after outcome (sym o) call.wrote

  -- "a refused call writes no byte of an output slice"
  pub refused-nothing : (number % 256 ≡ 0 → ⊥) → after ≡ before
  refused-nothing h = call.wrote ∙ refused_writes outcome before length number (λ made e. call.answered ∙ ap (λ (o : Outcome (List ℕ)). packed (long_of o)) e) h

  -- the first bytes of the output slice, as many as the answer says, are the smallest table of the book, early and numbered
  pub table_is : number % 256 ≡ 0 → Compiled lim book end n (length work) (take (number / 256) after)
  table_is e = demand.compiled lim book end n (length work) (length before) (take (number / 256) after) (outcome-is e)

  -- 10 with i is answered exactly if the first i rules are the shortest leading part that needs more than n states in every machine
  pub rule-named : (i : ℕ) → (number ≡ i * 256 + 10) ↔ Named lim book end n (length work) i
  rule-named i =
      let d = demand.refused_10 lim book end n (length work) (length before) i in (
        λ e. d.0 (long-rule 10 i outcome (sym (means_rule (long_of outcome) (legible_compile lim book end n (length work) (length before)) number call.answered i e))),
        λ h. call.answered ∙ ap (λ (o : Outcome (List ℕ)). packed (long_of o)) (d.1 h),
      )

  module _ (c : Cascade) (p : Premises lim book end n (length work) c) where
    -- 10 is answered if any leading part needs more, and names the shortest
    pub some-part : (j : ℕ) → PartNeedsMore c n j → (i : ℕ) × Shortest c n i × (number ≡ i * 256 + 10)
    some-part j h =
        let d = demand.some-part lim book end n (length work) (length before) c p j h in
        (d.0, d.1, call.answered ∙ ap (λ (o : Outcome (List ℕ)). packed (long_of o)) d.2)

    -- where none does there is a smallest table: its bytes stand at the front of the output slice and their number is answered, or the
    -- slice is shorter, stays as it is, and 11 is answered
    pub otherwise : ((i : ℕ) → PartNeedsMore c n i → ⊥)
        → (bytes : List ℕ)
        × SmallestTable lim c bytes
        × (length bytes ≤ length before → (number ≡ length bytes * 256) × (after ≡ bytes ++ drop (length bytes) before))
        × (length before < length bytes → (number ≡ 11) × (after ≡ before))
    otherwise none =
        let d = demand.otherwise lim book end n (length work) (length before) c p none in (
          d.0,
          d.1,
          λ l. (
            omega (arith, call.answered ∙ ap (λ (o : Outcome (List ℕ)). packed (long_of o)) (d.2 l)),
            call.wrote ∙ ap (λ (o : Outcome (List ℕ)). written o before) (d.2 l),
          ),
          λ l. (
            omega (arith, call.answered ∙ ap (λ (o : Outcome (List ℕ)). packed (long_of o)) (d.3 l)),
            call.wrote ∙ ap (λ (o : Outcome (List ℕ)). written o before) (d.3 l),
          ),
        )

-- two books over equally many tags, each with its limits and its end tag, that compile get the same bytes exactly if they behave alike
pub same_bytes : (lim lim' : Limits) (book book' : List ℕ) (end end' n n' : ℕ) (work work' before before' after after' : List ℕ) (number number' : ℕ) (c d : Cascade)
    → read_ending lim book end ≡ result c → read_ending lim' book' end' ≡ result d → c.tags ≡ d.tags
    → CompileCall lim book end n work before after number → number % 256 ≡ 0 → CompileCall lim' book' end' n' work' before' after' number' → number' % 256 ≡ 0
    → (take (number / 256) after ≡ take (number' / 256) after') ↔ Alike c d
same_bytes lim lim' book book' end end' n n' work work' before before' after after' number number' c d r q k a e b f =
    demand.same_bytes lim lim' book book' end end' n n' (length work) (length work') (length before) (length before')
    (take (number / 256) after) (take (number' / 256) after') c d r q k
    (outcome-is lim book end n work before after number a e)
    (outcome-is lim' book' end' n' work' before' after' number' b f)

-- ---- the runs

module _ (o : Outcome (List ℕ)) (sentence before after : List ℕ) (number : ℕ) (call : RunCall o sentence before after number) where
  -- a result is counted and written
  pub made_counted : (made : List ℕ) → o ≡ result made → (number ≡ differences sentence made * 256) × (after ≡ made ++ drop (length made) before)
  made_counted made e = (
    omega (arith, call.answered ∙ ap (λ (x : Outcome (List ℕ)). packed (changed sentence x)) e),
    call.wrote ∙ ap (λ (x : Outcome (List ℕ)). written x before) e,
  )

  pub run_refused_nothing : (number % 256 ≡ 0 → ⊥) → after ≡ before
  run_refused_nothing h =
      call.wrote
      ∙ refused_writes o before (differences sentence) number (λ made e. call.answered ∙ ap (λ (x : Outcome (List ℕ)). packed (changed sentence x)) e) h

  pub run-made : Legible (changed sentence o) → number % 256 ≡ 0 → (made : List ℕ) × (o ≡ result made)
  run-made legible e = by o (means_result (changed sentence o) legible number call.answered e)
    where
      by : (p : Outcome (List ℕ)) → changed sentence p ≡ result (number / 256) → (made : List ℕ) × (p ≡ result made)
      by (result made) e = (made, refl)
      by (refused m q) e = let z : ◌≡◌ {A = ℕ} 0 1 = cc in absurd (omega arith)

module _ (sentence before after : List ℕ) (number : ℕ) where
  -- a book's run: no refusal is answered exactly if the book is valid with the end tag and the sentence not refused; then what the rules
  -- leave stands at the front of the output slice, and the places that changed are counted
  pub book_made : (lim : Limits) (book : List ℕ) (end : ℕ) → RunCall (book_run lim book end sentence (length before)) sentence before after number → number % 256 ≡ 0
      → (made : List ℕ) × BookMakes lim book end sentence (length before) made × (number ≡ differences sentence made * 256) × (after ≡ made ++ drop (length made) before)
  book_made lim book end call e =
      let m = run-made (book_run lim book end sentence (length before)) sentence before after number call (legible_book lim book end sentence (length before)) e in
      let w = made_counted (book_run lim book end sentence (length before)) sentence before after number call m.0 m.1 in
      (m.0, (runs.book_makes sentence (length before) m.0 lim book end).0 m.1, w.0, w.1)

  pub book_makes : (lim : Limits) (book : List ℕ) (end : ℕ) → RunCall (book_run lim book end sentence (length before)) sentence before after number
      → (made : List ℕ) → BookMakes lim book end sentence (length before) made → (number ≡ differences sentence made * 256) × (after ≡ made ++ drop (length made) before)
  book_makes lim book end call made h =
      made_counted (book_run lim book end sentence (length before)) sentence before after number call made ((runs.book_makes sentence (length before) made lim book end).1 h)

  -- a table's run likewise; every byte of a slice is below 0x100
  pub table-made : (lim : Limits) (table : List ℕ) → Below 0x100 table → RunCall (table_run lim table sentence (length before)) sentence before after number → number % 256 ≡ 0
      → (made : List ℕ) × TableMakes lim table sentence (length before) made × (number ≡ differences sentence made * 256) × (after ≡ made ++ drop (length made) before)
  table-made lim table b call e =
      let m = run-made (table_run lim table sentence (length before)) sentence before after number call (legible_table lim table sentence (length before)) e in
      let w = made_counted (table_run lim table sentence (length before)) sentence before after number call m.0 m.1 in
      (m.0, (runs.table-makes sentence (length before) m.0 lim table b).0 m.1, w.0, w.1)

  pub table-makes : (lim : Limits) (table : List ℕ) → Below 0x100 table → RunCall (table_run lim table sentence (length before)) sentence before after number
      → (made : List ℕ) → TableMakes lim table sentence (length before) made → (number ≡ differences sentence made * 256) × (after ≡ made ++ drop (length made) before)
  table-makes lim table b call made h =
      made_counted (table_run lim table sentence (length before)) sentence before after number call made ((runs.table-makes sentence (length before) made lim table b).1 h)

-- "through the book or through its table": the run of a compiled table answers the number and writes the bytes of the run of its book
pub same-run : (lim : Limits) (book : List ℕ) (end n : ℕ) (work before after : List ℕ) (number : ℕ) → CompileCall lim book end n work before after number → number % 256 ≡ 0
    → (sentence out by-table by_book : List ℕ) (table-number book-number : ℕ)
    → RunCall (table_run lim (take (number / 256) after) sentence (length out)) sentence out by-table table-number
    → RunCall (book_run lim book end sentence (length out)) sentence out by_book book-number
    → (table-number ≡ book-number) × (by-table ≡ by_book)
same-run lim book end n work before after number call e sentence out by-table by_book table-number book-number r q =
    let same =
    runs.same-run lim book end n (length work) (length before) (take (number / 256) after) (outcome-is lim book end n work before after number call e) sentence (length out)
    in (
      r.answered ∙ ap (λ (o : Outcome (List ℕ)). packed (changed sentence o)) same ∙ sym q.answered,
      r.wrote ∙ ap (λ (o : Outcome (List ℕ)). written o out) same ∙ sym q.wrote,
    )
