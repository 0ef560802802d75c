-- Demand 3, and demand 2 through the compiled table, about the call compile: from nothing but its contract, about its answer and the
-- bytes in the output slice.
use Prim.Native.Nat.{ℕ, ◌≤◌, ◌<◌}
use native.Mathlib.Omega.{arith}
use mathlib.Core.Path.{◌≡◌, refl, sym, ap, ◌∙◌}
use mathlib.Core.Logic.{◌↔◌}
use mathlib.Core.List.{List, ◌++◌}
use lib.ListN.{length, take, drop}
use Rattle.limits.specs.declared.Limits.{Limits}
use Rattle.answers.specs.Outcome.{Outcome, result, refused, nothing, rule}
use Rattle.answers.specs.Slice.{long_of, written}
use Rattle.answers.proofs.Slice.{front-result, long-rule}
use Rattle.answers.specs.Answer.{outcome_of, number_of}
use Rattle.answers.proofs.Answer.{number-one}
use Rattle.answers.specs.declared.Reason.{Reason}
use Rattle.answers.specs.declared.Reason.TheVariants.{TooManyStates, ShortOutput}
use Rattle.answers.specs.declared.Refusal.{Refusal}
use Rattle.std.specs.Prelude.{Result, Ok, Err}
use Rattle.answers.specs.declared.Refusal.TheVariants.{AtByte, AtRule, Bare}
use Rattle.sentences.specs.Run.{changed, Ran}
use Rattle.cascades.specs.Rule.{Cascade}
use Rattle.books.specs.Ending.{read_ending}
use Rattle.tagging.specs.Run.{book_run}
use Rattle.tables.specs.Run.{table_run}
use Rattle.compilation.specs.Compile.{compile_answer}
use Rattle.compilation.specs.Demand.{PartNeedsMore, Shortest, Alike, Premises, SmallestTable, Compiled, Named}
use Rattle.compilation.proofs.Demand as demand
use Rattle.compilation.proofs.Runs as runs

-- what the contract says of a call's answer and output slice
pub record Call (lim : Limits) (book : List ℕ) (end n : ℕ) (work before after : List ℕ) (answer : Result ℕ Refusal) : Type 0 where
  pub answered : outcome_of answer ≡ long_of (compile_answer lim book end n (length work) (length before))
  pub wrote : after ≡ written (compile_answer lim book end n (length work) (length before)) before

-- ---- which answer stands for which outcome

outcome-table : (s : ℕ) (r : Result ℕ Refusal) → outcome_of r ≡ result s → r ≡ Ok s
outcome-table s (Ok m) e = cc
outcome-table s (Err (AtByte j p)) e = let z : ◌≡◌ {A = ℕ} 0 1 = cc in absurd (omega arith)
outcome-table s (Err (AtRule j p)) e = let z : ◌≡◌ {A = ℕ} 0 1 = cc in absurd (omega arith)
outcome-table s (Err (Bare j)) e = let z : ◌≡◌ {A = ℕ} 0 1 = cc in absurd (omega arith)

outcome-rule : (j : Reason) (i : ℕ) (r : Result ℕ Refusal) → outcome_of r ≡ refused (number_of j) (rule i) → r ≡ Err (AtRule j i)
outcome-rule j i (Ok s) e = let z : ◌≡◌ {A = ℕ} 0 1 = cc in absurd (omega arith)
outcome-rule j i (Err (AtByte k p)) e = let z : ◌≡◌ {A = ℕ} 0 1 = cc in absurd (omega arith)
outcome-rule j i (Err (AtRule k p)) e = let n : number_of k ≡ number_of j = cc in let same : k ≡ j = number-one k j n in cc
outcome-rule j i (Err (Bare k)) e = let z : ◌≡◌ {A = ℕ} 0 1 = cc in absurd (omega arith)

outcome_bare : (j : Reason) (r : Result ℕ Refusal) → outcome_of r ≡ refused (number_of j) nothing → r ≡ Err (Bare j)
outcome_bare j (Ok s) e = let z : ◌≡◌ {A = ℕ} 0 1 = cc in absurd (omega arith)
outcome_bare j (Err (AtByte k p)) e = let z : ◌≡◌ {A = ℕ} 0 1 = cc in absurd (omega arith)
outcome_bare j (Err (AtRule k p)) e = let z : ◌≡◌ {A = ℕ} 0 1 = cc in absurd (omega arith)
outcome_bare j (Err (Bare k)) e = let n : number_of k ≡ number_of j = cc in let same : k ≡ j = number-one k j n in cc

-- ---- the clauses

module _ (lim : Limits) (book : List ℕ) (end n : ℕ) (work before after : List ℕ) (answer : Result ℕ Refusal) (call : Call lim book end n work before after answer) where
  outcome-is : (s : ℕ) → answer ≡ Ok s → compile_answer lim book end n (length work) (length before) ≡ result (take s after)
  outcome-is s e =
      front-result s before after (compile_answer lim book end n (length work) (length before)) (ap outcome_of (sym e) ∙ call.answered) call.wrote

  -- the first s bytes of the output slice are the smallest table of the book, early and numbered
  pub table_is : (s : ℕ) → answer ≡ Ok s → Compiled lim book end n (length work) (take s after)
  table_is s e = demand.compiled lim book end n (length work) (length before) (take s after) (outcome-is s e)

  -- 10 with i is answered exactly if the first i rules are the shortest leading part that needs more than n states in every machine
  pub rule-named : (i : ℕ) → (answer ≡ Err (AtRule TooManyStates i)) ↔ Named lim book end n (length work) i
  rule-named i =
      let d = demand.refused_10 lim book end n (length work) (length before) i in (
        λ e. d.0 (long-rule 10 i (compile_answer lim book end n (length work) (length before)) (ap outcome_of (sym e) ∙ call.answered)),
        λ h. outcome-rule TooManyStates i answer (call.answered ∙ ap long_of (d.1 h)),
      )

  module _ (c : Cascade) (p : Premises lim book end n (length work) c) where
    -- 10 is answered if any leading part needs more, and names the shortest
    pub some-part : (j : ℕ) → PartNeedsMore c n j → (i : ℕ) × Shortest c n i × (answer ≡ Err (AtRule TooManyStates i))
    some-part j h =
        let d = demand.some-part lim book end n (length work) (length before) c p j h in
        (d.0, d.1, outcome-rule TooManyStates d.0 answer (call.answered ∙ ap long_of d.2))

    -- where none does there is a smallest table: its bytes stand at the front of the output slice and their number is the answer, or
    -- the slice is shorter, stays as it is, and the answer is 11
    pub otherwise : ((i : ℕ) → PartNeedsMore c n i → ⊥)
        → (bytes : List ℕ)
        × SmallestTable lim c bytes
        × (length bytes ≤ length before → (answer ≡ Ok (length bytes)) × (after ≡ bytes ++ drop (length bytes) before))
        × (length before < length bytes → (answer ≡ Err (Bare ShortOutput)) × (after ≡ before))
    otherwise none =
        let d = demand.otherwise lim book end n (length work) (length before) c p none in (
          d.0,
          d.1,
          λ l. (
            outcome-table (length d.0) answer (call.answered ∙ ap long_of (d.2 l)),
            call.wrote ∙ ap (λ (o : Outcome (List ℕ)). written o before) (d.2 l),
          ),
          λ l. (
            outcome_bare ShortOutput answer (call.answered ∙ ap long_of (d.3 l)),
            call.wrote ∙ ap (λ (o : Outcome (List ℕ)). written o before) (d.3 l),
          ),
        )

  -- the run of the compiled table answers and writes what the run of the book does
  pub same-run : (s : ℕ) → answer ≡ Ok s → (sentence out : List ℕ)
      → (by-table by_book : List ℕ) (table-answer book-answer : Result ℕ Refusal)
      → Ran (table_run lim (take s after) sentence (length out)) sentence out by-table table-answer
      → Ran (book_run lim book end sentence (length out)) sentence out by_book book-answer
      → (outcome_of table-answer ≡ outcome_of book-answer) × (by-table ≡ by_book)
  same-run s e sentence out by-table by_book x y r q =
      let same = runs.same-run lim book end n (length work) (length before) (take s after) (outcome-is s e) sentence (length out) in (
        r.answered ∙ ap (changed sentence) same ∙ sym q.answered,
        r.wrote ∙ ap (λ (o : Outcome (List ℕ)). written o out) same ∙ sym q.wrote,
      )

-- two books over equally many tags, each with its limits and its end tag, that compile get the same bytes exactly if they behave alike
pub same_bytes : (lim lim' : Limits) (book book' : List ℕ) (end end' n n' : ℕ) (work work' before before' after after' : List ℕ) (s s' : ℕ) (c d : Cascade)
    → read_ending lim book end ≡ result c → read_ending lim' book' end' ≡ result d → c.tags ≡ d.tags
    → Call lim book end n work before after (Ok s) → Call lim' book' end' n' work' before' after' (Ok s')
    → (take s after ≡ take s' after') ↔ Alike c d
same_bytes lim lim' book book' end end' n n' work work' before before' after after' s s' c d r q k a b =
    demand.same_bytes lim lim' book book' end end' n n' (length work) (length work') (length before) (length before') (take s after) (take s' after') c d r q k
    (outcome-is lim book end n work before after (Ok s) a s refl)
    (outcome-is lim' book' end' n' work' before' after' (Ok s') b s' refl)
