-- Every answer of a check is legible: a number for C can tell it.
use Prim.Native.Nat.{ℕ}
use native.Mathlib.Omega.{arith}
use mathlib.Core.Path.{◌≡◌, refl, sym, subst}
use mathlib.Core.Bool.{Bool, true, false, not}
use mathlib.Core.List.{List}
use lib.Dec.{eqb, leb}
use Rattle.std.specs.Prelude.{Option, Some, None, Result, Ok, Err}
use Rattle.limits.specs.Limits.{most_states, in_range}
use Rattle.limits.specs.declared.Limits.{Limits}
use Rattle.answers.specs.Outcome.{Outcome, result, refused, nothing, byte, rule, and_then, provided}
use Rattle.answers.specs.Answer.{refusal}
use Rattle.answers.specs.declared.Refusal.{Refusal}
use Rattle.answers.specs.declared.Refusal.TheVariants.{AtByte, AtRule, Bare}
use Rattle.cascades.specs.Rule.{Cascade, ending}
use Rattle.cascades.specs.Ending.{bad_end}
use Rattle.books.specs.Read.{read}
use Rattle.books.specs.Ending.{fitted, read_ending}
use Rattle.books.proofs.Refusal.{BookRefusal, book_refusal}
use Rattle.transducers.specs.Table.{Table}
use Rattle.tables.specs.Decode.{Decoded, decode}
use Rattle.tables.proofs.Outcomes.{Read, gave, refuses, read-decode}
use Rattle.compilation.specs.Compile.{entries, compile_cascade}
use Rattle.compilation.proofs.Answer.{Told, fits, exceeds, told, Proper, proper}
use Rattle.packing.specs.Packed.{Legible}
use Rattle.checking.specs.Check.{longest_shown, Pair, paired, roomy, checkable, compared, checked, Answers, check_outcome}
use Rattle.checking.proofs.Tests.{given}

-- its refusal, if it is one, is
abbrev ToldWell : {A : Type 0} → Outcome A → Type 0
ToldWell (result a) = Unit {0}
ToldWell (refused n p) = Legible (refused n p)

after : {A B : Type 0} (o : Outcome A) (f : A → Outcome B) → ToldWell o → ((a : A) → o ≡ result a → ToldWell (f a)) → ToldWell (and_then o f)
after (result a) f h g = g a refl
after (refused n p) f h g = h

test : {A : Type 0} (n : ℕ) (b : Bool) (o : Outcome A) → Legible (refused n nothing) → ToldWell o → ToldWell (provided n b o)
test n true o l h = h
test n false o l h = l

module _ (lim : Limits) (book : List ℕ) (end : ℕ) (bytes : List ℕ) (work : ℕ) where
  of_book : ToldWell (read lim book)
  of_book = by (read lim book) (book_refusal lim book)
    where
      by : (o : Outcome Cascade) → BookRefusal lim o → ToldWell o
      by (result c) n = tt
      by (refused j nothing) n = absurd n
      by (refused j (byte i)) n = (n.0.0, omega (arith, n.0.1), λ e. omega (arith, e, n.0.2 (omega arith)))
      by (refused j (rule i)) n = absurd n

  of_table : ToldWell (decode lim bytes)
  of_table = by (read-decode lim bytes)
    where
      by : Read (decode lim bytes) → ToldWell (decode lim bytes)
      by (gave d e) = subst (λ (o : Outcome Decoded). ToldWell o) (sym e) tt
      by (refuses e) = subst (λ (o : Outcome Decoded). ToldWell o) (sym e) (omega arith, omega arith, λ e. omega arith)

  of_pair : (c : Cascade) → ToldWell (and_then (paired lim bytes c) (roomy lim work))
  of_pair c =
      after (paired lim bytes c) (roomy lim work)
      (after (decode lim bytes) _ of_table (λ d e. test 20 (eqb d.tags c.tags) _ (omega arith, omega arith, λ e. omega arith) tt))
      (λ p e. test 9 (leb (entries lim most_states p.cascade) work) _ (omega arith, omega arith, λ e. omega arith) tt)

  of_tests : ToldWell (checkable lim book end bytes work)
  of_tests =
      test 17 (in_range lim) _ (omega arith, omega arith, λ e. omega arith)
      (after (read_ending lim book end) _
      (after (read lim book) (fitted end) of_book (λ c e. test 14 (not (bad_end (ending end c))) _ (omega arith, omega arith, λ e. omega arith) tt))
      (λ c e. of_pair c))

  of_built : (c : Cascade) → Proper lim c → {o : Outcome Table} → Told most_states c o → ToldWell o
  of_built c v (fits f) = tt
  of_built c v (exceeds i x) = (refl, x.some, omega (arith, x.inside, v.valid.book_valid.few_rules, v.ranged.few_rules))

  of_check : (room : ℕ) → ToldWell (checked lim book end bytes work room)
  of_check room =
      after (checkable lim book end bytes work) (compared room) of_tests
      (λ p e.
      let g = (given lim book end bytes work p e).premises in
      after (compile_cascade most_states p.cascade) _ (of_built p.cascade (proper lim book end p.cascade g.ranged g.reads) (told most_states p.cascade))
      (λ t f. test 11 (leb longest_shown room) _ (omega arith, omega arith, λ e. omega arith) tt))

  pub legible_check : (room : ℕ) (before out : List ℕ) (a : Result (Option ℕ) Refusal) → Answers (checked lim book end bytes work room) before out a → Legible (check_outcome a)
  legible_check room before out (Ok None) h = omega arith
  legible_check room before out (Ok (Some n)) h = omega (arith, h.2.short)
  legible_check room before out (Err r) h = by r (subst (λ (o : Outcome Pair). ToldWell o) h.0 (of_check room))
    where
      by : (r : Refusal) → ToldWell {A = Pair} (refusal r) → Legible (refusal r)
      by (AtByte j p) l = l
      by (AtRule j p) l = l
      by (Bare j) l = l
