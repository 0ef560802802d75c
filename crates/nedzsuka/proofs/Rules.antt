-- Each tag with its rule (document 02, W6), about the function for C: from nothing but its contract.
use Prim.Native.Nat.{ℕ, ◌%◌, ◌<◌, min}
use native.Mathlib.Omega.{arith}
use mathlib.Core.Path.{◌≡◌, sym, ap, ◌∙◌, subst}
use mathlib.Core.List.{List, ◌++◌}
use lib.ListN.{length, drop, get_or, get_or-append}
use Rattle.limits.specs.Limits.{standard}
use Rattle.answers.specs.Outcome.{Outcome, result}
use Rattle.answers.specs.Slice.{written}
use Rattle.answers.proofs.Slice.{refused_keeps}
use Rattle.cascades.specs.Rule.{Cascade, ValidCascade}
use Rattle.cascades.specs.Rewrite.{apply_all, behavior}
use Rattle.cascades.proofs.Rewrite.{apply_all-long}
use Rattle.books.specs.Ending.{read_ending}
use Rattle.books.proofs.Ending.{reads-ending}
use Rattle.traces.specs.Trace.{traced}
use Rattle.traces.specs.Last.{Told}
use Rattle.traces.proofs.Places.{piecewise-long}
use Rattle.traces.proofs.Theorems.{traced-long, told}
use Rattle.tagging.specs.Run.{book_run}
use Rattle.tagging.specs.Numbers.{book_numbers}
use Rattle.running.specs.Rules.{numbers}
use Rattle.tagging.proofs.Numbers.{Read, was_run}
use Rattle.nedzsuka.proofs.Legible.{legible_book}
use Rattle.nedzsuka.proofs.Demand.{RunCall, made_counted, run_refused_nothing, run-made}

-- what the contract of nedzsuka_run_book_rules says: the answer and the output slice are those of a run that has room for the lesser of the two
-- lengths, and the second slice is written with the numbers
pub record RulesCall (book : List ℕ) (end : ℕ) (sentence out out' rules rules' : List ℕ) (number : ℕ) : Type 0 where
  pub ran : RunCall (book_run standard book end sentence (min (length out) (length rules))) sentence out out' number
  pub noted : rules' ≡ written (book_numbers standard book end sentence (min (length out) (length rules))) rules

-- what a call leaves that was not refused: the book that was read, its result and its numbers at the fronts of the slices, the rest of both as it
-- was, and what each place tells
pub record Noted (book : List ℕ) (end : ℕ) (sentence out out' rules rules' : List ℕ) : Type 0 where
  pub cascade : Cascade
  pub reads : read_ending standard book end ≡ result cascade
  pub tags : out' ≡ behavior cascade sentence ++ drop (length sentence) out
  pub numbers : rules' ≡ (traced cascade sentence).numbers ++ drop (length sentence) rules
  pub tells : (q : ℕ) → q < length sentence → Told cascade sentence q (get_or out' q 0) (get_or rules' q 0)

module _ (book : List ℕ) (end : ℕ) (sentence out out' rules rules' : List ℕ) (number : ℕ) (call : RulesCall book end sentence out out' rules rules' number) where
  abbrev room : ℕ
  room = min (length out) (length rules)

  -- a refused call writes nothing to either slice
  pub rules_refused_nothing : (number % 256 ≡ 0 → ⊥) → (out' ≡ out) × (rules' ≡ rules)
  rules_refused_nothing h = (
    run_refused_nothing (book_run standard book end sentence room) sentence out out' number call.ran h,
    call.noted ∙ refused_keeps (book_numbers standard book end sentence room) rules (λ v e. h (counted v e)),
  )
    where
      counted : (v : List ℕ) → book_numbers standard book end sentence room ≡ result v → number % 256 ≡ 0
      counted v e =
          let r = was_run {lim = standard} numbers book end sentence room v e in
          omega (arith, (made_counted (book_run standard book end sentence room) sentence out out' number call.ran (behavior r.cascade sentence) (r.makes behavior)).0)

  -- what one that is not refused leaves
  pub rules-noted : number % 256 ≡ 0 → Noted book end sentence out out' rules rules'
  rules-noted h =
      record {
        cascade = c;
        reads = r.reads;
        tags = out-is;
        numbers = rules_are;
        tells = λ q l.
            let tag : get_or (behavior c sentence) q 0 ≡ get_or out' q 0 = sym (ap (λ (x : List ℕ). get_or x q 0) out-is ∙ get_or-append (behavior c sentence) (drop (length sentence) out) 0 q (omega (arith, l, behavior-long))) in
            let noted : get_or (traced c sentence).numbers q 0 ≡ get_or rules' q 0 = sym (ap (λ (x : List ℕ). get_or x q 0) rules_are ∙ get_or-append (traced c sentence).numbers (drop (length sentence) rules) 0 q (omega (arith, l, traced-long c sentence))) in
            subst (λ (t : ℕ). Told c sentence q t (get_or rules' q 0)) tag (subst (Told c sentence q (get_or (behavior c sentence) q 0)) noted (told standard.pattern c valid sentence q l));
      }
    where
      made : (made : List ℕ) × (book_run standard book end sentence room ≡ result made)
      made = run-made (book_run standard book end sentence room) sentence out out' number call.ran (legible_book standard book end sentence room) h

      r : Read standard book end sentence room
      r = was_run {lim = standard} behavior book end sentence room made.0 made.1

      c : Cascade
      c = r.cascade

      valid : ValidCascade standard.pattern c
      valid = (reads-ending book end c r.reads).0.book_valid.rules_valid

      behavior-long : length (behavior c sentence) ≡ length sentence
      behavior-long = piecewise-long (apply_all c.rules) (apply_all-long c.rules) c.end sentence

      out-is : out' ≡ behavior c sentence ++ drop (length sentence) out
      out-is =
          (made_counted (book_run standard book end sentence room) sentence out out' number call.ran (behavior c sentence) (r.makes behavior)).1
          ∙ ap (λ (n : ℕ). behavior c sentence ++ drop n out) behavior-long

      rules_are : rules' ≡ (traced c sentence).numbers ++ drop (length sentence) rules
      rules_are =
          call.noted ∙ ap (λ (o : Outcome (List ℕ)). written o rules) (r.makes numbers)
          ∙ ap (λ (n : ℕ). (traced c sentence).numbers ++ drop n rules) (traced-long c sentence)
