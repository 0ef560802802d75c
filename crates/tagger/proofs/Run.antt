-- The run of a book, from what its reader answers; f makes the result or the numbers.
use Prim.Native.Nat.{ℕ, ◌≤◌}
use native.Mathlib.Omega.{arith}
use mathlib.Core.Path.{◌≡◌, sym, ap, ◌∙◌, subst}
use mathlib.Core.Bool.{false}
use mathlib.Core.List.{List}
use lib.ListN.{length}
use Rattle.limits.specs.Limits.{InRange, in_range, no_end}
use Rattle.limits.specs.declared.Limits.{Limits}
use Rattle.limits.proofs.Range.{within-is, without_is}
use Rattle.answers.specs.Outcome.{Outcome, and_then}
use Rattle.answers.specs.Answer.{refusal}
use Rattle.answers.specs.declared.Refusal.{Refusal}
use Rattle.answers.specs.declared.Refusal.TheVariants.{AtByte, AtRule, Bare}
use Rattle.std.specs.Prelude.{Result, Ok, Err}
use Rattle.answers.specs.declared.Reason.TheVariants.{BadLimit}
use Rattle.answers.specs.Slice.{written}
use Rattle.sentences.specs.Run.{run, Ran}
use Rattle.sentences.proofs.Run.{run-same, ran-refused}
use Rattle.cascades.specs.Rule.{Cascade}
use Rattle.cascades.specs.Rewrite.{apply_all, behavior}
use Rattle.cascades.proofs.Ending.{without_end}
use Rattle.books.specs.Read.{read}
use Rattle.books.specs.Ending.{fitted, read_ending}
use Rattle.books.specs.Arrays.{Arrays, rules_of, cascade_of}
use Rattle.books.specs.Resume.{ReadAs, Whole}
use Rattle.books.specs.declared.Count.{Count}
use Rattle.books.specs.declared.Unread.{Unread}
use Rattle.books.specs.declared.Unread.TheVariants.{Refused, Sets}
use Rattle.books.proofs.Encode.{reads_exactly}
use Rattle.books.proofs.Held.{was_refused, was_read, rules-held}
use Rattle.running.specs.Rules.{running, numbers}
use Rattle.running.proofs.Run.{numbers-kept}
use Rattle.tagging.specs.Reading.{reading}
use Rattle.endings.specs.Usable.{Usable}
use Rattle.endings.proofs.Ending.{usable}

module _ (lim : Limits) (f : Cascade → List ℕ → List ℕ) (bytes : List ℕ) (e : ℕ) (s : List ℕ) (room : ℕ) where
  -- what follows the test of the limits
  abbrev rest : Outcome (List ℕ)
  rest = and_then (read_ending lim bytes e) (λ b. run b.tags s room (f b s))

  inside : InRange lim → rest ≡ reading lim f bytes e s room
  inside ranged = sym (within-is lim rest ranged)

  -- 17
  pub limits_refused : in_range lim ≡ false → refusal (Bare BadLimit) ≡ reading lim f bytes e s room
  limits_refused out = sym (without_is lim rest out)

module _ {lim : Limits} (bytes : List ℕ) (a : Arrays) (r : Result Count Unread) (w : Whole lim bytes a r) (ranged : InRange lim) where
  module _ (f : Cascade → List ℕ → List ℕ) (e : ℕ) (s : List ℕ) (room : ℕ) where
    pub book_refused : (x : Refusal) → r ≡ Err (Refused x) → refusal x ≡ reading lim f bytes e s room
    book_refused x g = stays x (was_refused bytes a r w x g) ∙ inside lim f bytes e s room ranged
      where
        stays : (x : Refusal) → read lim bytes ≡ refusal x → refusal x ≡ rest lim f bytes e s room
        stays (AtByte n i) g = cc
        stays (AtRule n i) g = cc
        stays (Bare n) g = cc

    pub book_runs : (b : Count) → r ≡ Ok b → running f e (cascade_of b.tags a b.rules) s room ≡ reading lim f bytes e s room
    book_runs b g = sym (ap (λ (o : Outcome Cascade). and_then (and_then o (fitted e)) (λ b. run b.tags s room (f b s))) (was_read bytes a r w b g)) ∙ inside lim f bytes e s room ranged

  module _ (e : ℕ) (s : List ℕ) (room : ℕ) (out v : List ℕ) where
    -- the result and the numbers of a run: where the book is refused
    pub both_refused : (x : Refusal) → r ≡ Err (Refused x)
        → Ran (reading lim behavior bytes e s room) s out out (Err x) × (room ≤ length v → v ≡ written (reading lim numbers bytes e s room) v)
    both_refused x g = (
      ran-refused (reading lim behavior bytes e s room) s out x (book_refused behavior e s room x g),
      λ h. numbers-kept (reading lim numbers bytes e s room) x v (book_refused numbers e s room x g),
    )

    -- and where its rules are run
    pub both_run : (b : Count) (out' v' : List ℕ) (answer : Result ℕ Refusal) → r ≡ Ok b
        → Ran (running behavior e (cascade_of b.tags a b.rules) s room) s out out' answer × (room ≤ length v → v' ≡ written (running numbers e (cascade_of b.tags a b.rules) s room) v)
        → Ran (reading lim behavior bytes e s room) s out out' answer × (room ≤ length v → v' ≡ written (reading lim numbers bytes e s room) v)
    both_run b out' v' answer g (ran, noted) = (
      subst (λ (o : Outcome (List ℕ)). Ran o s out out' answer) (book_runs behavior e s room b g) ran,
      λ h. noted h ∙ ap (λ (o : Outcome (List ℕ)). written o v) (book_runs numbers e s room b g),
    )

  -- a set was met that there is no room for
  pub no_room : r ≡ Err Sets → length a.sets ≡ 0
  no_room g = subst (λ (x : Result Count Unread). ReadAs x a (read lim bytes)) g w.outcome

  module _ (b : Count) (f : r ≡ Ok b) where
    pub few_tags : b.tags ≤ no_end
    few_tags = let few = ((reads_exactly bytes (cascade_of b.tags a b.rules)).0 (was_read bytes a r w b f)).0.few_tags in omega (arith, few, ranged.few_tags)

    pub applicable : Usable b.rules a
    applicable = usable b.tags b.rules a (rules-held bytes a r w b f ranged)

    -- without an end tag, from what the rules make of the whole sentence
    pub book_runs_whole : (s : List ℕ) (room : ℕ) → run b.tags s room (apply_all (rules_of a b.rules) s) ≡ reading lim behavior bytes no_end s room
    book_runs_whole s room =
        let c = cascade_of b.tags a b.rules in
        run-same b.tags s room (apply_all (rules_of a b.rules) s) (behavior c s) (λ below. sym (without_end c few_tags s below)) ∙ book_runs behavior no_end s room b f
