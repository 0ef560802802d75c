-- The two outcomes of a run with rule numbers are refused alike, and where they are not they are the run's and its numbers.
use Prim.Native.Nat.{ℕ}
use native.Mathlib.Omega.{arith}
use mathlib.Core.Path.{◌≡◌, ap, ◌∙◌}
use mathlib.Core.List.{List}
use Rattle.limits.specs.Limits.{InRange}
use Rattle.limits.specs.declared.Limits.{Limits}
use Rattle.limits.proofs.Range.{within-is, within-result}
use Rattle.answers.specs.Outcome.{Outcome, result, and_then}
use Rattle.answers.proofs.Outcome.{went}
use Rattle.sentences.specs.Run.{run}
use Rattle.sentences.proofs.Run.{run-accepts, accepted-run}
use Rattle.cascades.specs.Rule.{Cascade}
use Rattle.books.specs.Ending.{read_ending}
use Rattle.books.proofs.Ending.{reads-ending}
use Rattle.tagging.specs.Reading.{reading}

-- the cascade that was read, and whatever is made by it
pub record Read (lim : Limits) (book : List ℕ) (end : ℕ) (sentence : List ℕ) (room : ℕ) : Type 0 where
  pub ranged : InRange lim
  pub cascade : Cascade
  pub reads : read_ending lim book end ≡ result cascade
  pub makes : (g : Cascade → List ℕ → List ℕ) → reading lim g book end sentence room ≡ result (g cascade sentence)

-- of a book and a sentence that are not refused
pub was_run : {lim : Limits} (f : Cascade → List ℕ → List ℕ) (book : List ℕ) (end : ℕ) (sentence : List ℕ) (room : ℕ) (made : List ℕ)
    → reading lim f book end sentence room ≡ result made → Read lim book end sentence room
was_run {lim} f book end sentence room made e =
    let w = within-result lim (after f) made e in
    let t = went (read_ending lim book end) (λ b. run b.tags sentence room (f b sentence)) made w.1 in
    let c = t.first in
    let a = (run-accepts c.tags sentence room (f c sentence) made t.then).0 in
    let v = (reads-ending book end c t.read).0 in
    record {
      ranged = w.0;
      cascade = c;
      reads = t.read;
      makes = λ g. within-is lim (after g) w.0
          ∙ ap (λ (o : Outcome Cascade). and_then o (λ b. run b.tags sentence room (g b sentence))) t.read
          ∙ accepted-run c.tags sentence room (g c sentence) (omega (arith, v.book_valid.enough_tags)) a;
    }
  where
    after : (Cascade → List ℕ → List ℕ) → Outcome (List ℕ)
    after g = and_then (read_ending lim book end) (λ b. run b.tags sentence room (g b sentence))
