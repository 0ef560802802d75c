-- What has been tested where a pair is compared.
use Prim.Native.Nat.{ℕ}
use native.Mathlib.Omega.{arith}
use mathlib.Core.Path.{◌≡◌, ap, ◌∙◌}
use mathlib.Core.List.{List}
use borrow.Author.Tests.{leb-true, eqb-true}
use lib.Dec.{eqb, leb}
use Rattle.limits.specs.Limits.{most_states}
use Rattle.limits.specs.declared.Limits.{Limits}
use Rattle.limits.proofs.Range.{within-result}
use Rattle.answers.specs.Outcome.{result, and_then}
use Rattle.answers.proofs.Outcome.{passed, went}
use Rattle.books.specs.Ending.{read_ending}
use Rattle.tables.specs.Decode.{Decoded, decode}
use Rattle.compilation.specs.Compile.{entries}
use Rattle.compilation.specs.Demand.{Premises}
use Rattle.checking.specs.Check.{Pair, paired, roomy, checkable}

-- "a valid book, an end tag, a well-formed table" over as many tags, and a work slice that is long enough
pub record Given (lim : Limits) (book : List ℕ) (end : ℕ) (bytes : List ℕ) (work : ℕ) (p : Pair) : Type 0 where
  pub premises : Premises lim book end most_states work p.cascade
  pub decodes : decode lim bytes ≡ result (record { tags = p.cascade.tags; table = p.table })

module _ (lim : Limits) (book : List ℕ) (end : ℕ) (bytes : List ℕ) (work : ℕ) (p : Pair) where
  pub given : checkable lim book end bytes work ≡ result p → Given lim book end bytes work p
  given e =
      let ranged = within-result lim (and_then (read_ending lim book end) (λ c. and_then (paired lim bytes c) (roomy lim work))) p e in
      let book_read = went (read_ending lim book end) (λ c. and_then (paired lim bytes c) (roomy lim work)) p ranged.1 in
      let c = book_read.first in
      let pair = went (paired lim bytes c) (roomy lim work) p book_read.then in
      let table = went (decode lim bytes) _ pair.first pair.read in
      let d = table.first in
      let level = passed 20 (eqb d.tags c.tags) _ pair.first table.then in
      let long = passed 9 (leb (entries lim most_states pair.first.cascade) work) _ p pair.then in
      let made : Pair = record { cascade = c; table = d.table } in
      let one : made ≡ pair.first = cc level.1 in
      let two : pair.first ≡ p = cc long.1 in
      let same : made ≡ p = one ∙ two in
      let whole : Decoded = record { tags = c.tags; table = d.table } in
      let tags : d ≡ whole = ap (λ (k : ℕ). record { tags = k; table = d.table }) (eqb-true d.tags c.tags level.0) in
      rw (← same)
      (record {
        premises =
            record {
              ranged = ranged.0;
              reads = book_read.read;
              some = omega arith;
              most = omega arith;
              long = leb-true (entries lim most_states c) work (ap (λ (q : Pair). leb (entries lim most_states q.cascade) work) one ∙ long.0);
            };
        decodes = table.read ∙ ap (λ (x : Decoded). result x) tags;
      })
