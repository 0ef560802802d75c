-- A rule whose transducer is to be written to the work slice.
use Rattle.std.specs.Prelude.{ℕ, ◌+◌, ◌-◌, ◌≡◌, true, false, List, eqb, length}
use Rattle.words.specs.Pieces.{piecewise}
use Rattle.cascades.specs.Rule.{Kind, Rule, ValidRule}
use Rattle.cascades.specs.Rewrite.{apply}
use Rattle.transducers.specs.Transducer.{Shape}
use Rattle.transducers.specs.Tabulate.{Any}
use Rattle.minimal.specs.Matcher.{held, said, matching}
use Rattle.minimal.specs.OneRule.{one_rule}
use Rattle.workspace.specs.declared.Grid.{Grid}
use Rattle.workspace.specs.Cells.{Kept, InRows}
use Rattle.workspace.specs.Holds.{Stands}
use Rattle.matcher.specs.Next.{goes, turns}
use Rattle.alive.specs.Alive.{by_masks}

-- Of a rule whose pattern has the tags u, with its place p and its new tag t, the states as they are written.

-- without sets, so many, by the matched lengths
abbrev pub by_lengths : ℕ → List ℕ → ℕ → ℕ → Shape
by_lengths count u p t = record { count = count; next = λ j a. turns count (goes u j a); output = λ j a. said u p t j a (goes u j a); final = held u p }

-- with sets, by the masks of the tags
abbrev pub by_bits : Kind → List ℕ → List ℕ → ℕ → ℕ → Shape
by_bits k masks u p t = matching u p t (by_masks k (length u) masks)

-- a transducer that holds nothing after an end tag begins afresh there, and puts out no more
abbrev pub afresh : ℕ → Shape → Shape
afresh e S =
    record {
      count = S.count;
      next = λ q a. elim (eqb a e) [ true ↦ 0 | false ↦ S.next q a ];
      output = S.output;
      final = S.final;
    }

-- the rows from base hold the table of the rule's transducer, which does what the rule does with each piece, and holds at most one tag less
-- than a pattern may have
pub record Ruled (g : Grid) (W X : List ℕ) (base count end : ℕ) (r : Rule) : Type 0 where
  pub count_is : count ≡ (one_rule r).count
  pub kept : Kept g W X (InRows base (base + count))
  pub stands : (l : ℕ) → ValidRule l g.tags r → Stands g X base count (l - 1) (piecewise end (apply r)) Any
