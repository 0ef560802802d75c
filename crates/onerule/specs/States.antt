-- The states of a rule's transducer as numbers, whichever way what is matched is kept.
use Rattle.std.specs.Prelude.{ℕ, ◌+◌, ◌≤◌, ◌<◌, ◌≡◌, false, List, length, get_or}
use Rattle.limits.specs.Limits.{longest_pattern}
use Rattle.borders.specs.Border.{Borders}
use Rattle.cascades.specs.Pattern.{plain}
use Rattle.cascades.specs.Rule.{Kind}
use Rattle.cascades.specs.Ending.{before}
use Rattle.transducers.specs.Transducer.{Shape}
use Rattle.minimal.specs.Matcher.{held, said}
use Rattle.minimal.specs.Bits.{width, alive_states}
use Rattle.workspace.specs.declared.Grid.{Grid}
use Rattle.workspace.specs.Entries.{NEXT}
use Rattle.workspace.specs.Cells.{at}
use Rattle.matcher.specs.Next.{goes, restarts}
use Rattle.alive.specs.Alive.{Narrow, stepped, leads}
use Rattle.onerule.specs.declared.Pattern.{Pattern}

-- how many states, how much of the pattern is matched in each, how much after a tag, and the state that it leads to
pub record Numbered : Type 0 where
  pub count : ℕ
  pub matched : ℕ → ℕ
  pub grown : ℕ → ℕ → ℕ
  pub next : ℕ → ℕ → ℕ

-- with the words of a pattern
abbrev pub speaking : Numbered → Pattern → Shape
speaking N p =
    record {
      count = N.count;
      next = N.next;
      output = λ q a. said p.tags.now p.place p.tag (N.matched q) a (N.grown q a);
      final = λ q. held p.tags.now p.place (N.matched q);
    }

-- no more than the n places of the pattern are matched, and a tag matches at most one more
pub record Within (n : ℕ) (N : Numbered) : Type 0 where
  pub matched_few : (q : ℕ) → q < N.count → N.matched q ≤ n
  pub grown_few : (q a : ℕ) → q < N.count → N.grown q a ≤ n
  pub grown_next : (q a : ℕ) → q < N.count → N.grown q a ≤ N.matched q + 1

-- the rows from base have the next states of the states before q
pub record Before (g : Grid) (W : List ℕ) (base : ℕ) (N : Numbered) (q : ℕ) : Type 0 where
  pub next_is : (b a : ℕ) → b < q → a < g.tags → at g W (base + b) a NEXT ≡ N.next b a

-- without sets, so many, by the matched lengths
abbrev pub in_lengths : ℕ → List ℕ → ℕ → Numbered
in_lengths count u e = record { count = count; matched = λ j. j; grown = goes u; next = λ j a. restarts count e a (goes u j a) }

pub record ByLengths (count : ℕ) (borders u : List ℕ) (e : ℕ) : Type 0 where
  pub borders_are : Borders u borders
  pub short : length u ≤ longest_pattern
  pub most : length u ≤ count
  pub few : count ≤ length u + 1
  pub free : before e (plain u) ≡ false

-- with sets, by the masks of the tags
abbrev pub in_bits : Kind → List ℕ → List ℕ → ℕ → Numbered
in_bits k masks u e =
    record {
      count = alive_states k (length u);
      matched = width (length u);
      grown = λ s a. width (length u) (stepped s (get_or masks a 0));
      next = λ s a. leads k (length u) e s (stepped s (get_or masks a 0)) a;
    }

pub record ByBits (k : ℕ) (masks u : List ℕ) : Type 0 where
  pub some : 0 < length u
  pub short : length u ≤ longest_pattern
  pub narrow : Narrow (length u) k masks
