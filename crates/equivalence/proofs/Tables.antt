-- The two tables' states, and the entries of a step.
use Prim.Native.Nat.{ℕ, ◌+◌, ◌-◌, ◌*◌, ◌/◌, ◌≤◌, ◌<◌}
use native.Mathlib.Nat.{zero-add}
use native.Mathlib.Omega.{arith}
use mathlib.Core.Path.{◌≡◌, ◌∙◌}
use mathlib.Core.List.{List}
use lib.ListN.{length, get_or}
use Rattle.limits.specs.Limits.{most_tags, most_states}
use Rattle.limits.specs.declared.Limits.{Limits}
use Rattle.transducers.specs.Transducer.{Shape}
use Rattle.transducers.specs.Canonical.{Inside}
use Rattle.agreement.specs.Search.{total}
use Rattle.agreement.specs.Stored.{Searching, left_at, right_at}
use Rattle.agreement.proofs.Stored.{stored_bound, stored-states}
use Rattle.steps.specs.Entry.{base_of, EntryOf}
use Rattle.steps.proofs.Places.{row_inside, next_of}
use Rattle.workspace.specs.declared.Grid.{Grid}
use Rattle.workspace.specs.Entries.{NEXT}
use Rattle.workspace.specs.Cells.{at, In}
use Rattle.workspace.specs.Holds.{standing}
use Rattle.workspace.proofs.Holds.{length_at}
use Rattle.workspace.proofs.Views.{next_is}
use Rattle.comparing.specs.Step.{Comparable, most}
use Rattle.equivalence.specs.Tables.{Tables, table_in, given}

module _ {lim : Limits} {bs ix : List ℕ} {g : Grid} {W : List ℕ} {m s : ℕ} (ok : Tables lim bs ix g W m s) where
  abbrev S : Shape
  S = given lim bs

  abbrev T : Shape
  T = standing g W 0 m

  pub left-inside : Inside g.tags S
  left-inside = ok.indexed.sound.next_below

  pub right-inside : Inside g.tags T
  right-inside = ok.ready.sound.next_below

  pub left-some : 0 < S.count
  left-some = ok.indexed.sound.some

  pub right-some : 0 < T.count
  right-some = ok.ready.sound.some

  pub sum : total S T ≡ s + m
  sum = omega (arith, ok.states, length_at g W 0 m)

  pub few : s + m ≤ 512
  few = omega (arith, ok.states, ok.indexed.few_states, ok.few_states)

  -- the listed words and their states are few
  module _ {n i a : ℕ} {labels pairs : List ℕ} (found : Searching g.tags S T n i a labels pairs) where
    pub bound : n < s + m
    bound = omega (arith, sum, stored_bound g.tags S T left-inside right-inside left-some right-some found)

    pub left-low : (j : ℕ) → j < n → left_at pairs j < length (table_in lim bs)
    left-low j h = (stored-states g.tags S T left-inside right-inside left-some right-some found j h).0

    pub right-low : (j : ℕ) → j < n → right_at pairs j < m
    right-low j h = omega (arith, length_at g W 0 m, (stored-states g.tags S T left-inside right-inside left-some right-some found j h).1)

  -- a step from p and q on a
  module _ (p q a : ℕ) (hp : p < length (table_in lim bs)) (hq : q < m) (ha : a < g.tags) where
    pub comparable : (out : List ℕ) → most + 2 ≤ length out → Comparable bs ix g W m p q a out
    comparable out room =
        record {
          table = table_in lim bs;
          indexed = ok.indexed;
          ready = ok.ready;
          held = ok.held;
          few_tags = ok.few_tags;
          left = hp;
          right = hq;
          tag = ha;
          room = room;
        }

    pub entry_in : (p < most_states) × (g.tags ≤ most_tags) × (p * (g.tags + 1) + (a + 1) < length ix)
    entry_in = (
      omega (arith, ok.indexed.few_states),
      ok.few_tags,
      omega (arith, row_inside p (length (table_in lim bs)) g.tags (length ix) hp ok.indexed.room),
    )

    step-entry : (e : ℕ) → e ≡ get_or ix (p * (g.tags + 1) + (a + 1)) 0 → EntryOf bs (S.next p a * (g.tags + 1) + 1) (S.output p a) e
    step-entry e i =
        let at-cell : p * (g.tags + 1) + (a + 1) ≡ p * (g.tags + 1) + 1 + a = omega arith in
        rw (i, at-cell) ((ok.indexed.cells p hp).steps a ha)

    pub base_some : (e : ℕ) → e ≡ get_or ix (p * (g.tags + 1) + (a + 1)) 0 → (1 ≤ base_of e) × (g.tags ≤ most_tags)
    base_some e i = (omega (arith, (step-entry e i).base_is), ok.few_tags)

    pub left-next : (e left : ℕ) → e ≡ get_or ix (p * (g.tags + 1) + (a + 1)) 0 → left ≡ (base_of e - 1) / (g.tags + 1) → left ≡ S.next p a
    left-next e left i is = is ∙ next_of (S.next p a) g.tags (base_of e) (step-entry e i).base_is

    pub next_in : In g q a NEXT
    next_in = record { row = omega (arith, ok.ready.inside); cell = omega arith; entry = omega (arith, ok.ready.room) }

    pub right-next : (right : ℕ) → right ≡ at g W q a NEXT → right ≡ T.next q a
    right-next right is = is ∙ rw (zero-add q) at (next_is g W 0 m ok.ready q a hq ha)

    pub left_next_low : S.next p a < s
    left_next_low = omega (arith, ok.states, left-inside p a hp ha)

    pub right_next_low : T.next q a < m
    right_next_low = omega (arith, length_at g W 0 m, right-inside q a (omega (arith, length_at g W 0 m)) ha)
