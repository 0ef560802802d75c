-- What the table of a cascade is, for every longest pattern l and every cascade of valid rules.
-- The definitions that these theorems speak of are `behavior` (what a book makes of a sentence), `Transducer` and `turns` (a
-- sequential machine and what it turns a sentence into), `puts` and `shape` (the same of a table), and `table_of`.
use Prim.Native.Nat.{ℕ, ◌+◌, ◌*◌, ◌-◌, ◌≤◌, ◌<◌}
use native.Mathlib.Omega.{arith}
use mathlib.Core.Path.{◌≡◌, sym, subst}
use mathlib.Core.Logic.{◌↔◌}
use mathlib.Core.Bool.{false}
use mathlib.Core.List.{List, [], ◌∷◌, ◌++◌}
use lib.ListN.{length, get_or}
use Rattle.words.specs.Word.{Below, Prefix}
use Rattle.words.proofs.Word.{below_at}
use Rattle.cascades.specs.Pattern.{word}
use Rattle.cascades.specs.Rule.{once, everywhere, Rule, has_set, ValidRule, Cascade, having, leading, ValidCascade}
use Rattle.cascades.specs.Rewrite.{behavior}
use Rattle.cascades.specs.Ending.{misused}
use Rattle.cascades.specs.Spares.{Spare}
use Rattle.cascades.proofs.Pattern.{word-length}
use Rattle.cascades.proofs.Ending.{misused_outside}
use Rattle.transducers.specs.Transducer.{puts, Transducer, turns}
use Rattle.transducers.specs.Table.{Table, shape}
use Rattle.transducers.specs.Run.{outputs}
use Rattle.transducers.specs.Canonical.{Reached, Sound, Held, Canonical}
use Rattle.transducers.specs.Numbered.{AsReached}
use Rattle.transducers.specs.Tabulate.{Rows}
use Rattle.minimal.specs.TableOf.{table_of}
use Rattle.minimal.proofs.TableOf.{Good, good, good_smallest, good_ahead, good_more, good_early, good_only, good_canonical, count-other, count-ending, count-everywhere, valid-take, spare_take}

module _ (l : ℕ) (c : Cascade) (valid : ValidCascade l c) (spare : Spare c.end c.rules) where
  -- the table turns every sentence into what the book makes of it
  pub does : (w : List ℕ) → Below c.tags w → puts (shape (table_of c)) 0 w ≡ behavior c w
  does = (good l c valid spare).doing.does

  -- no machine that does so has fewer states
  pub smallest : (M : Transducer c.tags) → ((w : List ℕ) → Below c.tags w → turns M w ≡ behavior c w) → length (table_of c) ≤ M.shape.count
  smallest = good_smallest c.tags ((l - 1) * length c.rules) (behavior c) (table_of c) (good l c valid spare)

  -- and none has put out more after any tags read
  pub soonest : (M : Transducer c.tags) → ((w : List ℕ) → Below c.tags w → turns M w ≡ behavior c w)
      → (w : List ℕ) → Below c.tags w → Prefix (M.initial ++ outputs M.shape M.start w) (outputs (shape (table_of c)) 0 w)
  soonest = good_ahead c.tags ((l - 1) * length c.rules) (behavior c) (table_of c) (good l c valid spare)

  -- "the words it can still put out have no common front"
  pub early : (q : ℕ) → q < length (table_of c) → (z : List ℕ) → ((x : List ℕ) → Below c.tags x → Prefix z (puts (shape (table_of c)) q x)) → z ≡ []
  early = good_early c.tags ((l - 1) * length c.rules) (behavior c) (table_of c) (good l c valid spare)

  -- "States are numbered as first reached from state 0, lower-numbered states first and within a state lower tags first"
  pub numbered : AsReached c.tags (shape (table_of c))
  numbered = (good l c valid spare).canonical.numbered

  pub reached : (q : ℕ) → q < length (table_of c) → Reached c.tags (shape (table_of c)) q
  reached = (good l c valid spare).canonical.minimal.reached

  -- no other table is the smallest, early and numbered one
  pub only : (t : Table) → Rows c.tags t → Canonical c.tags (shape t) → ((w : List ℕ) → Below c.tags w → puts (shape t) 0 w ≡ behavior c w) → t ≡ table_of c
  only = good_only c.tags ((l - 1) * length c.rules) (behavior c) (table_of c) (good l c valid spare)

  -- it has a state, state 0 holds nothing, next states are below the number of states, tags below k, and "each step from a state
  -- holding d to one holding e puts out exactly d + 1 − e tags"
  pub sound : Sound c.tags (shape (table_of c))
  sound = (good l c valid spare).doing.sound

  -- each state has a step for each tag
  pub rows : Rows c.tags (table_of c)
  rows = (good l c valid spare).doing.rows

  -- each state holds at most l − 1 tags for each rule
  pub held : Held ((l - 1) * length c.rules) (shape (table_of c))
  held = (good l c valid spare).doing.held

-- a cascade needs more than n states in every machine exactly if its table has more
pub needs : (l : ℕ) (c : Cascade) → ValidCascade l c → Spare c.end c.rules → (n : ℕ)
    → ((M : Transducer c.tags) → ((w : List ℕ) → Below c.tags w → turns M w ≡ behavior c w) → n < M.shape.count) ↔ (n < length (table_of c))
needs l c valid spare = good_more c.tags ((l - 1) * length c.rules) (behavior c) (table_of c) (good l c valid spare)

-- a leading part's rules are valid
pub valid-leading : (l : ℕ) (c : Cascade) → ValidCascade l c → (i : ℕ) → ValidCascade l (leading i c)
valid-leading l c valid i = valid-take l c.tags i c.rules valid

pub spare_leading : (c : Cascade) → Spare c.end c.rules → (i : ℕ) → Spare (leading i c).end (leading i c).rules
spare_leading c spare i = spare_take c.end i c.rules spare

-- two cascades over the same tags have equal tables exactly if they make the same of every sentence
pub canonical : (l m : ℕ) (c d : Cascade) → ValidCascade l c → Spare c.end c.rules → ValidCascade m d → Spare d.end d.rules → c.tags ≡ d.tags
    → (table_of c ≡ table_of d) ↔ ((w : List ℕ) → Below c.tags w → behavior c w ≡ behavior d w)
canonical l m c d v s w u k =
    good_canonical c.tags ((l - 1) * length c.rules) ((m - 1) * length d.rules) (behavior c) (behavior d) (table_of c) (table_of d)
    (good l c v s) (subst (λ (x : ℕ). Good x ((m - 1) * length d.rules) (behavior d) (table_of d)) (sym k) (good m d w u))

-- "The state counts ... for one rule are those of rules without sets" (document 02, W9).

-- 002, proposition 5: the table of one leftmost rule has one state more than its pattern has tags; and as many as that where the pattern ends
-- with the end tag, for no state is needed behind a whole match (document 02, W1)
pub one-rule : (l : ℕ) (c : Cascade) (r : Rule) → ValidRule l c.tags r → has_set r ≡ false → misused c.end r ≡ false → r.kind ≡ once
    → (get_or (word r.pattern) (length r.pattern - 1) 0 ≡ c.end → ⊥) → length (table_of (having c (r ∷ []))) ≡ length r.pattern + 1
one-rule = count-other

pub one_rule-ending : (l : ℕ) (c : Cascade) (r : Rule) → ValidRule l c.tags r → has_set r ≡ false → misused c.end r ≡ false → r.kind ≡ once
    → get_or (word r.pattern) (length r.pattern - 1) 0 ≡ c.end → length (table_of (having c (r ∷ []))) ≡ length r.pattern
one_rule-ending = count-ending

-- "Such a rule's smallest table has |u| states": that of an everywhere rule, with and without an end tag (document 02, W4)
pub one_rule-everywhere : (l : ℕ) (c : Cascade) (r : Rule) → ValidRule l c.tags r → has_set r ≡ false → misused c.end r ≡ false → r.kind ≡ everywhere
    → length (table_of (having c (r ∷ []))) ≡ length r.pattern
one_rule-everywhere = count-everywhere

-- with no end tag among the tags, the first and the third
module _ (l : ℕ) (c : Cascade) (r : Rule) (outside : c.tags ≤ c.end) (ok : ValidRule l c.tags r) (none : has_set r ≡ false) where
  pub one_rule_alone : r.kind ≡ once → length (table_of (having c (r ∷ []))) ≡ length r.pattern + 1
  one_rule_alone kind =
      one-rule l c r ok none (misused_outside l c.tags c.end outside r ok) kind
      (λ f. omega (arith, f, below_at c.tags (word r.pattern) (length r.pattern - 1) (omega (arith, ok.place_inside, word-length r.pattern)) ok.pattern_below))

  pub one_rule_everywhere_alone : r.kind ≡ everywhere → length (table_of (having c (r ∷ []))) ≡ length r.pattern
  one_rule_everywhere_alone = one_rule-everywhere l c r ok none (misused_outside l c.tags c.end outside r ok)
