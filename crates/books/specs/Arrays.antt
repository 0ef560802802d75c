-- "Reading keeps the patterns as an array of sixteen rows of six tags, with each length beside" (document 01), and "The rows that keep the
-- patterns hold eight tags from now on" (document 02, W8): the rules that the reader's arrays hold.
-- What else a rule has stands in a third array, its head. The sets stand in a fourth, a row a rule, 0 where a tag stands (document 02, W9): it has no rows while no set has been read.
use Rattle.std.specs.Prelude.{ℕ, zero, suc, ◌≤◌, ◌<◌, ◌≡◌, ◌⊎◌, List, [], ◌∷◌, reverse, eqb, length, get_or, take}
use Rattle.limits.specs.Limits.{most_rules, longest_pattern, no_end}
use Rattle.cascades.specs.Rule.{Kind, Rule, ValidRule, Cascade}
use Rattle.cascades.specs.Value.{kind_of, rule_with, places, last_set}
use Rattle.cascades.specs.Pattern.{word}
use Rattle.books.specs.declared.Head.{Head}
use Rattle.books.specs.declared.Rules.{Rules}

pub record Arrays : Type 0 where
  pub rows : List (List ℕ)
  pub lengths : List ℕ
  pub heads : List Head
  pub sets : List (List ℕ)

abbrev pub holding : List (List ℕ) → List ℕ → List Head → List (List ℕ) → Arrays
holding rows lengths heads sets = record { rows = rows; lengths = lengths; heads = heads; sets = sets }

-- the rules that are read, with the rows of their sets
abbrev pub arrays : Rules → List (List ℕ) → Arrays
arrays rules sets = holding rules.rows rules.lengths rules.heads sets

-- the head of no rule
abbrev pub no_head : Head
no_head = record { place = 0; tag = 0; command = 0; sets = 0 }

abbrev pub place_at : Arrays → ℕ → ℕ
place_at a i = (get_or a.heads i no_head).place

abbrev pub tag_at : Arrays → ℕ → ℕ
tag_at a i = (get_or a.heads i no_head).tag

abbrev pub kind_at : Arrays → ℕ → Kind
kind_at a i = kind_of (eqb (get_or a.heads i no_head).command 0x24)

abbrev pub sets_at : Arrays → ℕ → ℕ
sets_at a i = (get_or a.heads i no_head).sets

-- the first tags of a rule's row, as many as its pattern has places
abbrev pub row_at : Arrays → ℕ → List ℕ
row_at a i = take (get_or a.lengths i 0) (get_or a.rows i [])

abbrev pub rule_at : Arrays → ℕ → Rule
rule_at a i = rule_with (kind_at a i) (places (row_at a i) (take (sets_at a i) (get_or a.sets i []))) (place_at a i) (tag_at a i)

-- rows for sets: none, or one for each rule that there can be
pub record SetRows (sets : List (List ℕ)) : Type 0 where
  pub sets_long : (length sets ≡ 0) ⊎ (length sets ≡ most_rules)
  pub set_long : (i : ℕ) → i < length sets → length (get_or sets i []) ≡ longest_pattern

-- the arrays' lengths, that no pattern is longer than its row, where the last set is, and that the row has 0 at a set
pub record Shaped (a : Arrays) : Type 0 where
  pub rows_long : length a.rows ≡ most_rules
  pub row_long : (i : ℕ) → i < most_rules → length (get_or a.rows i []) ≡ longest_pattern
  pub lengths_long : length a.lengths ≡ most_rules
  pub length_short : (i : ℕ) → get_or a.lengths i 0 ≤ longest_pattern
  pub heads_long : length a.heads ≡ most_rules
  pub sets_long : (length a.sets ≡ 0) ⊎ (length a.sets ≡ most_rules)
  pub set_long : (i : ℕ) → i < length a.sets → length (get_or a.sets i []) ≡ longest_pattern
  pub sets_few : (i : ℕ) → i < most_rules → sets_at a i ≤ length (get_or a.sets i [])
  pub last_is : (i : ℕ) → i < most_rules → last_set (rule_at a i).pattern ≡ sets_at a i
  pub word_is : (i : ℕ) → i < most_rules → word (rule_at a i).pattern ≡ row_at a i

-- the first n rules, last first
abbrev pub rules_down : Arrays → ℕ → List Rule
rules_down a zero = []
rules_down a (suc n) = rule_at a n ∷ rules_down a n

-- the first n rules in the book's order, and the cascade over k tags that they are
abbrev pub rules_of : Arrays → ℕ → List Rule
rules_of a n = reverse (rules_down a n)

abbrev pub cascade_of : ℕ → Arrays → ℕ → Cascade
cascade_of k a n = record { tags = k; rules = rules_of a n; end = no_end }

-- the arrays hold m rules that are valid over k tags, with at most l places in a pattern
pub record RulesHeld (l k m : ℕ) (a : Arrays) : Type 0 where
  pub shaped : Shaped a
  pub few : m ≤ most_rules
  pub valid : (i : ℕ) → i < m → ValidRule l k (rule_at a i)
